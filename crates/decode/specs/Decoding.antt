-- Decoding a file, or one block of it: the checks, the answer and the sound. Assumes nothing.
use Rattle.std.specs.Prelude.{ℕ, ◌*◌, List, [], ◌∷◌, leb, ℤ, Result, Ok, Err}
use Rattle.units.specs.declared.Frames.{Frames}
use Rattle.units.specs.declared.Refusal.{Refusal}
use Rattle.units.specs.declared.Refusal.TheVariants.{OutputTooSmall, BlockHeaderWrong, NoSuchBlock}
use Rattle.units.specs.Refusals.{verdict_number, Verdict}
use Rattle.units.specs.Checks.{Check, check, decided}
use Rattle.formats.specs.declared.Format.{Format}
use Rattle.reader.specs.Content.{Content, refused, holds, content_of}
use Rattle.sound_data.specs.Sound.{block_valid, block_at, has_block, block_sound, whole_sound, data_valid}

-- what decoding answers: how many frames were put out, or the refusal
abbrev pub Decoded : Type 0
Decoded = Result Frames Refusal

-- ---- the checks, on sound data w of a format

-- 14, room below F x channels; then 15 for any block
abbrev pub whole_checks : Format → ℕ → List ℕ → ℕ → List Check
whole_checks f frames w room =
    check (leb (frames * f.channels) room) OutputTooSmall
    ∷ check (data_valid f w) BlockHeaderWrong
    ∷ []

unfoldable pub whole_verdict : Format → ℕ → List ℕ → ℕ → Verdict
whole_verdict f frames w room = decided (whole_checks f frames w room)

-- 20, also for PCM; 14, room below S x channels; 15
abbrev pub block_checks : Format → List ℕ → ℕ → ℕ → List Check
block_checks f w k room =
    check (has_block f w k) NoSuchBlock
    ∷ check (leb (f.samples * f.channels) room) OutputTooSmall
    ∷ check (block_valid f (block_at f w k)) BlockHeaderWrong
    ∷ []

unfoldable pub block_verdict : Format → List ℕ → ℕ → ℕ → Verdict
block_verdict f w k room = decided (block_checks f w k room)

-- ---- the answers

-- frames that were put out, or the refusal
abbrev pub decoded_by : Verdict → ℕ → Decoded
decoded_by (Ok _) n = Ok (record { 0 = n })
decoded_by (Err r) n = Err r

-- the reader's refusals first
abbrev pub whole_answer : Content → ℕ → Decoded
whole_answer (refused r) room = Err r
whole_answer (holds m w) room = decoded_by (whole_verdict m.format m.frames.0 w room) m.frames.0

abbrev pub block_answer : Content → ℕ → ℕ → Decoded
block_answer (refused r) k room = Err r
block_answer (holds m w) k room = decoded_by (block_verdict m.format w k room) m.format.samples

-- decoding a file s, or its block k, with room for so many samples
unfoldable pub decoding : List ℕ → ℕ → Decoded
decoding s room = whole_answer (content_of s) room

unfoldable pub block_decoding : List ℕ → ℕ → ℕ → Decoded
block_decoding s k room = block_answer (content_of s) k room

-- ---- the sound

-- of what a file holds
abbrev pub content_sound : Content → List ℤ
content_sound (refused r) = []
content_sound (holds m w) = whole_sound m.format m.frames.0 w

abbrev pub content_block : Content → ℕ → List ℤ
content_block (refused r) k = []
content_block (holds m w) k = block_sound m.format w k

-- of a file s, F frames; and of its block k, with its fill
unfoldable pub file_sound : List ℕ → List ℤ
file_sound s = content_sound (content_of s)

unfoldable pub file_block : List ℕ → ℕ → List ℤ
file_block s k = content_block (content_of s) k

-- ---- what an answer tells

-- how many frames; a refusal tells none
abbrev pub decoded_frames : Decoded → ℕ
decoded_frames (Ok n) = n.0
decoded_frames (Err r) = 0

-- the verdict, and its number: 0 where the sound is put out
abbrev pub decoded_verdict : Decoded → Verdict
decoded_verdict (Ok n) = Ok tt
decoded_verdict (Err r) = Err r

abbrev pub decoded_number : Decoded → ℕ
decoded_number x = verdict_number (decoded_verdict x)
