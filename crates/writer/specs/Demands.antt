-- Demand 2 of written files, for every record, sound and room. `proofs/Demands.antt` proves each. Assumes nothing.
use Rattle.std.specs.Prelude.{ℕ, ◌+◌, ◌%◌, ◌≤◌, ◌<◌, ◌≡◌, true, false, List, [], ◌∷◌, T, length, take, Err, Ok}
use Rattle.std.proofs.Math.Pow.{are_bytes}
use Rattle.units.specs.Refusals.{file_limit}
use Rattle.units.specs.declared.BytePlace.{BytePlace}
use Rattle.units.specs.declared.Refusal.{Refusal}
use Rattle.units.specs.declared.Refusal.TheVariants.{LengthOutOfRange, FormatWrong, FactWrong, OutputTooSmall, TitlesWrong}
use Rattle.formats.specs.Format.{format_rule}
use Rattle.formats.specs.Frames.{needs_fact}
use Rattle.formats.specs.Bytes.{format_bytes, said_format}
use Rattle.codes.specs.declared.Code.TheVariants as code
use Rattle.riff.specs.Laying.{piece, given, file_bytes}
use Rattle.titles.specs.Titles.{entries_of}
use Rattle.titles.specs.Writing.{Sayable}
use Rattle.rules.specs.declared.Record.{Record}
use Rattle.rules.specs.Written.{record_kept, RecordFits}
use Rattle.reader.specs.Content.{reading, sound_in, titles_in, texts_in}
use Rattle.writer.specs.Promise.{write_number}
use Rattle.writer.specs.File.{size_of, fact_chunk, cues_chunk, plays_chunk, file_of, writing, written_number}
use Rattle.rules.specs.Rules.{record_in, reading_verdict}

-- ---- a written file, n bytes long, reads back to the same record, zero past the counts, to the sound handed over, byte for byte, and
-- to the same titles with their texts, which are the bytes lent for them, from the first on
pub record ReadsBack (m : Record) (b w : List ℕ) (n : BytePlace) : Type 0 where
  pub long : n ≡ size_of (file_of m b w)
  pub verdict : reading_verdict (reading (file_of m b w)) ≡ Ok tt
  pub made : record_in (reading (file_of m b w)) ≡ record_kept m
  pub sound : sound_in (file_of m b w) ≡ w
  pub titles : titles_in (file_of m b w) ≡ entries_of b m.titles
  pub texts : texts_in (file_of m b w) ≡ take (length (texts_in (file_of m b w))) b

unfoldable pub Back : Type 0
Back =
    (m : Record) (b w : List ℕ) (room : ℕ) (n : BytePlace) → RecordFits m → writing m b w room ≡ Ok n → ReadsBack m b w n

-- ---- every record that reading gives is written with that file's texts and sound, wherever there is room for the new file, which is not
-- longer than the old one with its last pad

abbrev pub file_again : List ℕ → List ℕ
file_again s = file_of (record_in (reading s)) (texts_in s) (sound_in s)

pub record Rewritten (s : List ℕ) : Type 0 where
  pub written : (room : ℕ) → length (file_again s) ≤ room
      → writing (record_in (reading s)) (texts_in s) (sound_in s) room ≡ Ok (size_of (file_again s))
  pub not_longer : length (file_again s) ≤ length s + length s % 2

unfoldable pub Again : Type 0
Again = (s : List ℕ) → reading_verdict (reading s) ≡ Ok tt → Rewritten s

-- ---- what is read of a file of bytes, written and read again is the same: the record, the sound, and the titles with their texts
pub record SameAgain (s : List ℕ) : Type 0 where
  pub read : reading (file_again s) ≡ reading s
  pub sound : sound_in (file_again s) ≡ sound_in s
  pub titles : titles_in (file_again s) ≡ titles_in s

unfoldable pub Same : Type 0
Same = (s : List ℕ) → T (are_bytes s) → reading_verdict (reading s) ≡ Ok tt → SameAgain s

-- ---- a refusal of `write` is the number that reading the bytes gives, where those bytes carry the fault

-- a PCM file says neither its samples per block nor F; a list of titles neither where their texts stood, nor what it has no room for,
-- nor a kind that is none; a lent buffer is no part of a file; and a file above the limit is refused for that before anything else
pub record Carries (m : Record) (b w : List ℕ) (r : Refusal) : Type 0 where
  pub format : r ≡ FormatWrong → format_rule (said_format m.format) ≡ false
  pub frames : r ≡ FactWrong → needs_fact m.format ≡ true
  pub titles : r ≡ TitlesWrong → Sayable b m.titles
  pub room : r ≡ OutputTooSmall → ⊥
  pub limit : file_limit < length (file_of m b w) → r ≡ LengthOutOfRange

unfoldable pub SameNumber : Type 0
SameNumber =
    (m : Record) (b w : List ℕ) (room : ℕ) (r : Refusal) → RecordFits m → Carries m b w r → writing m b w room ≡ Err r
    → reading_verdict (reading (file_of m b w)) ≡ Err r

-- ---- the number of an answer, in the order of checks and the numbers of document 01
unfoldable pub WriteNumbered : Type 0
WriteNumbered = (m : Record) (b w : List ℕ) (room : ℕ) → written_number (writing m b w room) ≡ write_number m b w room

-- ---- a record without titles is written to the same bytes as before there were titles: the other chunks, one after the other, whatever
-- is lent for texts
unfoldable pub Untitled : Type 0
Untitled =
    (m : Record) (b w : List ℕ) → m.titles.count ≡ 0
    → file_of m b w
    ≡ file_bytes
    (piece code.Format (format_bytes m.format)
    ∷ given code.Fact (fact_chunk m.format m.frames)
    (given code.Cue (cues_chunk m.cues) (given code.Playlist (plays_chunk m.playlist) (piece code.Data w ∷ []))))
