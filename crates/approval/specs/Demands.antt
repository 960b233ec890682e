-- Demand 3 for the approval copy: its record may be written with the blocks that encoding made, and whoever decodes the
-- file hears the sound as well as the demand says. Assumes nothing.
use Rattle.std.specs.Prelude.{ℕ, ◌+◌, ◌-◌, ◌*◌, ◌/◌, ◌%◌, ◌≤◌, ◌<◌, ◌≡◌, true, false, List, [], ◌∷◌, ℤ, pos, nat_abs, ◌-ℤ◌, length, Ok}
use Rattle.units.specs.declared.BytePlace.{BytePlace}
use Rattle.formats.specs.Format.{ima_samples, codable, ima_format, format_rule}
use Rattle.rules.specs.declared.Record.{Record}
use Rattle.rules.specs.Rules.{Writable}
use Rattle.reader.specs.Content.{holds, content_of, sound_in}
use Rattle.ima_code.specs.Code.{step_at}
use Rattle.ima_code.specs.Quality.{Sixteen, Between, at_most}
use Rattle.encode.specs.declared.Coded.{Coded}
use Rattle.encode.specs.Encoding.{encoded_bytes}
use Rattle.encode.specs.Answer.{coded_of, encoding}
use Rattle.encode.specs.Demands.{frame_of, heard_at, chased_frames, Heard}
use Rattle.decode.specs.Decoding.{decoding, file_sound}
use Rattle.writer.specs.File.{file_of, writing}
use Rattle.approval.specs.Approval.{approval_record}

-- the record of the approval copy of a sound s
abbrev pub record_for : List ℤ → ℕ → ℕ → ℕ → Record
record_for s c rate a = approval_record c rate a (record { 0 = length s / c })

-- ---- the record of every copy keeps the rules of writing, 9 to 13, with the blocks of its sound
unfoldable pub RulesHold : Type 0
RulesHold =
    (s : List ℤ) (c rate a : ℕ) → codable c a ≡ true → 1 ≤ rate → rate ≤ 192000
    → Writable (record_for s c rate a) (record { 0 = length (encoded_bytes c a s) })

-- but not where encoding refuses the channels or the align: that is 9
unfoldable pub RuleBroken : Type 0
RuleBroken = (s : List ℤ) (c rate a : ℕ) → codable c a ≡ false → format_rule (record_for s c rate a).format ≡ false

-- the step at a later frame: the one that the index after the frame before says
abbrev pub step_after : ℕ → ℕ → List ℤ → ℕ → ℕ → ℕ
step_after c a s ch f = step_at (heard_at c a (encoded_bytes c a s) ch f).index

-- ---- a file decodes as a sound s of c channels, coded in blocks of align a, whose chased samples are told
pub record Copy (s : List ℤ) (c a : ℕ) (told : Coded) (file : List ℕ) (room : ℕ) : Type 0 where
  -- its sound data are the blocks of the sound
  pub sound : sound_in file ≡ encoded_bytes c a s
  -- all its frames come back
  pub frames : decoding file room ≡ Ok (record { 0 = length s / c })
  pub long : length (file_sound file) ≡ length s
  -- what is decoded is what the demand speaks of
  pub decoded : (ch f : ℕ) → ch < c → f < length s / c
      → frame_of c (file_sound file) ch f ≡ (heard_at c a (encoded_bytes c a s) ch f).last
  -- in each channel the first sample of a block is exact
  pub opening : (ch f : ℕ) → ch < c → f < length s / c → f % ima_samples c a ≡ 0
      → frame_of c (file_sound file) ch f ≡ frame_of c s ch f
  -- a later one, less than twice the step away from its prediction, which is the sample decoded before it, is within an eighth of
  -- the step, rounded down, plus 2 of the original
  pub close : (ch f : ℕ) → ch < c → f < length s / c → 0 < f % ima_samples c a
      → nat_abs (frame_of c s ch f -ℤ frame_of c (file_sound file) ch (f - 1)) < 2 * step_after c a s ch (f - 1)
      → nat_abs (frame_of c (file_sound file) ch f -ℤ frame_of c s ch f) ≤ step_after c a s ch (f - 1) / 8 + 2
  -- any other later one is chased: it is strictly nearer than its prediction was
  pub nearer : (ch f : ℕ) → ch < c → f < length s / c → 0 < f % ima_samples c a
      → 2 * step_after c a s ch (f - 1) ≤ nat_abs (frame_of c s ch f -ℤ frame_of c (file_sound file) ch (f - 1))
      → nat_abs (frame_of c (file_sound file) ch f -ℤ frame_of c s ch f)
      < nat_abs (frame_of c (file_sound file) ch (f - 1) -ℤ frame_of c s ch f)
  -- and between its prediction and the original, so never beyond the original
  pub between : (ch f : ℕ) → ch < c → f < length s / c → 0 < f % ima_samples c a
      → 2 * step_after c a s ch (f - 1) ≤ nat_abs (frame_of c s ch f -ℤ frame_of c (file_sound file) ch (f - 1))
      → Between (frame_of c (file_sound file) ch (f - 1)) (frame_of c (file_sound file) ch f) (frame_of c s ch f)
  -- no channel has 12 chased samples in succession
  pub succession : (ch : ℕ) → ch < c → at_most 11 (chased_frames c a s (encoded_bytes c a s) ch) ≡ true
  -- and all else that the demand says, the told counts among it
  pub quality : Heard s c a (encoded_bytes c a s) told.left.0 told.right.0

-- so it is for every sound of 16-bit samples that encoding accepts, and every file that holds its blocks under a record of
-- the copy's format and of as many frames; the record may have cues, a playlist and titles
unfoldable pub Approved : Type 0
Approved =
    (s : List ℤ) (c rate a room most : ℕ) (told : Coded) (m : Record) (file : List ℕ) → Sixteen s
    → encoding s c a room ≡ Ok told
    → m.format ≡ ima_format c rate a → m.frames ≡ record { 0 = length s / c }
    → content_of file ≡ holds m (encoded_bytes c a s)
    → length s ≤ most → Copy s c a told file most

-- ---- the whole way: a sound of 16-bit samples is encoded as IMA blocks, the blocks are written as a file under the record of
-- the copy, and that file is decoded: F frames come back, and demand 3 holds of them
unfoldable pub WholeWay : Type 0
WholeWay =
    (s : List ℤ) (c rate a room size most : ℕ) (told : Coded) (n : BytePlace) → Sixteen s
    → encoding s c a room ≡ Ok told
    → writing (record_for s c rate a) [] (encoded_bytes c a s) size ≡ Ok n
    → length s ≤ most
    → Copy s c a told (file_of (record_for s c rate a) [] (encoded_bytes c a s)) most

-- and writing takes the blocks of every sound that encoding accepts, at a rate from 1 to 192,000, where there is room for the
-- file: the file is never above the limit
unfoldable pub CopyWritten : Type 0
CopyWritten =
    (s : List ℤ) (c rate a room size : ℕ) (told : Coded) → encoding s c a room ≡ Ok told → 1 ≤ rate → rate ≤ 192000
    → length (file_of (record_for s c rate a) [] (encoded_bytes c a s)) ≤ size
    → writing (record_for s c rate a) [] (encoded_bytes c a s) size
    ≡ Ok (record { 0 = length (file_of (record_for s c rate a) [] (encoded_bytes c a s)) })

-- ---- and the premises can be met: two samples, mono, in a block of 12 bytes
unfoldable pub Met : Type 0
Met =
    let two : List ℤ = pos 0 ∷ pos 13 ∷ [] in
    let file : List ℕ = file_of (record_for two 1 8000 12) [] (encoded_bytes 1 12 two) in
    (size : ℕ) → length file ≤ size
    → (writing (record_for two 1 8000 12) [] (encoded_bytes 1 12 two) size ≡ Ok (record { 0 = length file }))
    × Copy two 1 12 (coded_of 1 12 two) file 2
