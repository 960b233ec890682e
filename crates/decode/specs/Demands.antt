-- What decoding promises besides its definition, each for every file. `proofs/Demands.antt` proves each. Assumes nothing.
use Rattle.std.specs.Prelude.{ℕ, ◌-◌, ◌*◌, ◌≤◌, ◌<◌, ◌≡◌, true, false, not, cond, List, map, leb, eqb, ℤ, length, take, drop, Ok}
use Rattle.units.specs.declared.Frames as units
use Rattle.units.specs.Checks.{number_or}
use Rattle.formats.specs.Frames.{needs_fact}
use Rattle.samples.specs.Sound.{samples_in, eight}
use Rattle.reader.specs.Content.{reading, sound_in, file_format, file_frames}
use Rattle.sound_data.specs.Sound.{block_valid, block_at, has_block, data_valid}
use Rattle.decode.specs.Decoding.{decoding, block_decoding, file_sound, file_block, decoded_frames, decoded_number, Decoded}
use Rattle.rules.specs.Rules.{reading_verdict}

abbrev pub channels_of : List ℕ → ℕ
channels_of s = (file_format s).channels

abbrev pub block_frames_of : List ℕ → ℕ
block_frames_of s = (file_format s).samples

-- ---- n frames of c channels are told and put out, and there was room for them: F frames of a file, S frames of a block
pub record Told (answer : Decoded) (sound : List ℤ) (n c most : ℕ) : Type 0 where
  pub frames : decoded_frames answer ≡ n
  pub long : length sound ≡ n * c
  pub room : length sound ≤ most

unfoldable pub WholeTold : Type 0
WholeTold =
    (s : List ℕ) (room : ℕ) (n : units.Frames) → decoding s room ≡ Ok n
    → Told (decoding s room) (file_sound s) (file_frames s) (channels_of s) room

unfoldable pub BlockTold : Type 0
BlockTold =
    (s : List ℕ) (k room : ℕ) (n : units.Frames) → block_decoding s k room ≡ Ok n
    → Told (block_decoding s k room) (file_block s k) (block_frames_of s) (channels_of s) room

-- ---- block k of S frames is frames k x S up to (k + 1) x S of the whole of F, where the file has them: its first frame at least
pub record BlockOfWhole (s : List ℕ) (k : ℕ) : Type 0 where
  pub begun : k * block_frames_of s < file_frames s
  pub same :
      take (block_frames_of s * channels_of s) (drop (k * (block_frames_of s * channels_of s)) (file_sound s))
      ≡ take ((file_frames s - k * block_frames_of s) * channels_of s) (file_block s k)

unfoldable pub OneOfAll : Type 0
OneOfAll = (s : List ℕ) (k : ℕ) → has_block (file_format s) (sound_in s) k ≡ true → BlockOfWhole s k

-- ---- the sound of PCM is the samples of all its bytes: of each byte, or of each two
unfoldable pub PcmSound : Type 0
PcmSound =
    (s : List ℕ) → needs_fact (file_format s) ≡ false
    → file_sound s ≡ cond (eqb (file_format s).bits 8) (map eight (sound_in s)) (samples_in (sound_in s))

-- ---- the number that decoding gives, in the order of checks and the numbers of document 01; 0 is decoded

-- the reader's, 14, then 15 for any block
abbrev pub decode_number : List ℕ → ℕ → ℕ
decode_number s room =
    number_or (reading_verdict (reading s))
    (cond (not (leb (file_frames s * channels_of s) room)) 14
    (cond (not (data_valid (file_format s) (sound_in s))) 15 0))

unfoldable pub DecodeNumbered : Type 0
DecodeNumbered = (s : List ℕ) (room : ℕ) → decoded_number (decoding s room) ≡ decode_number s room

-- the reader's, 20, 14, 15
abbrev pub block_number : List ℕ → ℕ → ℕ → ℕ
block_number s k room =
    number_or (reading_verdict (reading s))
    (cond (not (has_block (file_format s) (sound_in s) k)) 20
    (cond (not (leb (block_frames_of s * channels_of s) room)) 14
    (cond (not (block_valid (file_format s) (block_at (file_format s) (sound_in s) k))) 15 0)))

unfoldable pub BlockNumbered : Type 0
BlockNumbered = (s : List ℕ) (k room : ℕ) → decoded_number (block_decoding s k room) ≡ block_number s k room
