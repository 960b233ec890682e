-- The numbers of the walk; what the pad of a chunk says; what reading a file gives, against the chunks it was laid of; and the bytes
-- that the chunks it is read by take. Assumes nothing.
use Rattle.std.specs.Prelude.{ℕ, zero, suc, ◌+◌, ◌%◌, ◌<◌, ◌≡◌, true, false, cond, List, [], ltb, length, None, Ok, Some}
use Rattle.units.specs.declared.BytePlace.{BytePlace}
use Rattle.riff.specs.declared.Pad.{Pad}
use Rattle.riff.specs.declared.Pad.TheVariants.{NotNeeded, There, Absent}
use Rattle.riff.specs.declared.Place.{Place}
use Rattle.riff.specs.declared.Directory.{Directory}
use Rattle.riff.specs.Chunks.{bad_length, no_wave, bad_size, kind_at, pad_size, next_at, placed, passes, is_there, spot_of, keep, early, wave_list, chunk_at, step_number, Spot}
use Rattle.riff.specs.Walk.{nothing_yet, steps_from, walked_number, directory_of, part_of}
use Rattle.riff.specs.Laying.{extent, Parts}

-- ---- the numbers 1 to 7 of document 01, in its order of checks

-- at one chunk 4, 5, 6, 7 in that order; else the number n of what comes after it
abbrev pub step_else : List ℕ → ℕ → Directory → ℕ → ℕ
step_else s at d n =
    cond (passes s at) 4
    (cond (is_there (spot_of d (kind_at s at))) 5
    (cond (early d (kind_at s at)) 6
    (cond (wave_list s (placed s at) (kind_at s at)) 7
    n)))

unfoldable pub StepNumbered : Type 0
StepNumbered = (s : List ℕ) (at : BytePlace) (d : Directory) → step_number (chunk_at s at d) ≡ step_else s at.0 d 0

-- from a place to the end of the file, n chunks at most: each chunk in its turn, the earliest in the file first
unfoldable pub number_from : ℕ → List ℕ → ℕ → Directory → ℕ
number_from zero s at d = 0
number_from (suc n) s at d =
    cond (ltb at (length s))
    (step_else s at d (number_from n s (next_at s at) (keep d (placed s at) (kind_at s at))))
    0

unfoldable pub walk_number : List ℕ → ℕ
walk_number s = number_from (length s) s 12 nothing_yet

-- 1, 2, 3; then the walk
unfoldable pub WalkNumbered : Type 0
WalkNumbered =
    (s : List ℕ)
    → walked_number (directory_of s)
    ≡ cond (bad_length s) 1 (cond (no_wave s) 2 (cond (bad_size s) 3 (walk_number s)))

-- ---- the pad of every chunk that is met

-- data of an even size need none; after others it is a byte of the file, or absent: then the data end with the file, and no chunk
-- comes after
abbrev pub PadSays : List ℕ → Place → Pad → Type 0
PadSays s p NotNeeded = p.size.0 % 2 ≡ 0
PadSays s p There = (p.size.0 % 2 ≡ 1) × (p.start.0 + p.size.0 < length s)
PadSays s p Absent =
    (p.size.0 % 2 ≡ 1) × (p.start.0 + p.size.0 ≡ length s) × ((n : ℕ) (d : Directory) → steps_from n s p.next d ≡ [])

unfoldable pub PadTold : Type 0
PadTold =
    (s : List ℕ) (at : BytePlace) (d : Directory) (p : Place) → chunk_at s at d ≡ Ok p
    → PadSays s p p.pad × (p.next.0 ≡ p.start.0 + p.size.0 + pad_size p.pad)

-- ---- s reads as the parts p; of a chunk that is not written, as what is read in its place
pub record Reads (s : List ℕ) (p : Parts) : Type 0 where
  pub places : Directory
  pub walked : directory_of s ≡ Ok places
  pub format_there : is_there places.format ≡ true
  pub sound_there : is_there places.sound ≡ true
  pub format : part_of s places.format [] ≡ p.format
  pub sound : part_of s places.sound [] ≡ p.sound
  pub fact : (absent : List ℕ) → part_of s places.fact absent ≡ cond p.fact.there p.fact.bytes absent
  pub cues : (absent : List ℕ) → part_of s places.cues absent ≡ cond p.cues.there p.cues.bytes absent
  pub plays : (absent : List ℕ) → part_of s places.plays absent ≡ cond p.plays.there p.plays.bytes absent
  pub titles : (absent : List ℕ) → part_of s places.titles absent ≡ cond p.titles.there p.titles.bytes absent
  pub alone : places.second ≡ false

-- the bytes of a chunk that was met, with its pad, also where that is absent
abbrev pub spot_extent : List ℕ → Spot → ℕ
spot_extent s (Some p) = extent (length (part_of s (Some p) []))
spot_extent s None = 0
