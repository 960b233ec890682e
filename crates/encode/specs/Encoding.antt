-- Encoding a whole sound: its blocks, its chased samples, and the answer. Assumes nothing.
use Rattle.std.specs.Prelude.{ℕ, zero, suc, ◌+◌, ◌-◌, ◌*◌, ◌/◌, ◌%◌, Bool, cond, List, [], ◌∷◌, leb, ltb, eqb, ℤ, length, take}
use Rattle.lists.specs.Turns.{values, joined, in_turn}
use Rattle.units.specs.declared.Refusal.TheVariants.{LengthOutOfRange, FormatWrong, NotWholeFrames, OutputTooSmall}
use Rattle.units.specs.Checks.{Check, check, decided}
use Rattle.formats.specs.Format.{ima_samples, codable}
use Rattle.ima_coder.specs.Part.{samples_from, coded_part, closing_index, chased_part, count_of}
use Rattle.units.specs.Refusals.{Verdict}

-- ---- a sound s of c channels in blocks of align a

-- block k of channel ch; a last short block repeats its last frame
unfoldable pub block_of : ℕ → ℕ → List ℤ → ℕ → ℕ → List ℤ
block_of c a s ch k = samples_from s c (length s - c + ch) (c * (k * ima_samples c a) + ch) (ima_samples c a)

-- the index at which it opens: the first block has index 0 in each channel, later blocks carry the index on
unfoldable pub open_index : ℕ → ℕ → List ℤ → ℕ → ℕ → ℕ
open_index c a s ch zero = 0
open_index c a s ch (suc k) = closing_index (open_index c a s ch k) (block_of c a s ch k)

-- what block k has of channel ch, and which of its samples are chased
unfoldable pub channel_bytes : ℕ → ℕ → List ℤ → ℕ → ℕ → List ℕ
channel_bytes c a s k ch = coded_part (open_index c a s ch k) (block_of c a s ch k)

unfoldable pub chased_block : ℕ → ℕ → List ℤ → ℕ → ℕ → List Bool
chased_block c a s ch k = chased_part (open_index c a s ch k) (block_of c a s ch k)

-- block k: four bytes of each channel in turn
unfoldable pub block_bytes : ℕ → ℕ → List ℤ → ℕ → List ℕ
block_bytes c a s k = in_turn 4 (a / (4 * c)) (values (channel_bytes c a s k) 0 c)

-- as many blocks as n samples fill or begin
unfoldable pub blocks_for : ℕ → ℕ → ℕ → ℕ
blocks_for c a n = (n / c + ima_samples c a - 1) / ima_samples c a

-- the blocks one after the other
unfoldable pub encoded_bytes : ℕ → ℕ → List ℤ → List ℕ
encoded_bytes c a s = joined (values (block_bytes c a s) 0 (blocks_for c a (length s)))

-- which samples of channel ch are chased, those of the fill behind it included
unfoldable pub chased_in : ℕ → ℕ → List ℤ → ℕ → List Bool
chased_in c a s ch = joined (values (chased_block c a s ch) 0 (blocks_for c a (length s)))

-- how many: fill excluded, 0 for a channel not there
unfoldable pub chased_count : ℕ → ℕ → List ℤ → ℕ → ℕ
chased_count c a s ch = cond (ltb ch c) (count_of (take (length s / c) (chased_in c a s ch))) 0

-- ---- the checks

-- 1 for more than 536,870,912 samples, 9 for channels or align, 10 for part of a frame, 14
abbrev pub encode_checks : ℕ → ℕ → ℕ → ℕ → List Check
encode_checks n c a room =
    check (leb n 536870912) LengthOutOfRange
    ∷ check (codable c a) FormatWrong
    ∷ check (eqb (n % c) 0) NotWholeFrames
    ∷ check (leb (blocks_for c a n * a) room) OutputTooSmall
    ∷ []

unfoldable pub encode_verdict : ℕ → ℕ → ℕ → ℕ → Verdict
encode_verdict n c a room = decided (encode_checks n c a room)
