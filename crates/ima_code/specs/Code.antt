-- One IMA code: its difference, the channel after it, and the code of a sample. Assumes nothing.
use Rattle.std.specs.Prelude.{ℕ, zero, suc, ◌+◌, ◌-◌, ◌*◌, ◌/◌, ◌%◌, min, Bool, cond, List, [], ◌∷◌, leb, eqb, ℤ, pos, negsuc, neg_ℤ, nat_abs, ◌+ℤ◌, ◌-ℤ◌, get_or}
use Rattle.std.specs.Int.Signed.{lt_z}
use Rattle.samples.specs.Sound.{hold}
use Rattle.ima_code.specs.declared.ImaState.{ImaState}

-- ---- decoding

-- IMA steps, indices 0 to 88
abbrev pub steps : List ℕ
steps =
    7 ∷ 8 ∷ 9 ∷ 10 ∷ 11 ∷ 12 ∷ 13 ∷ 14 ∷ 16 ∷ 17 ∷ 19 ∷ 21 ∷ 23 ∷ 25 ∷ 28 ∷ 31 ∷ 34 ∷ 37 ∷ 41 ∷ 45 ∷ 50 ∷ 55 ∷ 60 ∷ 66 ∷ 73
    ∷ 80 ∷ 88 ∷ 97 ∷ 107 ∷ 118 ∷ 130 ∷ 143 ∷ 157 ∷ 173 ∷ 190 ∷ 209 ∷ 230 ∷ 253 ∷ 279 ∷ 307 ∷ 337 ∷ 371 ∷ 408 ∷ 449 ∷ 494
    ∷ 544 ∷ 598 ∷ 658 ∷ 724 ∷ 796 ∷ 876 ∷ 963 ∷ 1060 ∷ 1166 ∷ 1282 ∷ 1411 ∷ 1552 ∷ 1707 ∷ 1878 ∷ 2066 ∷ 2272 ∷ 2499
    ∷ 2749 ∷ 3024 ∷ 3327 ∷ 3660 ∷ 4026 ∷ 4428 ∷ 4871 ∷ 5358 ∷ 5894 ∷ 6484 ∷ 7132 ∷ 7845 ∷ 8630 ∷ 9493 ∷ 10442 ∷ 11487
    ∷ 12635 ∷ 13899 ∷ 15289 ∷ 16818 ∷ 18500 ∷ 20350 ∷ 22385 ∷ 24623 ∷ 27086 ∷ 29794 ∷ 32767 ∷ []

unfoldable pub step_at : ℕ → ℕ
step_at i = get_or steps i 0

-- whether code k has a bit: 8, 4, 2 or 1
unfoldable pub has_bit : ℕ → ℕ → Bool
has_bit k bit = eqb (k / bit % 2) 1

-- the size of the difference: s/8, plus s if k has bit 4, plus s/2 for bit 2, plus s/4 for bit 1, each quotient rounded down
unfoldable pub difference_size : ℕ → ℕ → ℕ
difference_size s k = s / 8 + cond (has_bit k 4) s 0 + cond (has_bit k 2) (s / 2) 0 + cond (has_bit k 1) (s / 4) 0

-- a size, negated or not
unfoldable pub signed_by : Bool → ℕ → ℤ
signed_by down n = cond down (neg_ℤ (pos n)) (pos n)

-- the difference, negated for bit 8
unfoldable pub difference : ℕ → ℕ → ℤ
difference s k = signed_by (has_bit k 8) (difference_size s k)

-- index change for k mod 8
abbrev pub changes : List ℤ
changes =
    negsuc 0 ∷ negsuc 0 ∷ negsuc 0 ∷ negsuc 0 ∷ pos 2 ∷ pos 4 ∷ pos 6 ∷ pos 8 ∷ []

-- held within 0..88
abbrev pub held_index : ℤ → ℕ
held_index (pos n) = min n 88
held_index (negsuc n) = 0

unfoldable pub index_from : ℕ → ℕ → ℕ
index_from i low = held_index (pos i +ℤ get_or changes low (pos 0))

-- numbers from i on, one less each and held within 0..88
abbrev pub held_from : ℕ → ℕ → List ℕ
held_from i zero = []
held_from i (suc n) = min (i - 1) 88 ∷ held_from (suc i) n

-- so that an index and one more than its move lead to the index after it
abbrev pub held_indices : List ℕ
held_indices = held_from 0 98

-- a channel after code k: the difference added to the last sample and held, and the index moved
unfoldable pub after_code : ImaState → ℕ → ImaState
after_code t k =
    record {
      last = hold (t.last +ℤ difference (step_at t.index) k);
      index = index_from t.index (k % 8);
    }

-- ---- encoding

-- a bit that is set where a magnitude is at least what the bit is worth
unfoldable pub bit_if : ℕ → ℕ → ℕ → ℕ
bit_if bit worth m = cond (leb worth m) bit 0

-- and what is then left of the magnitude
unfoldable pub left_of : ℕ → ℕ → ℕ
left_of worth m = cond (leb worth m) (m - worth) m

-- bit 4 if it is at least s, and s taken away; bit 2 the same with s/2; bit 1 if the rest is at least s/4
unfoldable pub bits_for : ℕ → ℕ → ℕ
bits_for s m = bit_if 4 s m + bit_if 2 (s / 2) (left_of s m) + bit_if 1 (s / 4) (left_of (s / 2) (left_of s m))

-- the code of a difference d: bit 8 if it is below 0, and the bits of its magnitude
unfoldable pub code_of : ℕ → ℤ → ℕ
code_of s d = cond (lt_z d (pos 0)) 8 0 + bits_for s (nat_abs d)

-- the code of a sample: d = sample - last decoded sample
unfoldable pub code_for : ImaState → ℤ → ℕ
code_for t x = code_of (step_at t.index) (x -ℤ t.last)

-- the decoded sample and index then follow the rule above
unfoldable pub tracked : ImaState → ℤ → ImaState
tracked t x = after_code t (code_for t x)

-- chased: magnitude of d at least 2s
unfoldable pub is_chased : ImaState → ℤ → Bool
is_chased t x = leb (2 * step_at t.index) (nat_abs (x -ℤ t.last))
