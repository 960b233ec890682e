-- What a code does to a channel, in the words of the code, and that it keeps the channel in range. Assumes nothing.
use mathlib.Core.Path.{◌≡◌, refl, ◌∙◌, ap}
use mathlib.Core.Bool.{Bool, true, false, cond}
use Prim.Native.Nat.{ℕ, zero, suc, ◌+◌, ◌-◌, ◌*◌, ◌/◌, ◌%◌, ◌≤◌, ◌<◌, min}
use native.Mathlib.Omega.{arith}
use lib.Dec.{ltb, eqb}
use lib.IntN.{ℤ, pos, negsuc, nat_abs, ◌+ℤ◌, ◌-ℤ◌}
use lib.ListN.{get_or}
use mir.Syntax.{w16, w32}
use mir.Val.{SFits}
use mir.Facts.{to_z-of_z}
use Rattle.samples.specs.Sound.{hold}
use Rattle.samples.proofs.Signed.{Is, by-ltb, is_pos, is-negsuc, is-add, is-minus, is-neg, is-shift, is-unique, is-abs, back, Near, near_fits, near_add, near-pos, fits-near}
use Rattle.samples.proofs.Laws.{wide_is, raised, hold-is, hold-fits}
use Rattle.ima_code.specs.declared.ImaState.{ImaState}
use Rattle.ima_code.specs.Code.{step_at, has_bit, difference_size, signed_by, difference, changes, held_index, index_from, held_from, held_indices, after_code}
use Rattle.ima_code.specs.Quality.{InRange}

-- ---- the lower three bits say the size of a difference
pub size_low : (s k : ℕ) {n : ℕ} → n ≡ difference_size s (k % 8) → n ≡ difference_size s k
unfolding difference_size has_bit
size_low s k h =
    let a : k % 8 / 4 % 2 ≡ k / 4 % 2 = omega arith in
    let b : k % 8 / 2 % 2 ≡ k / 2 % 2 = omega arith in
    let c : k % 8 / 1 % 2 ≡ k / 1 % 2 = omega arith in
    h ∙ simp (a, b, c)

-- ---- the index: the change is 1 downward for the lower four, and 2 × low - 6 upward for the others
down_by : (k : ℕ) → k < 4 → get_or changes k (pos 0) ≡ negsuc 0
down_by zero h = refl
down_by (suc zero) h = refl
down_by (suc (suc zero)) h = refl
down_by (suc (suc (suc zero))) h = refl
down_by (suc (suc (suc (suc k)))) h = absurd (omega arith)

up_by : (k : ℕ) → k < 4 → get_or changes (4 + k) (pos 0) ≡ pos (2 * k + 2)
up_by zero h = refl
up_by (suc zero) h = refl
up_by (suc (suc zero)) h = refl
up_by (suc (suc (suc zero))) h = refl
up_by (suc (suc (suc (suc k)))) h = absurd (omega arith)

held-index : {z : ℤ} {a b : ℕ} → Is z a b → held_index z ≡ min (a - b) 88
held-index {z = pos n} h = omega arith
held-index {z = negsuc n} h = omega arith

module _ (i k : ℕ) where
  pub index-down : k < 4 → index_from i k ≡ min (i - 1) 88
  unfolding index_from
  index-down h = rw (down_by k h) (held-index (is-add (is_pos i) (is-negsuc 0)) ∙ omega arith)

  pub index-up : 4 ≤ k → k < 8 → index_from i k ≡ min (i + 2 * k - 6) 88
  unfolding index_from
  index-up g h =
      let e : k ≡ 4 + (k - 4) = omega arith in
      rw (ap (λ (n : ℕ). get_or changes n (pos 0)) e, up_by (k - 4) (omega arith))
      (held-index (is-add (is_pos i) (is_pos (2 * (k - 4) + 2))) ∙ omega arith)

  -- one more than the move is added, and one taken away where there is one
  pub index_risen : (r : ℕ) → k < 8 → r ≡ cond (ltb k 4) 0 (2 * k - 5) → index_from i k ≡ min (i + r - 1) 88
  index_risen r h =
      by-ltb k 4 (λ c. r ≡ cond c 0 (2 * k - 5) → index_from i k ≡ min (i + r - 1) 88)
      (λ g e. omega (arith, index-down g))
      (λ g e. omega (arith, index-up g h))

-- the same by the table
held_at : (i n k : ℕ) → k < n → get_or (held_from i n) k 0 ≡ min (i + k - 1) 88
held_at i zero k h = absurd (omega arith)
held_at i (suc n) zero h = omega arith
held_at i (suc n) (suc k) h = held_at (suc i) n k (omega arith) ∙ omega arith

pub held_is : (n : ℕ) → n < 98 → get_or held_indices n 0 ≡ min (n - 1) 88
held_is n h = held_at 0 98 n h ∙ omega arith

pub held_below : (n : ℕ) → n < 98 → get_or held_indices n 0 < 89
held_below n h = omega (arith, held_is n h)

pub index_below : (i k : ℕ) → index_from i k < 89
unfolding index_from
index_below i k = below (pos i +ℤ get_or changes k (pos 0))
  where
    below : (z : ℤ) → held_index z < 89
    below (pos n) = omega arith
    below (negsuc n) = omega arith

-- ---- a sample moved by a size and held: on the number from 0 on it is truncated minus, upward in the mirror
module _ {z : ℤ} (f : SFits w16 z) (n u v w x : ℕ) (a : u ≡ nat_abs (back w16 z +ℤ pos 32768)) where
  raised_is : u ≡ (raised f).u
  raised_is = a ∙ rw (to_z-of_z f) (omega (arith, is-abs (is-add (raised f).is (is_pos 32768))))

  moved-is : (d : Bool) → v ≡ cond d u (65535 - u) → w ≡ v - n → x ≡ cond d w (65535 - w)
      → Is (hold (z +ℤ signed_by d n)) x 32768
  unfolding signed_by
  moved-is true b c e =
      is-shift x 32768 (hold-is (is-add (raised f).is (is-neg (is_pos n)))) (omega (arith, (raised f).below, raised_is))
  moved-is false b c e =
      is-shift x 32768 (hold-is (is-add (raised f).is (is_pos n))) (omega (arith, (raised f).below, raised_is))

  pub moved-held : {y : ℤ} (d : Bool) → SFits w16 y → v ≡ cond d u (65535 - u) → w ≡ v - n → x ≡ cond d w (65535 - w)
      → y ≡ pos x -ℤ pos 32768 → back w16 y ≡ hold (z +ℤ signed_by d n)
  moved-held d g b c e h =
      to_z-of_z g ∙ h
      ∙ is-unique (is-shift x 32768 (is-minus (is_pos x) (is_pos 32768)) (omega arith)) (moved-is d b c e)

pub ruleset mirroring = (moved-held)

-- ---- a difference added to the last sample
near-signed : (d : Bool) {n : ℕ} → n ≤ 65535 → Near (signed_by d n) 65535
unfolding signed_by
near-signed true {n} h = record { near = omega (arith, is-abs (is-neg (is_pos n))) }
near-signed false h = near-pos h

module _ {x w z : ℤ} (f : SFits w16 x) (q : w ≡ back w16 x) (g : SFits w32 z) (d : Bool) (n : ℕ) (e : z ≡ signed_by d n) (h : n ≤ 65535) where
  plain-sum : back w32 w +ℤ back w32 z ≡ x +ℤ signed_by d n
  plain-sum = rw (q, wide_is f, to_z-of_z g, e) refl

  pub sum_fits : SFits w32 (back w32 w +ℤ back w32 z)
  sum_fits = rw plain-sum (near_fits (near_add (fits-near f) (near-signed d h)) tt)

  pub sum_is : back w32 (back w32 w +ℤ back w32 z) ≡ x +ℤ signed_by d n
  sum_is = to_z-of_z sum_fits ∙ plain-sum

-- the channel after it
module _ (t : ImaState) (k : ℕ) {y : ℤ} {j : ℕ} (f : SFits w16 t.last) (v : SFits w16 y) (d : Bool) (n s : ℕ) where
  moved_to : y ≡ hold (t.last +ℤ signed_by d n) → n ≡ difference_size s k
      → d ≡ has_bit k 8 → s ≡ step_at t.index → j ≡ index_from t.index (k % 8)
      → record { last = back w16 y; index = j } ≡ after_code t k
  unfolding after_code difference
  moved_to a b c l m =
      let p : back w16 y ≡ hold (t.last +ℤ signed_by d n) = to_z-of_z v ∙ a in
      simp (p, b, c, l, m)

  pub decoded-by : y ≡ hold (back w16 t.last +ℤ signed_by d n) → n ≡ difference_size s k
      → d ≡ has_bit k 8 → s ≡ step_at t.index → j ≡ index_from t.index (k % 8)
      → record { last = back w16 y; index = j } ≡ after_code t k
  decoded-by a = moved_to (a ∙ ap (λ (x : ℤ). hold (x +ℤ signed_by d n)) (to_z-of_z f))

  pub decoded-is : {w z : ℤ} → w ≡ back w16 t.last → SFits w32 z → y ≡ hold (back w32 (back w32 w +ℤ back w32 z))
      → z ≡ signed_by d n → n ≤ 65535 → n ≡ difference_size s k
      → d ≡ has_bit k 8 → s ≡ step_at t.index → j ≡ index_from t.index (k % 8)
      → record { last = back w16 y; index = j } ≡ after_code t k
  decoded-is q g a e h = moved_to (a ∙ ap hold (sum_is f q g d n e h))

pub has-sign : (k : ℕ) → eqb (k / 8 % 2) 1 ≡ has_bit k 8
unfolding has_bit
has-sign k = refl

pub ruleset decoding = (size_low, decoded-by, has-sign)

-- ---- whatever the channel before
pub decoded-in-range : (t : ImaState) (k : ℕ) → InRange (after_code t k)
unfolding after_code
decoded-in-range t k =
    record {
      last = hold-fits (t.last +ℤ difference (step_at t.index) k);
      index = index_below t.index (k % 8);
    }
