-- The code of a sample, in the words of the code: its bits, its sign, and the channel after it. Assumes nothing.
use mathlib.Core.Path.{◌≡◌, refl, sym, ◌∙◌, ap}
use mathlib.Core.Bool.{Bool, true, false, cond}
use Prim.Native.Nat.{ℕ, ◌+◌, ◌-◌, ◌*◌, ◌/◌, ◌%◌, ◌≤◌, ◌<◌}
use native.Mathlib.Omega.{arith}
use lib.Dec.{leb}
use lib.IntN.{ℤ, pos, nat_abs, ◌+ℤ◌, ◌-ℤ◌}
use lib.Signed.{lt_z}
use mir.Syntax.{w16, w32}
use mir.Val.{SFits}
use borrow.Author.Tests.{eq-eqb, ne_eqb}
use Rattle.little.proofs.Tests.{tests}
use Rattle.samples.specs.Sound.{hold}
use Rattle.samples.proofs.Signed.{back}
use Rattle.samples.proofs.Laws.{widened, wide_is}
use Rattle.std.proofs.lemmas.Int.{ints, to_z-of_z}
use Rattle.ima_code.specs.declared.ImaState.{ImaState}
use Rattle.ima_code.specs.Code.{step_at, has_bit, difference_size, signed_by, difference, index_from, after_code, bit_if, left_of, bits_for, code_of, code_for, tracked, is_chased}
use Rattle.ima_code.specs.Quality.{InRange}
use Rattle.ima_code.proofs.Table.{step-most, twice-fits}
use Rattle.ima_code.proofs.Laws.{sum_fits, decoded-is, decoded-in-range}

-- ---- the bits of a magnitude
module _ (s m : ℕ) where
  module _ (a : s ≤ m) where
    module _ (b : s / 2 ≤ m - s) where
      pub bits-7 : s / 4 ≤ m - s - s / 2 → 7 ≡ bits_for s m
      unfolding bits_for bit_if left_of
      bits-7 c = simp tests

      pub bits-6 : m - s - s / 2 < s / 4 → 6 ≡ bits_for s m
      unfolding bits_for bit_if left_of
      bits-6 c = simp tests

    module _ (b : m - s < s / 2) where
      pub bits-5 : s / 4 ≤ m - s → 5 ≡ bits_for s m
      unfolding bits_for bit_if left_of
      bits-5 c = simp tests

      pub bits-4 : m - s < s / 4 → 4 ≡ bits_for s m
      unfolding bits_for bit_if left_of
      bits-4 c = simp tests

  module _ (a : m < s) where
    module _ (b : s / 2 ≤ m) where
      pub bits-3 : s / 4 ≤ m - s / 2 → 3 ≡ bits_for s m
      unfolding bits_for bit_if left_of
      bits-3 c = simp tests

      pub bits-2 : m - s / 2 < s / 4 → 2 ≡ bits_for s m
      unfolding bits_for bit_if left_of
      bits-2 c = simp tests

    module _ (b : m < s / 2) where
      pub bits-1 : s / 4 ≤ m → 1 ≡ bits_for s m
      unfolding bits_for bit_if left_of
      bits-1 c = simp tests

      pub bits-0 : m < s / 4 → 0 ≡ bits_for s m
      unfolding bits_for bit_if left_of
      bits-0 c = simp tests

pub bits_below : (s m : ℕ) → bits_for s m < 8
unfolding bits_for bit_if
bits_below s m =
    omega
    (arith, most (leb s m) 4, most (leb (s / 2) (left_of s m)) 2, most (leb (s / 4) (left_of (s / 2) (left_of s m))) 1)
  where
    most : (b : Bool) (n : ℕ) → cond b n 0 ≤ n
    most true n = omega arith
    most false n = omega arith

-- ---- a code is its sign and its lower three bits
pub code-sign : (d : Bool) (low : ℕ) → low < 8 → has_bit (cond d 8 0 + low) 8 ≡ d
unfolding has_bit
code-sign true low h = eq-eqb ((8 + low) / 8 % 2) 1 (omega arith)
code-sign false low h = ne_eqb ((0 + low) / 8 % 2) 1 (λ e. omega arith)

pub code-low : (d : Bool) (low : ℕ) → low < 8 → (cond d 8 0 + low) % 8 ≡ low
code-low true low h = omega arith
code-low false low h = omega arith

pub code-size : (d : Bool) (s low : ℕ) → low < 8 → difference_size s (cond d 8 0 + low) ≡ difference_size s low
unfolding difference_size has_bit
code-size true s low h =
    let a : (8 + low) / 4 % 2 ≡ low / 4 % 2 = omega arith in
    let b : (8 + low) / 2 % 2 ≡ low / 2 % 2 = omega arith in
    let c : (8 + low) / 1 % 2 ≡ low / 1 % 2 = omega arith in
    simp (a, b, c)
code-size false s low h =
    let e : 0 + low ≡ low = omega arith in
    ap (difference_size s) e

pub code-says : (d : Bool) (s low : ℕ) → low < 8 → difference s (cond d 8 0 + low) ≡ signed_by d (difference_size s low)
unfolding difference
code-says d s low h = rw (code-sign d low h, code-size d s low h) refl

-- the channel after a difference is coded
module _ (t : ImaState) (d : Bool) (s m : ℕ) {w y z : ℤ} {j : ℕ}
    (f : SFits w16 t.last) (q : w ≡ back w16 t.last) (g : SFits w32 z) (v : SFits w16 y)
    (a : y ≡ hold (back w32 (back w32 w +ℤ back w32 z))) where
  pub coded-is : (n b : ℕ) → z ≡ signed_by d n → n ≤ 65535 → n ≡ difference_size s b → b ≡ bits_for s m → b < 8
      → s ≡ step_at t.index → j ≡ index_from t.index b
      → record { last = back w16 y; index = j } ≡ after_code t (cond d 8 0 + bits_for s m)
  coded-is n b e h c k u l i =
      rw (← k)
      (decoded-is t (cond d 8 0 + b) f v d n s q g a e h (c ∙ sym (code-size d s b u)) (sym (code-sign d b u)) l
      (i ∙ ap (index_from t.index) (sym (code-low d b u))))

pub code_is : (d : Bool) (s m : ℕ) {p b : ℕ} → p ≡ cond d 8 0 → b ≡ bits_for s m → p + b ≡ cond d 8 0 + bits_for s m
code_is d s m e f = rw (e, f) refl

pub ruleset coding = (sum_fits, widened, coded-is, code_is, step-most, twice-fits)

-- ---- the code of a sample, read as u, where w is the last one
below-none : (x y : ℤ) → lt_z (x -ℤ y) (pos 0) ≡ lt_z x y
below-none x y = grind (arith, ints)

module _ (t : ImaState) (x : ℤ) {u w : ℤ} {s : ℕ} (m : ℕ) (e : s ≡ step_at t.index) (f : SFits w16 x) (g : SFits w16 t.last)
    (a : u ≡ back w16 x) (b : w ≡ back w16 t.last) (k : m ≡ nat_abs (back w32 u -ℤ back w32 w)) where
  new_is : back w32 u ≡ x
  new_is = rw a (wide_is f)

  last_is : back w32 w ≡ t.last
  last_is = rw b (wide_is g)

  pub sample-chased : {b : Bool} → b ≡ leb (2 * s) m → b ≡ is_chased t x
  unfolding is_chased
  sample-chased h = h ∙ rw (e, k, new_is, last_is) refl

  module _ (d : Bool) (n : lt_z (back w32 u) (back w32 w) ≡ d) where
    code-of : cond d 8 0 + bits_for s m ≡ code_for t x
    unfolding code_for code_of
    code-of =
        let p : lt_z x t.last ≡ d = rw (new_is, last_is) at n in
        rw (e, k, new_is, last_is, below-none x t.last, p) refl

    pub sample-code : {c : ℕ} → c ≡ cond d 8 0 + bits_for s m → c ≡ code_for t x
    sample-code h = h ∙ code-of

    pub sample-state : {r : ImaState} → r ≡ after_code t (cond d 8 0 + bits_for s m) → r ≡ tracked t x
    unfolding tracked
    sample-state h = h ∙ ap (after_code t) code-of

-- the magnitude of a difference that is below 0
pub flipped : (y z : ℤ) → SFits w32 (y -ℤ z) → nat_abs (back w32 (y -ℤ z)) ≡ nat_abs (z -ℤ y)
flipped y z f = rw (to_z-of_z w32 (y -ℤ z) f) (abs-flipped y z)
  where
    abs-flipped : (y z : ℤ) → nat_abs (y -ℤ z) ≡ nat_abs (z -ℤ y)
    abs-flipped y z = omega (arith, ints)

pub ruleset encoding = (sample-code, sample-chased, sample-state)

-- ---- whatever the sample
module _ (t : ImaState) (x : ℤ) where
  pub code_below : code_for t x < 16
  unfolding code_for code_of
  code_below = below (lt_z (x -ℤ t.last) (pos 0)) (bits_below (step_at t.index) (nat_abs (x -ℤ t.last)))
    where
      below : (b : Bool) {n : ℕ} → n < 8 → cond b 8 0 + n < 16
      below true h = omega arith
      below false h = omega arith

  pub tracked-in-range : InRange (tracked t x)
  unfolding tracked
  tracked-in-range = decoded-in-range t (code_for t x)
