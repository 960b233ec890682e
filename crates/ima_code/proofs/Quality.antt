-- Demand 3 of one sample: how near it is decoded. Assumes nothing.
use mathlib.Core.Path.{◌≡◌, sym, ◌∙◌, ap}
use mathlib.Core.Bool.{Bool, true, false, cond}
use Prim.Native.Nat.{ℕ, suc, ◌+◌, ◌-◌, ◌*◌, ◌/◌, ◌%◌, ◌≤◌, ◌<◌, min}
use native.Mathlib.Omega.{arith}
use lib.Dec.{ltb}
use lib.IntN.{ℤ, pos, negsuc, nat_abs, ◌-ℤ◌}
use lib.Signed.{lt_z, ◌≤ℤ◌}
use mir.Syntax.{w16}
use mir.Val.{SFits}
use borrow.Author.Tests.{leb-true, leb-false, le-leb, lt-leb}
use Rattle.samples.proofs.Signed.{Is, by-ltb, is_pos, is-neg, is-add, is-gap, is-abs, is_lt, is_le, le_is}
use Rattle.samples.proofs.Laws.{Raised, raised, hold-is}
use Rattle.ima_code.specs.declared.ImaState.{ImaState}
use Rattle.ima_code.specs.Code.{step_at, difference_size, signed_by, index_from, after_code, bits_for, code_of, code_for, tracked, is_chased}
use Rattle.ima_code.specs.Quality.{InRange, Faithful, Between, Later}
use Rattle.ima_code.proofs.Table.{step_range}
use Rattle.ima_code.proofs.Laws.{index-up}
use Rattle.ima_code.proofs.Coding.{bits_below, code-low, code-says}
use Rattle.ima_code.proofs.Missed.{slack, missed, all-bits, short}

-- ---- samples as naturals, raised by 32768: from u toward v at step s it comes to w
abbrev gap : ℕ → ℕ → ℕ
gap a b = (a - b) + (b - a)

record Chasing (s u v w : ℕ) : Type 0 where
  nearer : gap w v < gap u v
  below : u ≤ v → w ≤ v
  above : v ≤ u → v ≤ w
  low : s / 8 ≤ w
  high : w + s / 8 ≤ 65535

record Comes (s u v w : ℕ) : Type 0 where
  close : gap v u < 2 * s → gap w v ≤ slack s
  chasing : 2 * s ≤ gap v u → Chasing s u v w

module _ {s u v : ℕ} (l : 7 ≤ s) (f : u < 65536) (g : v < 65536) where
  abbrev z : ℕ
  z = difference_size s (bits_for s (gap v u))

  comes_down : v < u → Comes s u v (min (u + 0 + 32768 - (32768 + z)) 65535)
  comes_down h =
      record {
        close = λ c. let r = missed s (gap v u) c in omega arith;
        chasing = λ c. let r = short s (gap v u) c in omega arith;
      }

  comes-up : u ≤ v → Comes s u v (min (u + z + 32768 - (32768 + 0)) 65535)
  comes-up h =
      record {
        close = λ c. let r = missed s (gap v u) c in omega arith;
        chasing = λ c. let r = short s (gap v u) c in omega arith;
      }

-- ---- the state n after a sample v where the last one was u
record Reached (t : ImaState) (u v : ℕ) (n : ImaState) : Type 0 where
  w : ℕ
  is : Is n.last w 32768
  comes : Comes (step_at t.index) u v w

module _ (t : ImaState) (u v : ℕ) (l : Is t.last u 32768) where
  abbrev s : ℕ
  s = step_at t.index

  abbrev k : ℕ
  k = bits_for s (gap v u)

  reached-by : (d : Bool) {a b : ℕ} → Is (signed_by d (difference_size s k)) a b
      → Comes s u v (min (u + a + 32768 - (32768 + b)) 65535) → Reached t u v (after_code t (cond d 8 0 + k))
  unfolding after_code
  reached-by d {a} {b} i c =
      record {
        w = min (u + a + 32768 - (32768 + b)) 65535;
        is = rw (code-says d s k (bits_below s (gap v u))) (hold-is (is-add l i));
        comes = c;
      }

  code-raised : {d : ℤ} → Is d v u → code_of s d ≡ cond (ltb (v + 0) (0 + u)) 8 0 + k
  unfolding code_of
  code-raised i = (λ j. cond (is_lt i (is_pos 0) j) 8 0 + bits_for s (is-abs i j))

  reached : {x : ℤ} → Is x v 32768 → t.index < 89 → u < 65536 → v < 65536 → Reached t u v (tracked t x)
  unfolding tracked code_for signed_by
  reached y h f g =
      let n : 7 ≤ s = omega (arith, (step_range h).0) in
      rw (code-raised (is-gap y l))
      (by-ltb (v + 0) (0 + u) (λ c. Reached t u v (after_code t (cond c 8 0 + k)))
      (λ a. reached-by true (is-neg (is_pos (difference_size s k))) (comes_down n f g (omega arith)))
      (λ a. reached-by false (is_pos (difference_size s k)) (comes-up n f g (omega arith))))

-- a sample at least n away from both ends of the 16 bits
pub record Inside (n : ℕ) (z : ℤ) : Type 0 where
  pub w : ℕ
  pub is : Is z w 32768
  pub low : n ≤ w
  pub high : w + n ≤ 65535

-- ---- what `is_chased` tests
module _ (t : ImaState) (x : ℤ) where
  far : is_chased t x ≡ true → 2 * step_at t.index ≤ nat_abs (x -ℤ t.last)
  unfolding is_chased
  far e = leb-true (2 * step_at t.index) (nat_abs (x -ℤ t.last)) e

  near : is_chased t x ≡ false → nat_abs (x -ℤ t.last) < 2 * step_at t.index
  unfolding is_chased
  near e = leb-false (2 * step_at t.index) (nat_abs (x -ℤ t.last)) e

-- ---- theorems
module _ {t : ImaState} {x : ℤ} (c : InRange t) (f : SFits w16 x) where
  p : Raised t.last
  p = raised c.last

  q : Raised x
  q = raised f

  r : Reached t p.u q.u (tracked t x)
  r = reached t p.u q.u p.is q.is c.index p.below q.below

  apart : nat_abs (x -ℤ t.last) ≡ gap q.u p.u
  apart = is-abs (is-gap q.is p.is)

  chasing : is_chased t x ≡ true → Chasing (step_at t.index) p.u q.u r.w
  chasing e = r.comes.chasing (omega (arith, far t x e, apart))

  close : is_chased t x ≡ false → gap r.w q.u ≤ slack (step_at t.index)
  close e = r.comes.close (omega (arith, near t x e, apart))

  -- the decoded sample is near its original
  pub faithful : Faithful t x (tracked t x).last
  faithful =
      let g = is-abs (is-gap r.is q.is) in
      let h = is-abs (is-gap p.is q.is) in
      record {
        close = λ e. omega (arith, close e);
        nearer = λ e. omega (arith, (chasing e).nearer);
        below = λ e l. is_le r.is q.is ((chasing e).below (le_is p.is q.is l));
        above = λ e l. is_le q.is r.is ((chasing e).above (le_is q.is p.is l));
      }

  -- and where it is chased, the decoded sample is an eighth of the step away from both ends
  pub chased-inside : is_chased t x ≡ true → Inside (step_at t.index / 8) (tracked t x).last
  chased-inside e = record { w = r.w; is = r.is; low = (chasing e).low; high = (chasing e).high }

module _ (t : ImaState) (x : ℤ) (e : is_chased t x ≡ true) where
  -- a chased sample sets all three bits
  pub chased-bits : bits_for (step_at t.index) (nat_abs (x -ℤ t.last)) ≡ 7
  chased-bits = sym (all-bits (step_at t.index) (nat_abs (x -ℤ t.last)) (far t x e))

  pub chased-code : code_for t x % 8 ≡ 7
  unfolding code_for code_of
  chased-code = rw chased-bits (code-low (lt_z (x -ℤ t.last) (pos 0)) 7 (omega arith))

  -- and its index climbs by 8, held at 88
  pub chased-index : (tracked t x).index ≡ min (t.index + 8) 88
  unfolding tracked after_code
  chased-index = ap (index_from t.index) chased-code ∙ omega (arith, index-up t.index 7 (omega arith) (omega arith))

-- ---- in the words of the demand: numbers are raised until none of the three is below 0
abbrev up : ℤ → ℕ → ℕ
up (pos m) n = n + m
up (negsuc m) n = n - suc m

lifted : (z : ℤ) (n : ℕ) → nat_abs z ≤ n → Is z (up z n) n
lifted (pos m) n h = omega arith
lifted (negsuc m) n h = omega arith

-- nearer and not beyond is between
between : {p y x : ℤ} → nat_abs (y -ℤ x) < nat_abs (p -ℤ x) → (p ≤ℤ x → y ≤ℤ x) → (x ≤ℤ p → x ≤ℤ y) → Between p y x
between {p} {y} {x} near below above =
    let n : ℕ = nat_abs p + nat_abs y + nat_abs x in
    let a = lifted p n (omega arith) in
    let b = lifted y n (omega arith) in
    let c = lifted x n (omega arith) in
    let d = is-abs (is-gap b c) in
    let e = is-abs (is-gap a c) in
    record {
      up = λ h. (is_le a b (omega (arith, le_is a c h, le_is b c (below h))), below h);
      down = λ h. (above h, is_le b a (omega (arith, le_is c a h, le_is c b (above h))));
    }

pub in_words : {t : ImaState} {x y : ℤ} → Faithful t x y → Later x y t.last (step_at t.index)
unfolding is_chased
in_words {t} {x} w =
    let s : ℕ = 2 * step_at t.index in
    let m : ℕ = nat_abs (x -ℤ t.last) in
    record {
      close = λ h. w.close (lt-leb s m h);
      nearer = λ h. w.nearer (le-leb s m h);
      between = λ h. between (w.nearer (le-leb s m h)) (w.below (le-leb s m h)) (w.above (le-leb s m h));
    }
