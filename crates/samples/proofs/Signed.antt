-- Laws of signed numbers. `omega` reads naturals alone, so an integer is a difference of two naturals where a fact is exact, and is
-- known by its size where it only has to fit a width. Assumes nothing.
use mathlib.Core.Path.{◌≡◌, refl, sym, ◌∙◌, ap}
use mathlib.Core.Bool.{Bool, true, false, not, cond}
use Prim.Native.Nat.{ℕ, zero, suc, ◌+◌, ◌-◌, ◌*◌, ◌/◌, ◌^◌, ◌≤◌, ◌<◌}
use native.Mathlib.Nat.{add-mul, mul-le-mul, div-le_of_le-mul, le_refl, le_trans, le_of_lt, lt_of_lt_of_le, lt_of_le_of_lt}
use lib.Pow.{pow_mono}
use native.Mathlib.Omega.{arith}
use lib.Dec.{T, leb, ltb, ltb→lt, leb→le, le→leb, nleb→lt}
use lib.IntN.{ℤ, pos, negsuc, neg_ℤ, nat_abs, sub_ℕ, ◌+ℤ◌, ◌-ℤ◌, ◌*ℤ◌}
use lib.Signed.{◌≤ℤ◌, le_z_yes, lt_z, non_neg, quot_z}
use mir.Syntax.{Width}
use mir.Val.{SFits, Fits, to_z, of_z, bits, hbits}
use mir.Facts.{to_z-of_z, to_z_pos}
use borrow.Author.Tests.{ltb-true, ltb-false, lt-leb, le-leb}

-- a test that computes, split in two with what is known on each side
pub by-leb : (a b : ℕ) (P : Bool → Type 0) → (a ≤ b → P true) → (b < a → P false) → P (leb a b)
by-leb a b P f g = by (leb a b) (λ t. f (leb→le a b t)) (λ t. g (nleb→lt a b t))
  where
    by : (c : Bool) → (T c → P true) → (T (not c) → P false) → P c
    by true f g = f tt
    by false f g = g tt

pub by-ltb : (a b : ℕ) (P : Bool → Type 0) → (a < b → P true) → (b ≤ a → P false) → P (ltb a b)
by-ltb a b P f g = by-leb (suc a) b P f (λ h. g (omega arith))

-- ---- z is a − b. A record, so that z, a and b are read off a proof of it
abbrev pub Holds : ℤ → ℕ → ℕ → Type 0
Holds (pos n) a b = a ≡ b + n
Holds (negsuc n) a b = b ≡ suc (a + n)

pub record Is (z : ℤ) (a b : ℕ) : Type 0 where
  pub is : Holds z a b

pub is_pos : (n : ℕ) → Is (pos n) n 0
is_pos n = omega arith

pub is-negsuc : (n : ℕ) → Is (negsuc n) 0 (suc n)
is-negsuc n = omega arith

-- the difference itself
pub is-sub : (a b : ℕ) → Is (sub_ℕ a b) a b
is-sub a b =
    record {
      is =
          by-ltb a b (λ c. Holds (cond c (negsuc (b - suc a)) (pos (a - b))) a b) (λ h. below a b h) (λ h. above a b h);
    }
  where
    below : (a b : ℕ) → a < b → b ≡ suc (a + (b - suc a))
    below a b h = omega arith

    above : (a b : ℕ) → b ≤ a → a ≡ b + (a - b)
    above a b h = omega arith

-- the same integer as another difference
pub is-shift : {z : ℤ} {a b : ℕ} (c d : ℕ) → Is z a b → a + d ≡ c + b → Is z c d
is-shift {z = pos n} c d h e = omega arith
is-shift {z = negsuc n} c d h e = omega arith

pub is-unique : {z w : ℤ} {a b : ℕ} → Is z a b → Is w a b → z ≡ w
is-unique {z = pos m} {w = pos n} h k = ap pos (omega arith)
is-unique {z = pos m} {w = negsuc n} h k = absurd (omega arith)
is-unique {z = negsuc m} {w = pos n} h k = absurd (omega arith)
is-unique {z = negsuc m} {w = negsuc n} h k = ap negsuc (omega arith)

pub is-neg : {z : ℤ} {a b : ℕ} → Is z a b → Is (neg_ℤ z) b a
is-neg {z = pos zero} h = omega arith
is-neg {z = pos (suc n)} h = omega arith
is-neg {z = negsuc n} h = omega arith

pub is-add : {z w : ℤ} {a b c d : ℕ} → Is z a b → Is w c d → Is (z +ℤ w) (a + c) (b + d)
is-add {z = pos m} {w = pos n} h k = omega arith
is-add {z = pos m} {w = negsuc n} {a} {b} {c} {d} h k = is-shift (a + c) (b + d) (is-sub m (suc n)) (omega arith)
is-add {z = negsuc m} {w = pos n} {a} {b} {c} {d} h k = is-shift (a + c) (b + d) (is-sub n (suc m)) (omega arith)
is-add {z = negsuc m} {w = negsuc n} h k = omega arith

pub is-minus : {z w : ℤ} {a b c d : ℕ} → Is z a b → Is w c d → Is (z -ℤ w) (a + d) (b + c)
is-minus h k = is-add h (is-neg k)

pub is-times : {z : ℤ} {a b : ℕ} (k : ℕ) → Is z a b → Is (z *ℤ pos k) (a * k) (b * k)
is-times {z = pos n} {a} {b} k h = record { is = ap (λ (m : ℕ). m * k) h.is ∙ add-mul b n k }
is-times {z = negsuc n} {a} {b} k h =
    let e : b ≡ a + suc n = omega arith in
    let f : b * k ≡ a * k + suc n * k = ap (λ (m : ℕ). m * k) e ∙ add-mul a (suc n) k in
    is-shift (a * k) (b * k) (is-neg (is_pos (suc n * k))) (omega arith)

-- the magnitude
pub is-abs : {z : ℤ} {a b : ℕ} → Is z a b → nat_abs z ≡ (a - b) + (b - a)
is-abs {z = pos n} h = omega arith
is-abs {z = negsuc n} h = omega arith

-- the difference of two integers over one base: the base goes
pub is-gap : {z w : ℤ} {a b c : ℕ} → Is z a c → Is w b c → Is (z -ℤ w) a b
is-gap {a = a} {b = b} h k = is-shift a b (is-minus h k) (omega arith)

-- the order: a test on integers is one on naturals
leb-same : (a b c d : ℕ) → (a ≤ b → c ≤ d) → (c ≤ d → a ≤ b) → leb a b ≡ leb c d
leb-same a b c d f g =
    by-leb a b (λ x. x ≡ leb c d) (λ h. sym (le-leb c d (f h))) (λ h. sym (lt-leb c d (other h)))
  where
    other : b < a → d < c
    other h = by-leb c d (λ x. d < c) (λ k. absurd (clash (g k) h)) (λ k. k)
      where
        clash : a ≤ b → b < a → ⊥
        clash p q = omega arith

pub is_lt : {z w : ℤ} {a b c d : ℕ} → Is z a b → Is w c d → lt_z z w ≡ ltb (a + d) (c + b)
is_lt {z = pos m} {w = pos n} {a} {b} {c} {d} h k = leb-same (suc m) n (suc (a + d)) (c + b) (omega arith) (omega arith)
is_lt {z = pos m} {w = negsuc n} {a} {b} {c} {d} h k = sym (lt-leb (suc (a + d)) (c + b) (omega arith))
is_lt {z = negsuc m} {w = pos n} {a} {b} {c} {d} h k = sym (le-leb (suc (a + d)) (c + b) (omega arith))
is_lt {z = negsuc m} {w = negsuc n} {a} {b} {c} {d} h k = leb-same (suc n) m (suc (a + d)) (c + b) (omega arith) (omega arith)

pub less : {z w : ℤ} {a b c d : ℕ} → Is z a b → Is w c d → lt_z z w ≡ true → a + d < c + b
less {a = a} {b} {c} {d} h k e = ltb-true (a + d) (c + b) (sym (is_lt h k) ∙ e)

pub not-less : {z w : ℤ} {a b c d : ℕ} → Is z a b → Is w c d → lt_z z w ≡ false → c + b ≤ a + d
not-less {a = a} {b} {c} {d} h k e = ltb-false (a + d) (c + b) (sym (is_lt h k) ∙ e)

pub not_negative : {z : ℤ} {a b : ℕ} → Is z a b → b ≤ a → T (non_neg z)
not_negative {z = pos n} h g = tt
not_negative {z = negsuc n} h g = absurd (omega arith)

-- and of two integers over one base
pub is_le : {z w : ℤ} {a b c : ℕ} → Is z a c → Is w b c → a ≤ b → z ≤ℤ w
is_le {z = pos m} {w = pos n} h k g = le_z_yes (le→leb m n (omega arith))
is_le {z = pos m} {w = negsuc n} h k g = absurd (omega arith)
is_le {z = negsuc m} {w = pos n} h k g = le_z_yes tt
is_le {z = negsuc m} {w = negsuc n} h k g = le_z_yes (le→leb n m (omega arith))

pub le_is : {z w : ℤ} {a b c : ℕ} → Is z a c → Is w b c → z ≤ℤ w → a ≤ b
le_is {z = pos m} {w = pos n} h k g = omega (arith, leb→le m n g.le)
le_is {z = pos m} {w = negsuc n} h k g = absurd g.le
le_is {z = negsuc m} {w = pos n} h k g = omega arith
le_is {z = negsuc m} {w = negsuc n} h k g = omega (arith, leb→le n m g.le)

-- ---- a width: what fits it, what it holds, and what its bits read back as
-- the machine holds a signed number as bits, and reads them back
abbrev pub back : Width → ℤ → ℤ
back w z = to_z w (of_z w z)

pub fits : (w : Width) {z : ℤ} {a b : ℕ} → Is z a b → a < b + 2 ^ hbits w → b ≤ a + 2 ^ hbits w → SFits w z
fits w {z = pos n} h l g = omega arith
fits w {z = negsuc n} h l g = omega arith

pub record Signed (w : Width) (z : ℤ) : Type 0 where
  pub a : ℕ
  pub b : ℕ
  pub low : b ≤ a + 2 ^ hbits w
  pub high : a < b + 2 ^ hbits w
  pub is : Is z a b

pub signed : (w : Width) {z : ℤ} → SFits w z → Signed w z
signed w {z = pos n} f = record { a = n; b = 0; low = omega arith; high = omega arith; is = is_pos n }
signed w {z = negsuc n} f = record { a = 0; b = suc n; low = omega arith; high = omega arith; is = is-negsuc n }

pub is_read : (w : Width) {n : ℕ} → n < 2 ^ hbits w → Is (to_z w n) n 0
is_read w {n} h = rw (to_z_pos w h) (is_pos n)

-- ---- sizes: z is at most n away from 0. The laws follow the expression, and the bounds compute
pub record Near (z : ℤ) (n : ℕ) : Type 0 where
  pub near : nat_abs z ≤ n

record Apart (z : ℤ) : Type 0 where
  a : ℕ
  b : ℕ
  is : Is z a b
  abs : nat_abs z ≡ a + b

apart : (z : ℤ) → Apart z
apart (pos n) = record { a = n; b = 0; is = is_pos n; abs = omega arith }
apart (negsuc n) = record { a = 0; b = suc n; is = is-negsuc n; abs = omega arith }

pub near_fits : {w : Width} {z : ℤ} {n : ℕ} → Near z n → T (ltb n (2 ^ hbits w)) → SFits w z
near_fits {w} {z} {n} h t =
    let p = apart z in
    fits w p.is (omega (arith, h.near, p.abs, ltb→lt n (2 ^ hbits w) t)) (omega (arith, h.near, p.abs, ltb→lt n (2 ^ hbits w) t))

pub near-narrow : {v : Width} {z : ℤ} {n : ℕ} → Near z n → T (ltb n (2 ^ bits v)) → Fits v (nat_abs z)
near-narrow {v} {z} {n} h t = record { fits = lt_of_le_of_lt h.near (ltb→lt n (2 ^ bits v) t) }

pub fits-near : {w : Width} {z : ℤ} → SFits w z → Near z (2 ^ hbits w)
fits-near {w} {z} f = let p = signed w f in record { near = omega (arith, is-abs p.is, p.low, p.high) }

pub near-read : {w : Width} {z : ℤ} {n : ℕ} → SFits w z → Near z n → Near (back w z) n
near-read f h = rw (to_z-of_z f) h

pub near-pos : {n m : ℕ} → n ≤ m → Near (pos n) m
near-pos h = record { near = h }

-- an unsigned number of a narrower width, cast
pub near-cast : (w v : Width) {n : ℕ} → Fits v n → T (leb (bits v) (hbits w)) → Near (to_z w n) (2 ^ bits v)
near-cast w v {n} f t =
    let h : n < 2 ^ hbits w = lt_of_lt_of_le f.fits (pow_mono (leb→le (bits v) (hbits w) t)) in
    rw (to_z_pos w h) (near-pos (le_of_lt f.fits))

pub near_add : {x y : ℤ} {a b : ℕ} → Near x a → Near y b → Near (x +ℤ y) (a + b)
near_add {x} {y} h k =
    let p = apart x in
    let q = apart y in
    record { near = omega (arith, is-abs (is-add p.is q.is), p.abs, q.abs, h.near, k.near) }

pub near_sub : {x y : ℤ} {a b : ℕ} → Near x a → Near y b → Near (x -ℤ y) (a + b)
near_sub {x} {y} h k =
    let p = apart x in
    let q = apart y in
    record { near = omega (arith, is-abs (is-minus p.is q.is), p.abs, q.abs, h.near, k.near) }

abs_neg : (z : ℤ) → nat_abs (neg_ℤ z) ≡ nat_abs z
abs_neg (pos zero) = refl
abs_neg (pos (suc n)) = refl
abs_neg (negsuc n) = refl

abs-mul : (x y : ℤ) → nat_abs (x *ℤ y) ≡ nat_abs x * nat_abs y
abs-mul (pos a) (pos b) = refl
abs-mul (pos a) (negsuc b) = abs_neg (pos (a * suc b))
abs-mul (negsuc a) (pos b) = abs_neg (pos (suc a * b))
abs-mul (negsuc a) (negsuc b) = refl

pub near_mul : {x y : ℤ} {a b : ℕ} → Near x a → Near y b → Near (x *ℤ y) (a * b)
near_mul {x} {y} h k = record { near = rw abs-mul (mul-le-mul h.near k.near) }

abs-quot : (x : ℤ) (k : ℕ) → nat_abs (quot_z x (pos k)) ≡ nat_abs x / k
abs-quot (pos a) k = refl
abs-quot (negsuc a) k = abs_neg (pos (suc a / k))

pub near-quot : {x : ℤ} {a : ℕ} (k n : ℕ) → T (leb a (k * n)) → Near x a → Near (quot_z x (pos k)) n
near-quot {x} {a} k n t h = record { near = rw abs-quot (div-le_of_le-mul k (le_trans h.near (leb→le a (k * n) t))) }

-- an unsigned number of a narrower width, cast, and less a constant
pub cast-less : (w v : Width) {n : ℕ} (k : ℕ) → Fits v n → T (leb (bits v) (hbits w)) → T (ltb (2 ^ bits v + k) (2 ^ hbits w)) → SFits w (to_z w n -ℤ pos k)
cast-less w v k f t s = near_fits (near_sub (near-cast w v f t) (near-pos (le_refl k))) s
