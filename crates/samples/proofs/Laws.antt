-- Laws of samples: their bits, 8-bit sound and holding, in the words of the code. Assumes nothing.
use mathlib.Core.Path.{◌≡◌, ◌∙◌}
use mathlib.Core.Bool.{cond}
use Prim.Native.Nat.{ℕ, ◌+◌, ◌-◌, ◌^◌, ◌<◌, min}
use native.Mathlib.Nat.{le_refl}
use native.Mathlib.Omega.{arith}
use lib.Dec.{T, ltb, leb, leb→le}
use lib.IntN.{ℤ, pos, negsuc, ◌+ℤ◌}
use lib.Signed.{non_neg}
use mir.Syntax.{w16, w32}
use mir.Val.{SFits}
use mir.Facts.{to_z-of_z, sfits_widen}
use Rattle.samples.specs.Sound.{hold}
use Rattle.samples.proofs.Signed.{Is, by-ltb, is-shift, is_pos, is-negsuc, is-add, not_negative, fits, signed, back, Near, fits-near, near_fits, near_add, near-pos}

-- ---- a sample, widened
module _ {z : ℤ} (f : SFits w16 z) where
  pub widened : SFits w32 (back w16 z)
  widened = rw (to_z-of_z f) (sfits_widen tt f)

  pub wide_is : back w32 (back w16 z) ≡ z
  wide_is = to_z-of_z widened ∙ to_z-of_z f
  -- the widened sample and a constant

-- ---- a sample as the natural u = z + 32768
pub record Raised (z : ℤ) : Type 0 where
  pub u : ℕ
  pub below : u < 65536
  pub is : Is z u 32768

pub raised : {z : ℤ} → SFits w16 z → Raised z
raised f =
    let s = signed w16 f in
    record { u = s.a + 32768 - s.b; below = omega arith; is = is-shift (s.a + 32768 - s.b) 32768 s.is (omega arith) }

-- ---- holding to 16 bits: on that natural it is truncated minus and `min`
pub hold-is : {z : ℤ} {a b : ℕ} → Is z a b → Is (hold z) (min (a + 32768 - b) 65535) 32768
unfolding hold
hold-is {z = pos n} {a} {b} h =
    by-ltb 32767 n (λ c. Is (cond c (pos 32767) (pos n)) (min (a + 32768 - b) 65535) 32768) (λ g. omega arith) (λ g. omega arith)
hold-is {z = negsuc n} {a} {b} h =
    by-ltb 32767 n (λ c. Is (cond c (negsuc 32767) (negsuc n)) (min (a + 32768 - b) 65535) 32768) (λ g. omega arith) (λ g. omega arith)

pub hold-fits : (z : ℤ) → SFits w16 (hold z)
hold-fits (pos n) = fits w16 (hold-is (is_pos n)) (omega arith) (omega arith)
hold-fits (negsuc n) = fits w16 (hold-is (is-negsuc n)) (omega arith) (omega arith)
