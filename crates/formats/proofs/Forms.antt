-- What a `fmt ` says, and its form, in the words of the code. Assumes nothing.
use mathlib.Core.Path.{◌≡◌}
use mathlib.Core.Bool.{Bool, true}
use mathlib.Core.List.{List}
use Prim.Native.Nat.{ℕ, ◌*◌, ◌^◌, ◌≤◌, ◌<◌}
use native.Mathlib.Nat.{mul-le-mul_left, mul-lt-mul_of_pos_right, lt_of_lt_of_le, lt_of_le_of_lt, le_of_lt}
use native.Mathlib.Omega.{arith}
use lib.Dec.{T, leb, eqb, leb→le}
use lib.ListN.{length}
use mir.Syntax.{Width}
use mir.Val.{Fits, bits}
use Rattle.little.specs.Numbers.{number_at}
use Rattle.little.proofs.Tests.{tests}
use Rattle.formats.specs.Format.{extended, average, pairs_form, format_form}

-- a product fits where the product of what bounds its factors does
pub product-fits : {w : Width} {a b m n : ℕ} → a < m → b < n → T (leb (m * n) (2 ^ bits w)) → Fits w (a * b)
product-fits {w} {a} {m = m} {n = n} g h t =
    record {
      fits =
          lt_of_lt_of_le (lt_of_le_of_lt (mul-le-mul_left a (le_of_lt h)) (mul-lt-mul_of_pos_right g (omega arith)))
          (leb→le (m * n) (2 ^ bits w) t);
    }

-- ---- its form
module _ (s : List ℕ) where
  pub average-is : {rate align stored : ℕ} → rate ≡ number_at 4 s 4 → align ≡ number_at 2 s 12 → stored ≡ number_at 4 s 8
      → eqb stored (rate * align) ≡ average s
  unfolding average
  average-is r a t = simp (r, a, t)

  module _ (h : 16 ≤ length s) {tag : ℕ} (t : tag ≡ number_at 2 s 0) where
    pub form-pcm : {r : Bool} → tag ≡ 1 → r ≡ average s → r ≡ format_form s
    unfolding format_form
    form-pcm p e = simp (tests, ← t, e)

    module _ (p : tag ≡ 1 → ⊥) where
      pub form-ima : {r : Bool} → tag ≡ 17 → r ≡ extended 20 2 s → r ≡ format_form s
      unfolding format_form
      form-ima i e = simp (tests, ← t, e)

      module _ (i : tag ≡ 17 → ⊥) where
        module _ (m : tag ≡ 2) {x : Bool} (e : x ≡ extended 50 32 s) where
          pub form-microsoft : {r : Bool} → x ≡ true → r ≡ pairs_form s → r ≡ format_form s
          unfolding format_form
          form-microsoft f g = simp (tests, ← t, ← e, f, g)
