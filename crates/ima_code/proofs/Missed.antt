-- How far the size of the bits of a magnitude m at a step s is from m, by arithmetic over the eight ways to set them. Assumes nothing.
use mathlib.Core.Path.{◌≡◌, subst}
use Prim.Native.Nat.{ℕ, ◌+◌, ◌-◌, ◌*◌, ◌/◌, ◌≤◌, ◌<◌}
use native.Mathlib.Omega.{arith}
use Rattle.samples.proofs.Signed.{by-leb}
use Rattle.ima_code.specs.Code.{has_bit, difference_size, bits_for}
use Rattle.ima_code.proofs.Coding.{bits-7, bits-6, bits-5, bits-4, bits-3, bits-2, bits-1, bits-0}

abbrev pub slack : ℕ → ℕ
slack s = s / 8 + 2

-- a magnitude that is not chased: the size z of its bits is not far over or under it
pub record Missed (s m z : ℕ) : Type 0 where
  pub over : z ≤ m + s / 8
  pub under : m ≤ z + slack s

-- one that is chased: the size is a step at least, and falls short
pub record Short (s m z : ℕ) : Type 0 where
  pub least : s ≤ z
  pub most : z + s / 8 ≤ m

module _ (s m : ℕ) where
  abbrev Miss : ℕ → Type 0
  Miss k = Missed s m (difference_size s k)

  pub missed : m < 2 * s → Miss (bits_for s m)
  unfolding difference_size has_bit
  missed l =
      split s m
      (λ a. split (s / 2) (m - s)
      (λ b. split (s / 4) (m - s - s / 2)
      (λ c. subst Miss (bits-7 s m a b c) (omega arith)) (λ c. subst Miss (bits-6 s m a b c) (omega arith)))
      (λ b. split (s / 4) (m - s)
      (λ c. subst Miss (bits-5 s m a b c) (omega arith)) (λ c. subst Miss (bits-4 s m a b c) (omega arith))))
      (λ a. split (s / 2) m
      (λ b. split (s / 4) (m - s / 2)
      (λ c. subst Miss (bits-3 s m a b c) (omega arith)) (λ c. subst Miss (bits-2 s m a b c) (omega arith)))
      (λ b. split (s / 4) m
      (λ c. subst Miss (bits-1 s m a b c) (omega arith)) (λ c. subst Miss (bits-0 s m a b c) (omega arith))))
    where
      split : (a b : ℕ) → (a ≤ b → Miss (bits_for s m)) → (b < a → Miss (bits_for s m)) → Miss (bits_for s m)
      split a b f g = by-leb a b (λ _. Miss (bits_for s m)) f g

  pub all-bits : 2 * s ≤ m → 7 ≡ bits_for s m
  all-bits h = bits-7 s m (omega arith) (omega arith) (omega arith)

  pub short : 2 * s ≤ m → Short s m (difference_size s (bits_for s m))
  unfolding difference_size has_bit
  short h = subst (λ (k : ℕ). Short s m (difference_size s k)) (all-bits h) (omega arith)
