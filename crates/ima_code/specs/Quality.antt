-- What demand 3 says of one sample and of samples in succession. Assumes nothing.
use Rattle.std.specs.Prelude.{ℕ, zero, suc, ◌+◌, ◌*◌, ◌/◌, ◌≤◌, ◌<◌, ◌≡◌, Bool, true, false, List, [], ◌∷◌, ℤ, pos, nat_abs, ◌-ℤ◌, ◌≤ℤ◌, get_or}
use Rattle.std.specs.Int.{w16}
use Rattle.std.proofs.Common.{SFits}
use Rattle.ima_code.specs.declared.ImaState.{ImaState}
use Rattle.ima_code.specs.Code.{step_at, is_chased}

-- a channel whose last sample is one of 16 bits and whose index is one of the table
pub record InRange (t : ImaState) : Type 0 where
  pub last : SFits w16 t.last
  pub index : t.index < 89

-- every sample of a list is one of 16 bits
pub record Sixteen (xs : List ℤ) : Type 0 where
  pub at : (i : ℕ) → SFits w16 (get_or xs i (pos 0))

-- sample x comes after state t, whose last sample is its prediction, and is decoded as y
pub record Faithful (t : ImaState) (x y : ℤ) : Type 0 where
  -- not chased: within an eighth of the current step, rounded down, plus 2
  pub close : is_chased t x ≡ false → nat_abs (y -ℤ x) ≤ step_at t.index / 8 + 2
  -- chased: strictly nearer than the prediction was
  pub nearer : is_chased t x ≡ true → nat_abs (y -ℤ x) < nat_abs (t.last -ℤ x)
  -- and not beyond the original, from below or from above
  pub below : is_chased t x ≡ true → t.last ≤ℤ x → y ≤ℤ x
  pub above : is_chased t x ≡ true → x ≤ℤ t.last → x ≤ℤ y

-- y is between p and x, whichever of the two is the lower
pub record Between (p y x : ℤ) : Type 0 where
  pub up : p ≤ℤ x → (p ≤ℤ y) × (y ≤ℤ x)
  pub down : x ≤ℤ p → (x ≤ℤ y) × (y ≤ℤ p)

-- the same in the words of the demand: x is the original, y and p are the decoded samples of this frame and of the one before it,
-- and s is the current step
pub record Later (x y p : ℤ) (s : ℕ) : Type 0 where
  pub close : nat_abs (x -ℤ p) < 2 * s → nat_abs (y -ℤ x) ≤ s / 8 + 2
  pub nearer : 2 * s ≤ nat_abs (x -ℤ p) → nat_abs (y -ℤ x) < nat_abs (p -ℤ x)
  pub between : 2 * s ≤ nat_abs (x -ℤ p) → Between p y x

-- no more than n in succession; k more of them are allowed where the list begins
unfoldable pub within : ℕ → ℕ → List Bool → Bool
within n k [] = true
within n k (false ∷ bs) = within n n bs
within n zero (true ∷ bs) = false
within n (suc k) (true ∷ bs) = within n k bs

unfoldable pub at_most : ℕ → List Bool → Bool
at_most n bs = within n n bs
