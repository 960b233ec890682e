-- The table of steps: one test that is computed over all 89 entries, and the rule that it gives at each. Assumes nothing.
use mathlib.Core.Path.{◌≡◌}
use mathlib.Core.Bool.{Bool, true, ◌&&◌}
use mathlib.Core.List.{List, [], ◌∷◌}
use Prim.Native.Nat.{ℕ, zero, suc, ◌+◌, ◌*◌, ◌≤◌, ◌<◌}
use native.Mathlib.Omega.{arith}
use lib.Dec.{T, leb, leb→le}
use lib.ListN.{length, get_or}
use mir.Syntax.{w32}
use mir.Val.{Fits}
use mir.Facts.{and_yes}
use Rattle.ima_code.specs.Code.{steps, step_at}

-- no number of a list is above high; the first is at least low, the next at least one more, and so on
abbrev rising : ℕ → ℕ → List ℕ → Bool
rising low high [] = true
rising low high (x ∷ xs) = leb low x && (leb x high && rising (suc low) high xs)

first-rising : (low high x : ℕ) (xs : List ℕ) → T (rising low high (x ∷ xs))
    → (low ≤ x) × (x ≤ high) × T (rising (suc low) high xs)
first-rising low high x xs t =
    let p = and_yes (leb low x) (leb x high && rising (suc low) high xs) t in
    let q = and_yes (leb x high) (rising (suc low) high xs) p.1 in
    (leb→le low x p.0, leb→le x high q.0, q.1)

rising-at : (low high : ℕ) (xs : List ℕ) → T (rising low high xs) → (i : ℕ) → i < length xs
    → (low + i ≤ get_or xs i 0) × (get_or xs i 0 ≤ high)
rising-at low high [] t i h = absurd (omega arith)
rising-at low high (x ∷ xs) t zero h =
    let p = first-rising low high x xs t in
    (omega arith, p.1)
rising-at low high (x ∷ xs) t (suc i) h =
    let p = rising-at (suc low) high xs (first-rising low high x xs t).2 i (omega arith) in
    (omega arith, p.1)

-- step i is at least 7 + i and at most 32767
pub step_range : {i : ℕ} → i < 89 → (7 + i ≤ step_at i) × (step_at i ≤ 32767)
unfolding step_at
step_range {i} h = rising-at 7 32767 steps tt i h

module _ {i : ℕ} (h : i < 89) where
  pub step_most : step_at i ≤ 32767
  step_most = omega (arith, step_range h)

-- a number that is the step of an index
module _ {s : ℕ} (i : ℕ) (e : s ≡ step_at i) (h : i < 89) where
  pub step-most : s ≤ 32767
  step-most = omega (arith, step_most h)

  pub twice-fits : Fits w32 (2 * s)
  twice-fits = record { fits = omega (arith, step-most) }
