-- Laws of a machine's states. Assumes nothing.
use mathlib.Core.Path.{◌≡◌, refl, ap}
use mathlib.Core.List.{List, [], ◌∷◌}
use Prim.Native.Nat.{ℕ, suc}
use lib.ListN.{length}
use Rattle.lists.specs.States.{through}

-- one state for each code
pub through-long : {S : Type 0} (step : S → ℕ → S) (t : S) (ks : List ℕ) → length (through step t ks) ≡ length ks
unfolding through
through-long step t [] = refl
through-long step t (k ∷ ks) = ap suc (through-long step (step t k) ks)
