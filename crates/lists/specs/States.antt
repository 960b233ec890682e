-- A machine that goes from state to state, as a channel does. Assumes nothing.
use Rattle.std.specs.Prelude.{ℕ, List, [], ◌∷◌}

-- the states that codes lead through, one after each
unfoldable pub through : {S : Type 0} → (S → ℕ → S) → S → List ℕ → List S
through step t [] = []
through step t (k ∷ ks) = step t k ∷ through step (step t k) ks
