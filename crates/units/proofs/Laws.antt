-- What a match on a refusal tells of its number. Assumes nothing.
use mathlib.Core.Path.{◌≡◌, sym, ap, ◌∙◌}
use Prim.Native.Nat.{ℕ}
use Rattle.units.specs.declared.Refusal.{Refusal}
use Rattle.units.specs.Refusals.{number_of}

-- the arm of the row s gives n: the number of every refusal that is s
pub numbered : {n : ℕ} (r s : Refusal) → r ≡ s → n ≡ number_of s → n ≡ number_of r
numbered r s e t = t ∙ sym (ap number_of e)
