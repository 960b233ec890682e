-- The order of checks: of a list of checks, each with its refusal, the first that fails decides. Assumes nothing.
use Rattle.std.specs.Prelude.{ℕ, ◌≡◌, Bool, true, not, cond, List, [], ◌∷◌, Err, Ok}
use Rattle.units.specs.declared.Refusal.{Refusal}
use Rattle.units.specs.Refusals.{number_of, Verdict}

-- whether a check is met, and the refusal where it is not
pub record Check : Type 0 where
  pub met : Bool
  pub refusal : Refusal

abbrev pub check : Bool → Refusal → Check
check met refusal = record { met = met; refusal = refusal }

-- the verdict of checks in their order
unfoldable pub decided : List Check → Verdict
decided [] = Ok tt
decided (c ∷ cs) = cond c.met (decided cs) (Err c.refusal)

-- a verdict, and where it accepts the one after it
abbrev pub and_then : Verdict → Verdict → Verdict
and_then (Ok _) v = v
and_then (Err r) v = Err r

-- the number of the first check that fails; 0 where all are met
unfoldable pub number_by : List Check → ℕ
number_by [] = 0
number_by (c ∷ cs) = cond (not c.met) (number_of c.refusal) (number_by cs)

-- the number of a verdict that refuses, or else n
abbrev pub number_or : Verdict → ℕ → ℕ
number_or (Ok _) n = n
number_or (Err r) n = number_of r

-- every check is met
unfoldable pub AllMet : List Check → Type 0
AllMet [] = Unit {0}
AllMet (c ∷ cs) = (c.met ≡ true) × AllMet cs

-- two lists of checks for the same refusals, each met where its twin is, as far as those before are met
unfoldable pub SameSoFar : List Check → List Check → Type 0
SameSoFar [] [] = Unit {0}
SameSoFar (c ∷ cs) (d ∷ ds) = (c.refusal ≡ d.refusal) × (c.met ≡ d.met) × (d.met ≡ true → SameSoFar cs ds)
SameSoFar [] (d ∷ ds) = ⊥
SameSoFar (c ∷ cs) [] = ⊥
