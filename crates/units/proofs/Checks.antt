-- The laws of checks in their order: all met, the same as far as met, and the number. Assumes nothing.
use mathlib.Core.Path.{◌≡◌, refl, sym, ap, ◌∙◌}
use mathlib.Core.Bool.{Bool, true, false, not, cond}
use mathlib.Core.List.{List, [], ◌∷◌, ◌++◌}
use Prim.Native.Nat.{ℕ}
use native.Mathlib.Omega.{arith}
use borrow.Author.Tests.{not-true, not-false}
use Rattle.units.specs.declared.Refusal.{Refusal}
use Rattle.units.specs.Refusals.{number_of, verdict_number, Verdict}
use Rattle.units.specs.Checks.{Check, check, decided, and_then, number_by, number_or, AllMet, SameSoFar}
use Rattle.std.specs.Prelude.{Err, Ok}

-- ---- all met
pub all-met : (cs : List Check) → decided cs ≡ Ok tt → AllMet cs
unfolding decided AllMet
all-met [] e = tt
all-met (c ∷ cs) e = by (all-met cs) c.met refl e
  where
    by : (decided cs ≡ Ok tt → AllMet cs) → (b : Bool) → c.met ≡ b → cond b (decided cs) (Err c.refusal) ≡ Ok tt
        → (c.met ≡ true) × AllMet cs
    by f true h e = (h, f e)
    by f false h e = let z : ◌≡◌ {A = ℕ} 0 1 = cc in absurd (omega arith)

pub met_all : (cs : List Check) → AllMet cs → decided cs ≡ Ok tt
unfolding decided AllMet
met_all [] a = refl
met_all (c ∷ cs) a = ap (λ (b : Bool). cond b (decided cs) (Err c.refusal)) a.0 ∙ met_all cs a.1

-- ---- the same as far as met
pub same-verdict : (cs ds : List Check) → SameSoFar cs ds → decided cs ≡ decided ds
unfolding decided SameSoFar
same-verdict [] [] s = refl
same-verdict (c ∷ cs) (d ∷ ds) s =
    (λ i. cond (s.1 i) (decided cs) (Err (s.0 i)))
    ∙ by d.met (λ e. same-verdict cs ds (s.2 e))
  where
    by : (b : Bool) → (b ≡ true → decided cs ≡ decided ds) → cond b (decided cs) (Err d.refusal) ≡ cond b (decided ds) (Err d.refusal)
    by true f = f refl
    by false f = refl
same-verdict [] (d ∷ ds) s = absurd s
same-verdict (c ∷ cs) [] s = absurd s

-- ---- the number: each check is a row of the table
pub number-row : (cs : List Check) → verdict_number (decided cs) ≡ number_by cs
unfolding decided number_by
number-row [] = refl
number-row (c ∷ cs) = by (number-row cs) c.met
  where
    by : verdict_number (decided cs) ≡ number_by cs → (b : Bool)
        → verdict_number (cond b (decided cs) (Err c.refusal)) ≡ cond (not b) (number_of c.refusal) (number_by cs)
    by e true = e
    by e false = refl

pub number-then : (v w : Verdict) → verdict_number (and_then v w) ≡ number_or v (verdict_number w)
number-then (Ok _) w = refl
number-then (Err r) w = refl

-- ---- checks, and those after them
pub then-decided : (cs ds : List Check) → decided (cs ++ ds) ≡ and_then (decided cs) (decided ds)
unfolding decided
then-decided [] ds = refl
then-decided (c ∷ cs) ds = by (then-decided cs ds) c.met
  where
    by : decided (cs ++ ds) ≡ and_then (decided cs) (decided ds) → (b : Bool)
        → cond b (decided (cs ++ ds)) (Err c.refusal) ≡ and_then (cond b (decided cs) (Err c.refusal)) (decided ds)
    by e true = e
    by e false = refl

-- ---- in the words of the code: a check that fails decides, one that is met leaves it to those after it
module _ {b x : Bool} (r : Refusal) (cs : List Check) (e : x ≡ b) where
  pub check-fails : not x ≡ true → Err r ≡ decided (check b r ∷ cs)
  unfolding decided
  check-fails n = sym (ap (λ (y : Bool). cond y (decided cs) (Err r)) (sym e ∙ not-true x n))

  pub check-met : {v : Verdict} → not x ≡ false → v ≡ decided cs → v ≡ decided (check b r ∷ cs)
  unfolding decided
  check-met n f = f ∙ sym (ap (λ (y : Bool). cond y (decided cs) (Err r)) (sym e ∙ not-false x n))

pub none_left : Ok tt ≡ decided []
unfolding decided
none_left = refl
