-- The promises of reading, from the clauses of the contracts; and that they leave one answer. Assumes nothing.
use mathlib.Core.Path.{◌≡◌, refl, sym, ap, ◌∙◌}
use mathlib.Core.Bool.{Bool, true, false, not, cond}
use mathlib.Core.List.{List}
use lib.Dec.{leb}
use Prim.Native.Nat.{ℕ}
use native.Mathlib.Omega.{arith}
use lib.ListN.{length}
use Rattle.little.specs.Writing.{holding}
use Rattle.units.specs.declared.Refusal.{Refusal}
use Rattle.units.specs.declared.Refusal.TheVariants.{OutputTooSmall}
use Rattle.units.specs.Refusals.{number_of, verdict_number, Verdict}
use Rattle.units.specs.Checks.{number_or}
use Rattle.rules.specs.Rules.{reading_verdict, Reading}
use Rattle.reader.specs.Content.{reading, texts_in, reading_in}
use Rattle.reader.specs.Demands.{Refusing, RoomNumbered}
use Rattle.reader.specs.Promise.{ReadPromise, OneReading, OneSound}
use Rattle.reader.proofs.Titles.{read-refused}
use Rattle.std.specs.Prelude.{Err, Ok, is_err}

-- the number with room for the texts
pub room-numbered : RoomNumbered
unfolding RoomNumbered reading_in Refusing
room-numbered s room = by (reading_verdict (reading s)) refl
  where
    row : (b : Bool) (v : Verdict) → v ≡ reading_verdict (reading s)
        → verdict_number (reading_verdict (cond b (reading s) (Err OutputTooSmall))) ≡ cond b (verdict_number v) 14
    row true v e = ap verdict_number (sym e)
    row false v e = refl

    by : (v : Verdict) → reading_verdict (reading s) ≡ v
        → verdict_number (reading_verdict (cond (leb (length (texts_in s)) room) (reading s) (Err OutputTooSmall)))
        ≡ number_or v (cond (not (leb (length (texts_in s)) room)) 14 0)
    by (Ok _) e = row (leb (length (texts_in s)) room) (Ok tt) (sym e) ∙ turned (leb (length (texts_in s)) room)
      where
        turned : (b : Bool) → ◌≡◌ {A = ℕ} (cond b 0 14) (cond (not b) 14 0)
        turned true = refl
        turned false = refl
    by (Err r) e = refused (reading s) refl e
      where
        refused : (x : Reading) → reading s ≡ x → reading_verdict x ≡ Err r → verdict_number (reading_verdict (reading_in s room)) ≡ number_of r
        refused (Ok m) f g = let z : ◌≡◌ {A = ℕ} 0 1 = cc in absurd (omega arith)
        refused (Err q) f g = ap (λ (x : Reading). verdict_number (reading_verdict x)) (read-refused s room (ap (λ (x : Reading). is_err x) f) ∙ f) ∙ ap verdict_number g

pub read_kept : (s d : List ℕ) {r : Reading} {e : List ℕ} → r ≡ reading_in s (length d) → e ≡ holding (reading_verdict r) (texts_in s) d → ReadPromise s d r e
unfolding RoomNumbered
read_kept s d a b =
    record { answer = a; number = ap (λ (r : Reading). verdict_number (reading_verdict r)) a ∙ room-numbered s (length d); buffer = b }

pub one-reading : OneReading
unfolding OneReading
one-reading s d r r' e e' p q =
    let a = p.answer ∙ sym q.answer in
    (a, p.buffer ∙ ap (λ (x : Reading). holding (reading_verdict x) (texts_in s) d) a ∙ sym q.buffer)

pub one-sound : OneSound
unfolding OneSound
one-sound A s lender from w w' by by' at at' p q =
    (p.part ∙ sym q.part, p.lent ∙ sym q.lent, p.place ∙ sym q.place)
