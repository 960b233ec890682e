-- Three writes behind one another.
use Rattle.writer.proofs.Opening.{openings}
use borrow.Author.Rules.{rules}
use Rattle.writer.proofs.put_opening.Statement.{statement}
use Rattle.writer.proofs.put_opening.Tie as tie

pub put_opening_spec : {M : Type 1} → statement M
put_opening_spec =
    tie.close
    (tie.spec (λ c. search rules) (λ c κs. search (rules, openings)) (λ c κs. search (rules, openings))
    (λ c κs. search (rules, openings)) (λ c. search rules) (λ c. search (rules, openings)))
