-- Two writes behind one another.
use Rattle.little.proofs.Filling.{behind}
use borrow.Author.Rules.{rules}
use Rattle.writer.proofs.put_tables.Statement.{statement}
use Rattle.writer.proofs.put_tables.Tie as tie

pub put_tables_spec : {M : Type 1} → statement M
put_tables_spec =
    tie.close
    (tie.spec (λ c κs. search (rules, behind)) (λ c κs. search (rules, behind)) (λ c. search rules)
    (λ c. search (rules, behind)))
