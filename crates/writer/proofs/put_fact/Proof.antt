-- The head and the count, or nothing.
use Rattle.writer.proofs.Chunks.{parts}
use borrow.Author.Rules.{rules}
use Rattle.writer.proofs.put_fact.Statement.{statement}
use Rattle.writer.proofs.put_fact.Tie as tie

pub put_fact_spec : {M : Type 1} → statement M
put_fact_spec =
    tie.close
    (tie.spec (λ c κs. search rules) (λ c. search (rules, parts)) (λ c κs. search (rules, parts))
    (λ c. search rules) (λ c κs. search (rules, parts)) (λ c. search rules) (λ c. search rules)
    (λ c. search (rules, parts)))
