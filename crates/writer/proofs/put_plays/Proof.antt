-- The head and the table, or nothing.
use Rattle.writer.proofs.Chunks.{parts}
use borrow.Author.Rules.{rules}
use Rattle.writer.proofs.put_plays.Statement.{statement}
use Rattle.writer.proofs.put_plays.Tie as tie

pub put_plays_spec : {M : Type 1} → statement M
put_plays_spec =
    tie.close
    (tie.spec (λ c. search (rules, parts)) (λ c κs. search rules) (λ c. search rules)
    (λ c κs. search (rules, parts)) (λ c. search rules) (λ c κs. search (rules, parts)) (λ c. search rules)
    (λ c. search rules) (λ c. search rules) (λ c. search (rules, parts)))
