-- The head and the list, or nothing.
use Rattle.writer.proofs.Chunks.{parts}
use borrow.Author.Rules.{rules}
use Rattle.writer.proofs.put_titles.Statement.{statement}
use Rattle.writer.proofs.put_titles.Tie as tie

pub put_titles_spec : {M : Type 1} → statement M
put_titles_spec =
    tie.close
    (tie.spec (λ c. search (rules, parts)) (λ c κs. search (rules, parts)) (λ c. search (rules, parts))
    (λ c κs. search (rules, parts)) (λ c. search (rules, parts)) (λ c κs. search (rules, parts))
    (λ c. search (rules, parts)) (λ c. search (rules, parts)) (λ c. search (rules, parts))
    (λ c. search (rules, parts)))
