-- The head and the data; no pad is needed.
use Rattle.riff.proofs.Putting.{chunks}
use borrow.Author.Rules.{rules}
use Rattle.writer.proofs.put_format.Statement.{statement}
use Rattle.writer.proofs.put_format.Tie as tie

pub put_format_spec : {M : Type 1} → statement M
put_format_spec =
    tie.close
    (tie.spec (λ c κs. search rules) (λ c. search rules) (λ c κs. search (rules, chunks)) (λ c. search rules)
    (λ c κs. search (rules, chunks)) (λ c. search rules) (λ c. search rules) (λ c. search rules)
    (λ c. search (rules, chunks)))
