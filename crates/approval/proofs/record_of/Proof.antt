-- The format by its parts, and a bare record.
use Rattle.approval.proofs.Laws.{record-made}
use borrow.Author.Rules.{rules}
use Rattle.approval.proofs.record_of.Statement.{statement}
use Rattle.approval.proofs.record_of.Tie as tie

pub record_of_spec : {M : Type 1} → statement M
record_of_spec = tie.close (tie.spec (λ c κs. search rules) (λ c κs. search rules) (λ c. search (rules, record-made)))
