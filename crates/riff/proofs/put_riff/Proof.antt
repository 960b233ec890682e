-- The head, and the code behind it.
use Rattle.riff.proofs.Laying.{riff-put}
use borrow.Author.Rules.{rules}
use Rattle.riff.proofs.put_riff.Statement.{statement}
use Rattle.riff.proofs.put_riff.Tie as tie

pub put_riff_spec : {M : Type 1} → statement M
put_riff_spec =
    tie.close
    (tie.spec
    (λ c κs. search rules)
    (λ c κs. search rules)
    (λ c. search rules)
    (λ c. search (rules, riff-put)))
