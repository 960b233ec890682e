-- The code, and the size behind it.
use Rattle.riff.proofs.Laying.{head-put}
use borrow.Author.Rules.{rules}
use Rattle.riff.proofs.put_head.Statement.{statement}
use Rattle.riff.proofs.put_head.Tie as tie

pub put_head_spec : {M : Type 1} → statement M
put_head_spec =
    tie.close
    (tie.spec
    (λ c κs. search rules)
    (λ c. search rules)
    (λ c κs. search rules)
    (λ c. search rules)
    (λ c. search (rules, head-put)))
