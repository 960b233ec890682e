-- One zero, or nothing.
use Rattle.riff.proofs.Putting.{padding}
use borrow.Author.Rules.{rules}
use Rattle.riff.proofs.put_pad.Statement.{statement}
use Rattle.riff.proofs.put_pad.Tie as tie

pub put_pad_spec : {M : Type 1} → statement M
put_pad_spec =
    tie.close
    (tie.spec (λ c. search (rules, padding)) (λ c. search (rules, padding)) (λ c. search rules)
    (λ c. search (rules, padding)))
