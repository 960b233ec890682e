-- By the case that the spot is.
use Rattle.riff.proofs.Parting.{part-there, lent-there, place-there, lent-missing}
use borrow.Author.Rules.{rules}
use Rattle.riff.proofs.part.Statement.{statement}
use Rattle.riff.proofs.part.Tie as tie

pub part_spec : {M : Type 1} → statement M
part_spec =
    tie.close
    (tie.spec (λ c. search rules) (λ c κs. search rules) (λ c. search rules)
    (λ c. (search (rules, part-there), (search (rules, lent-there), search (rules, place-there))))
    (λ c. (search rules, search (rules, lent-missing))))
