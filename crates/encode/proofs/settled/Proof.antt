-- Each return is one law of the checks, in their order; what a good format bounds keeps the products small.
use borrow.Author.Rules.{rules}
use Rattle.encode.proofs.Settling.{settling}
use Rattle.encode.proofs.settled.Statement.{statement}
use Rattle.encode.proofs.settled.Tie as tie

pub settled_spec : {M : Type 1} → statement M
settled_spec =
    tie.close
    (tie.spec (λ c. search (rules, settling)) (λ c κs. search rules) (λ c. search (rules, settling))
    (λ c. search (rules, settling)) (λ c. search (rules, settling)) (λ c κs. search (rules, settling))
    (λ c. search (rules, settling)) (λ c. search (rules, settling)) (λ c. search (rules, settling)))
