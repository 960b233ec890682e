-- What the checks say is what either function asks, for one channel or for two; its answer is the whole one's.
use borrow.Author.Rules.{rules}
use Rattle.encode.proofs.Answers.{writing}
use Rattle.encode.proofs.write_blocks.Statement.{statement}
use Rattle.encode.proofs.write_blocks.Tie as tie

pub write_blocks_spec : {M : Type 1} → statement M
write_blocks_spec =
    tie.close
    (tie.spec (λ c κs. search (rules, writing)) (λ c κs. search (rules, writing)) (λ c. search (rules, writing))
    (λ c. search rules) (λ c. search (rules, writing)) (λ c κs. search (rules, writing))
    (λ c. search (rules, writing)) (λ c. search rules) (λ c. search (rules, writing)))
