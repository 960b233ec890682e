-- The titles are tested, and the second part of the sound is empty.
use Rattle.rules.proofs.Typed.{record-typed}
use Rattle.writer.proofs.Files.{one-part}
use borrow.Author.Rules.{rules}
use Rattle.writer.proofs.write.Statement.{statement}
use Rattle.writer.proofs.write.Tie as tie

pub write_spec : {M : Type 1} → statement M
write_spec =
    tie.close
    (tie.spec (λ c κs. search (rules, one-part, record-typed))
    (λ c κs. search (rules, one-part, record-typed)) (λ c. search (rules, one-part, record-typed))
    (λ c. search (rules, one-part, record-typed)))
