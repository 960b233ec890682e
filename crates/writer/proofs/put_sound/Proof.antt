-- The head, the sound and the pad behind one another.
use Rattle.riff.proofs.Putting.{padded-chunks}
use borrow.Author.Rules.{rules}
use Rattle.writer.proofs.put_sound.Statement.{statement}
use Rattle.writer.proofs.put_sound.Tie as tie

pub put_sound_spec : {M : Type 1} → statement M
put_sound_spec =
    tie.close
    (tie.spec (λ c κs. search rules) (λ c. search rules) (λ c κs. search (rules, padded-chunks)) (λ c. search rules)
    (λ c κs. search (rules, padded-chunks)) (λ c. search rules) (λ c. search rules)
    (λ c κs. search (rules, padded-chunks)) (λ c. search rules) (λ c. search (rules, padded-chunks)))
