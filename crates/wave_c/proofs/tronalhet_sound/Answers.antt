-- A refusal of the reader stands.
use mathlib.Core.Path.{sym}
use Rattle.std.proofs.Common.{rules, ◌≡◌, Err}
use Rattle.reader.specs.Content.{reading}
use Rattle.wave_c.proofs.Laws.{reading_first}
use Rattle.wave_c.proofs.tronalhet_sound.Goals as goal

pub returns-in-Err-clause-answer : goal.returns-in-Err-clause-answer
returns-in-Err-clause-answer c =
    let refused : reading c.args.file.now ≡ Err c.in-Err.refusal = sym c.in-Err.ensures.answer in search (rules, reading_first)
