-- What the record and the texts of a file that was taken find room for.
use mathlib.Core.Path.{sym}
use Rattle.std.proofs.Common.{arith, ◌≡◌, length, Ok}
use Rattle.std.proofs.lemmas.Grind.{common_steps}
use Rattle.reader.specs.Content.{reading, texts_in}
use Rattle.wave_c.specs.Interface.{room_for, record_lent}
use Rattle.wave_c.proofs.Laws.{record-taken}
use Rattle.wave_c.proofs.tronalhet_read.Goals as goal

pub returns-in-Ok-clause-answer : goal.returns-in-Ok-clause-answer
returns-in-Ok-clause-answer c =
    let taken : reading c.args.file.now ≡ Ok c.in-Ok.opened.made = sym c.in-Ok.ensures.answer in
    let room = record-taken c.args.file.now (length c.args.out.now) (length c.args.texts.now) taken in
    grind (arith, common_steps, room)
