-- The part that stands at the sound's spot, which is in the file.
use Rattle.std.proofs.Common.{rules}
use Rattle.reader.proofs.Demands.{sound-placed}
use Rattle.reader.proofs.Standing.{lent_same, stands_at}
use Rattle.reader.proofs.sound_of.Goals as goal

pub returns-clause-part : goal.returns-clause-part
returns-clause-part c = search (rules, sound-placed)

pub returns-clause-lent : goal.returns-clause-lent
returns-clause-lent c = search (rules, lent_same)

pub returns-clause-place : goal.returns-clause-place
returns-clause-place c = search (rules, stands_at)
