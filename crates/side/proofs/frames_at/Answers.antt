-- The bytes of so many frames, from the bytes of the frames before them on.
use Rattle.std.proofs.Common.{rules}
use Rattle.side.proofs.Placing.{parting}
use Rattle.side.proofs.frames_at.Goals as goal

pub returns-clause-part : goal.returns-clause-part
returns-clause-part c = search (rules, parting)
