-- The 64 samples are all that the buffer has room for.
use Rattle.std.proofs.Common.{rules}
use Rattle.samples.proofs.Turning.{turning}
use Rattle.samples.proofs.turn_many.Goals as goal

pub returns : goal.returns
returns g c = search (rules, turning)
