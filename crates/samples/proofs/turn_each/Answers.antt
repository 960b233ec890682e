-- The next sample is written behind those before it.
use Rattle.std.proofs.Common.{rules}
use Rattle.samples.proofs.Turning.{turning}
use Rattle.samples.proofs.turn_each.Goals as goal

pub loop-i-preserved : goal.loop-i-preserved
loop-i-preserved g c = search (rules, turning)
