-- The next 64 samples are written behind those before them.
use Rattle.std.proofs.Common.{rules}
use Rattle.samples.proofs.Turning.{turning}
use Rattle.samples.proofs.turn.Goals as goal

pub loop-i-preserved : goal.loop-i-preserved
loop-i-preserved g c = search (rules, turning)
