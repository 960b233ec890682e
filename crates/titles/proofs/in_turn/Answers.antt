use Rattle.std.proofs.Common.{rules}
use Rattle.titles.proofs.Texts.{turning}
use Rattle.titles.proofs.in_turn.Goals as goal

pub loop-i-preserved : goal.loop-i-preserved
loop-i-preserved c = search (rules, turning)
