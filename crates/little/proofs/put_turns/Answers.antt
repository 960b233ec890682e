-- Each turn's bytes stand behind those before it, and the rest behind them all.
use Rattle.std.proofs.Common.{rules}
use Rattle.little.proofs.Filling.{write-begins, turning}
use Rattle.little.proofs.put_turns.Goals as goal

pub loop-i-init : goal.loop-i-init
loop-i-init c = search (rules, write-begins)

pub loop-i-preserved : goal.loop-i-preserved
loop-i-preserved c = search (rules, turning)

pub returns : goal.returns
returns c = record { buffer = search (rules, turning) }
