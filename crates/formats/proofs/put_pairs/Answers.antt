-- Each pair stands behind those before it.
use Rattle.std.proofs.Common.{rules}
use Rattle.formats.proofs.Pairs.{pairs-putting}
use Rattle.formats.proofs.put_pairs.Goals as goal

pub loop-i-init : goal.loop-i-init
loop-i-init c = search (rules, pairs-putting)

pub loop-i-preserved : goal.loop-i-preserved
loop-i-preserved c = search (rules, pairs-putting)

pub returns : goal.returns
returns c = search (rules, pairs-putting)
