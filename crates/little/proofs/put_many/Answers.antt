-- Each turn puts sixteen bytes more, and eight turns all.
use Rattle.std.proofs.Common.{rules}
use Rattle.little.proofs.Filling.{sixteens}
use Rattle.little.proofs.put_many.Goals as goal

pub loop-k-init : goal.loop-k-init
loop-k-init c = search (rules, sixteens)

pub loop-k-preserved : goal.loop-k-preserved
loop-k-preserved c = search (rules, sixteens)

pub returns : goal.returns
returns c = record { buffer = search (rules, sixteens) }
