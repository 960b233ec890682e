-- Each turn puts a byte more, as it stands.
use Rattle.std.proofs.Common.{rules}
use Rattle.little.proofs.Filling.{copying}
use Rattle.little.proofs.put_few.Goals as goal

pub loop-i-init : goal.loop-i-init
loop-i-init c = search (rules, copying)

pub loop-i-preserved : goal.loop-i-preserved
loop-i-preserved c = search (rules, copying)

pub returns : goal.returns
returns c = record { buffer = search (rules, copying) }
