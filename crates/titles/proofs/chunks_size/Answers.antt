use Rattle.std.proofs.Common.{rules}
use Rattle.titles.proofs.Putting.{adding}
use Rattle.titles.proofs.chunks_size.Goals as goal

pub loop-title-preserved : goal.loop-title-preserved
loop-title-preserved c = search (rules, adding)
