-- The extents of the chunks, added up.
use Rattle.std.proofs.Common.{rules}
use Rattle.writer.proofs.Sizes.{sizes}
use Rattle.writer.proofs.file_size.Goals as goal

pub returns : goal.returns
returns c = search (rules, sizes)
