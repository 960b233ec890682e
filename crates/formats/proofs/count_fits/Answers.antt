-- The blocks that the frames fill are a quotient, rounded up.
use Rattle.std.proofs.Common.{rules}
use Rattle.formats.proofs.Counts.{counting}
use Rattle.formats.proofs.count_fits.Goals as goal

pub returns : goal.returns
returns c = search (rules, counting)
