-- The count, and behind it the pairs.
use Rattle.std.proofs.Common.{rules}
use Rattle.formats.proofs.Putting.{putting}
use Rattle.formats.proofs.put_coefficients.Goals as goal

pub returns : goal.returns
returns c = search (rules, putting)
