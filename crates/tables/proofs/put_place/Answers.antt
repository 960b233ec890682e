-- Three numbers, one behind the other.
use Rattle.std.proofs.Common.{rules}
use Rattle.tables.proofs.Putting.{putting}
use Rattle.tables.proofs.put_place.Goals as goal

pub returns : goal.returns
returns c = search (rules, putting)
