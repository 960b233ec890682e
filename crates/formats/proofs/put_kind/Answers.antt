-- Three numbers, one behind the other.
use Rattle.std.proofs.Common.{rules}
use Rattle.formats.proofs.Putting.{putting}
use Rattle.formats.proofs.put_kind.Goals as goal

pub returns : goal.returns
returns c = search (rules, putting)
