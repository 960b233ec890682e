-- Two signed numbers, one behind the other.
use Rattle.std.proofs.Common.{rules}
use Rattle.formats.proofs.Pairs.{pairs-putting}
use Rattle.formats.proofs.put_pair.Goals as goal

pub returns : goal.returns
returns c = search (rules, pairs-putting)
