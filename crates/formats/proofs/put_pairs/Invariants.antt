-- The pairs before i are put.
use Rattle.std.proofs.Common.{◌*◌}
use Rattle.little.proofs.Filling.{Written}
use Rattle.formats.specs.Format.{pairs}
use Rattle.formats.specs.Bytes.{pairs_bytes}
use Rattle.formats.proofs.put_pairs.Given as goal

abbrev pub invariant-loop-i : goal.invariant-loop-i
invariant-loop-i l = Written (pairs_bytes pairs) l.at (4 * l.i) l.out l.initial.out
