-- The sixteens before this one are put.
use Rattle.std.proofs.Common.{◌*◌}
use Rattle.little.proofs.Filling.{Written}
use Rattle.little.proofs.put_many.Given as goal

abbrev pub invariant-loop-k : goal.invariant-loop-k
invariant-loop-k l = Written l.bytes 0 (16 * l.k) l.out l.initial.out
