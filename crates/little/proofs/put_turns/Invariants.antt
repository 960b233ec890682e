-- The bytes of the turns before i are put.
use Rattle.std.proofs.Common.{◌*◌}
use Rattle.little.proofs.Filling.{Written}
use Rattle.little.proofs.put_turns.Given as goal

abbrev pub invariant-loop-i : goal.invariant-loop-i
invariant-loop-i l = Written l.bytes l.at (128 * l.i) l.out l.initial.out
