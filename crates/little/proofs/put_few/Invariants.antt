-- The bytes before this one are put.
use Rattle.little.proofs.Filling.{Written}
use Rattle.little.proofs.put_few.Given as goal

abbrev pub invariant-loop-i : goal.invariant-loop-i
invariant-loop-i l = Written l.bytes l.at l.i l.out l.initial.out
