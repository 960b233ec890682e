-- Each entry leaves fewer bytes.
use Rattle.std.proofs.Common.{length}
use Rattle.vectors.proofs.main.Given as goal

abbrev pub invariant-loop-table : goal.invariant-loop-table
invariant-loop-table l = Unit {0}

abbrev pub decreases-loop-table : goal.decreases-loop-table
decreases-loop-table l = length l.table
