-- The number is none of the pairs before this one.
use Rattle.std.proofs.Common.{◌*◌}
use Rattle.lists.proofs.Seeking.{Seeking}
use Rattle.lists.proofs.find.Given as goal

abbrev pub invariant-loop-k : goal.invariant-loop-k
invariant-loop-k l = Seeking l.number l.numbers (2 * l.k)
