-- The numbers differ where those that are left do: none of the numbers passed stands again behind itself.
use Rattle.std.proofs.Common.{◌≡◌, length}
use Rattle.lists.specs.Among.{distinct}
use Rattle.lists.proofs.all_differ.Given as goal

abbrev pub invariant-loop-first : goal.invariant-loop-first
invariant-loop-first l = distinct l.left ≡ distinct l.fn.numbers

abbrev pub decreases-loop-first : goal.decreases-loop-first
decreases-loop-first l = length l.left
