-- Those found so far and what is left of the list make all; each turn takes one chunk off its front.
use Rattle.std.proofs.Common.{◌-◌, length}
use Rattle.titles.proofs.Walking.{Finding}
use Rattle.titles.proofs.find_titles.Given as goal

abbrev pub invariant-loop-at : goal.invariant-loop-at
invariant-loop-at l = Finding l.lost l.list l.at l.n l.titles

abbrev pub decreases-loop-at : goal.decreases-loop-at
decreases-loop-at l = length l.list - l.at
