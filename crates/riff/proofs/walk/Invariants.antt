-- What is kept and the steps that are left make the walk; each turn takes one step, and goes on behind it.
use Rattle.std.proofs.Common.{◌-◌, length}
use Rattle.riff.proofs.Walking.{Rest}
use Rattle.riff.proofs.walk.Given as goal

abbrev pub invariant-loop-at : goal.invariant-loop-at
invariant-loop-at l = Rest l.file l.at l.seen

abbrev pub decreases-loop-at : goal.decreases-loop-at
decreases-loop-at l = length l.file - l.at
