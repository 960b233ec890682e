-- The samples before i are written.
use Rattle.std.proofs.Common.{map}
use Rattle.little.proofs.Filling.{Written}
use Rattle.samples.proofs.turn_each.Given as goal

abbrev pub invariant-loop-i : goal.invariant-loop-i
invariant-loop-i g l = Written (map g.T.Sound.sample_of l.sound) 0 l.i l.out l.initial.out
