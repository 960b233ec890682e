-- The mixed number stays below the prime.
use Rattle.std.proofs.Common.{◌<◌}
use Rattle.vectors.proofs.sampling.all_eights.Given as goal

abbrev pub invariant-loop-value : goal.invariant-loop-value
invariant-loop-value g l = l.number < 1000003
