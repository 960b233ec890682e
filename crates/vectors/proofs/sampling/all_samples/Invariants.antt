-- Both mixed numbers stay below the prime.
use Rattle.std.proofs.Common.{◌<◌}
use Rattle.vectors.proofs.sampling.all_samples.Given as goal

abbrev pub invariant-loop-bits : goal.invariant-loop-bits
invariant-loop-bits g l = (l.signed < 1000003) × (l.back < 1000003)
