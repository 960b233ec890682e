-- The blocks before the k-th are valid; each turn tests one more.
use Rattle.sound_data.proofs.Laws.{Tested}
use Rattle.sound_data.proofs.headers_valid.Given as goal

abbrev pub invariant-loop-k : goal.invariant-loop-k
invariant-loop-k l = Tested l.format l.bytes l.n l.k
