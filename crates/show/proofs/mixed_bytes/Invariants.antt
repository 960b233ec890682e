-- What is left, mixed with the number so far, is the whole.
use Rattle.std.proofs.Common.{◌≡◌, ◌<◌, drop}
use Rattle.show.specs.Mixing.{mixed_from}
use Rattle.show.proofs.mixed_bytes.Given as goal

abbrev pub invariant-loop-byte : goal.invariant-loop-byte
invariant-loop-byte l =
    (l.mix < 1000003) × (mixed_from l.mix (drop l.byte-index l.values) ≡ mixed_from 0 l.values)
