-- The sum stays below 2^32 from digit to digit.
use Rattle.std.proofs.Common.{◌<◌}
use Rattle.files.proofs.given.value.Given as goal

abbrev pub invariant-loop-byte : goal.invariant-loop-byte
invariant-loop-byte l = l.sum < 4294967296
