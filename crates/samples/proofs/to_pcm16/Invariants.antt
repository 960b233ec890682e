-- The bytes of the samples before i are written.
use Rattle.std.proofs.Common.{◌*◌}
use Rattle.little.proofs.Filling.{Written}
use Rattle.samples.specs.Sound.{sound_bytes}
use Rattle.samples.proofs.to_pcm16.Given as goal

abbrev pub invariant-loop-i : goal.invariant-loop-i
invariant-loop-i l = Written (sound_bytes l.sound) 0 (2 * l.i) l.out l.initial.out
