-- As in mono, with an index and a count of chased samples for each channel.
use Rattle.std.proofs.Common.{◌*◌}
use Rattle.encode.proofs.Loops.{Stereo}
use Rattle.encode.proofs.stereo_blocks.Given as goal

abbrev pub invariant-loop-i : goal.invariant-loop-i
invariant-loop-i l = Stereo l.sound l.align l.n l.initial.out l.groups l.channels l.at (l.i * l.align) l.i l.out
