-- As in mono, with one frame in a byte: every turn writes a sample of each channel.
use Rattle.std.proofs.Common.{◌+◌, ◌*◌}
use Rattle.ms_block.proofs.Nibbles.{Stereo}
use Rattle.ms_block.proofs.stereo_nibbles.Given as goal

abbrev pub invariant-loop-i : goal.invariant-loop-i
invariant-loop-i l = Stereo l.block l.frames l.initial.out l.at l.initial.left l.initial.right l.out l.left l.right (l.at + 2 * l.i) l.i
