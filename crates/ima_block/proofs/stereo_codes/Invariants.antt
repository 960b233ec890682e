-- As in mono, with a byte of each channel: every turn writes their four samples.
use Rattle.std.proofs.Common.{◌+◌, ◌-◌, ◌*◌}
use Rattle.ima_block.proofs.Codes.{Stereo}
use Rattle.ima_block.proofs.stereo_codes.Given as goal

abbrev pub invariant-loop-i : goal.invariant-loop-i
invariant-loop-i l =
    Stereo l.block l.frames l.initial.out l.at l.initial.left l.initial.right l.out l.left l.right
    (l.frames - 2 * l.i) (l.at + 4 * l.i) l.i
