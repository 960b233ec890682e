-- The first i groups are written, and the others are left; every turn does eight frames.
use Rattle.std.proofs.Common.{◌+◌, ◌*◌}
use Rattle.ima_coder.proofs.Groups.{Groups}
use Rattle.ima_coder.proofs.stereo_groups.Given as goal

abbrev pub invariant-loop-i : goal.invariant-loop-i
invariant-loop-i l =
    Groups l.sound l.initial.there l.at l.groups l.to l.initial.channels l.initial.out
    l.channels l.there (l.at + 16 * l.i) (l.to + 8 * l.i) l.i l.out
