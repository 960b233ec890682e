-- Up to the place all is written, and what is heard from byte i on is left; every turn writes the two frames of a byte.
use Rattle.std.proofs.Common.{◌+◌, ◌-◌, ◌*◌}
use Rattle.codec.specs.Codec.{low, high}
use Rattle.codec.proofs.Loops.{Single}
use Rattle.ima_block.specs.Block.{ima}
use Rattle.ima_block.proofs.Codes.{Indexed}
use Rattle.ima_block.proofs.mono_codes.Given as goal

abbrev pub invariant-loop-i : goal.invariant-loop-i
invariant-loop-i l =
    Single ima Indexed low high l.block 4 l.frames l.initial.out l.at l.initial.state l.out l.state
    (l.frames - 2 * l.i) (l.at + 2 * l.i) (4 + l.i)
