-- What is left to write makes the whole, index and chased samples are those so far; every turn writes a block.
use Rattle.std.proofs.Common.{◌*◌}
use Rattle.encode.proofs.Loops.{Mono}
use Rattle.encode.proofs.mono_blocks.Given as goal

abbrev pub invariant-loop-i : goal.invariant-loop-i
invariant-loop-i l = Mono l.sound l.align l.n l.initial.out l.groups l.channel l.frame (l.i * l.align) l.i l.out
