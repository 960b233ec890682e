-- What is left to write makes the whole; every turn writes a block, or what the frames that are left take of it.
use Rattle.sound_data.proofs.Loops.{Sofar}
use Rattle.sound_data.proofs.put_blocks.Given as goal

abbrev pub invariant-loop-i : goal.invariant-loop-i
invariant-loop-i l =
    Sofar l.format l.bytes l.initial.out l.channels l.samples l.blocks l.initial.left l.out l.left l.to l.i
