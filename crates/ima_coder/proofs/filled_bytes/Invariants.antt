-- As real_bytes, where past the sound the last sample is coded again and not counted.
use Rattle.ima_coder.proofs.Coding.{Fill}
use Rattle.ima_coder.proofs.filled_bytes.Given as goal

abbrev pub invariant-loop-i : goal.invariant-loop-i
invariant-loop-i l =
    Fill l.sound l.stride l.last l.left l.initial.x l.n l.to l.initial.state l.initial.chased l.initial.out
    l.state l.chased l.x l.i l.out
