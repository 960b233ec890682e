-- The first i bytes are written, and the codes of the samples from index x on are left; every turn does two.
use Rattle.ima_coder.proofs.Coding.{Real}
use Rattle.ima_coder.proofs.real_bytes.Given as goal

abbrev pub invariant-loop-i : goal.invariant-loop-i
invariant-loop-i l =
    Real l.sound l.which.stride l.which.last l.initial.x l.n l.to l.initial.state l.initial.chased l.initial.out
    l.state l.chased l.x l.i l.out
