-- The pairs before i stand in their places.
use Rattle.formats.specs.Format.{pairs}
use Rattle.formats.proofs.Pairs.{Standing}
use Rattle.formats.proofs.has_pairs.Given as goal

abbrev pub invariant-loop-i : goal.invariant-loop-i
invariant-loop-i l = Standing l.bytes pairs l.i
