-- All samples are there, so each is read where it stands; a turn codes two.
use Rattle.std.proofs.Common.{rules}
use Rattle.ima_coder.proofs.Coding.{real-coding, real-second}
use Rattle.ima_coder.proofs.real_bytes.Goals as goal

pub bounds-sound-x-in-loop-i : goal.bounds-sound-x-in-loop-i
bounds-sound-x-in-loop-i c = search real-second

pub loop-i-preserved : goal.loop-i-preserved
loop-i-preserved c = search (rules, real-coding)

pub returns : goal.returns
returns c = search (rules, real-coding)
