-- Past the sound the last sample is coded again and not counted.
use Rattle.std.proofs.Common.{rules}
use Rattle.ima_coder.proofs.Coding.{fill-coding}
use Rattle.ima_coder.proofs.filled_bytes.Goals as goal

pub loop-i-preserved : goal.loop-i-preserved
loop-i-preserved c = search (rules, fill-coding)

pub returns : goal.returns
returns c = search (rules, fill-coding)
