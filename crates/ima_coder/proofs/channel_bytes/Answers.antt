-- All samples are there, or the last one is repeated: where they are, the index of the last does not matter.
use Rattle.std.proofs.Common.{rules}
use Rattle.ima_coder.proofs.Taken.{channeling}
use Rattle.ima_coder.proofs.channel_bytes.Goals as goal

pub returns : goal.returns
returns c = search (rules, channeling)
