-- The header of the left channel, and behind it that of the right one.
use Rattle.std.proofs.Common.{rules}
use Rattle.ima_coder.proofs.Block.{two-heads}
use Rattle.ima_coder.proofs.open_both.Goals as goal

pub returns : goal.returns
returns c = search (rules, two-heads)
