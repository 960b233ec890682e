-- The two headers, and behind them the groups, make the parts of both channels in turn.
use Rattle.std.proofs.Common.{rules}
use Rattle.ima_coder.proofs.Block.{stereo-block}
use Rattle.ima_coder.proofs.stereo_block.Goals as goal

pub returns : goal.returns
returns c = search (rules, stereo-block)
