-- The header's bytes, and behind them the codes of the other samples.
use Rattle.std.proofs.Common.{rules}
use Rattle.ima_coder.proofs.Block.{mono-block}
use Rattle.ima_coder.proofs.mono_block.Goals as goal

pub returns : goal.returns
returns c = search (rules, mono-block)
