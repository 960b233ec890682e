-- The predictor byte of a channel is below seven.
use Rattle.std.proofs.Common.{rules}
use Rattle.ms_block.specs.Block.{predictor_of}
use Rattle.ms_block.proofs.MicrosoftBlockCodec.header_valid.Goals as goal

pub returns : goal.returns
unfolding predictor_of
returns c = search rules
