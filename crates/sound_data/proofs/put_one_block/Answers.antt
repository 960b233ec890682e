-- All frames of a block, put from the start of the buffer.
use Rattle.std.proofs.Common.{rules}
use Rattle.sound_data.proofs.Blocks.{single}
use Rattle.sound_data.proofs.put_one_block.Goals as goal

pub put_block-requires : goal.put_block-requires
put_block-requires c = search (rules, single)

pub returns : goal.returns
returns c = search (rules, single)
