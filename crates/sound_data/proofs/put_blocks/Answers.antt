-- Every turn writes a block, or what the frames that are left take of it.
use Rattle.std.proofs.Common.{rules}
use Rattle.sound_data.proofs.Loops.{looping}
use Rattle.sound_data.proofs.put_blocks.Goals as goal

pub loop-i-init : goal.loop-i-init
loop-i-init c = search (rules, looping)

pub put_block-requires : goal.put_block-requires
put_block-requires c = search (rules, looping)

pub loop-i-preserved : goal.loop-i-preserved
loop-i-preserved c = search (rules, looping)

pub returns : goal.returns
returns c = search (rules, looping)
