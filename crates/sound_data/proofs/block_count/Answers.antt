-- A block that is taken has bytes, so that there is a quotient; it is the count.
use Rattle.std.proofs.Common.{rules}
use Rattle.sound_data.proofs.Laws.{placing}
use Rattle.sound_data.proofs.block_count.Goals as goal

pub nonzero_div-result : goal.nonzero_div-result
nonzero_div-result c = search (rules, placing)

pub returns : goal.returns
returns c = search (rules, placing)
