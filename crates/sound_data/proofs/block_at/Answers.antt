-- A block below the count ends within the data, so its places are numbers that fit.
use Rattle.std.proofs.Common.{rules}
use Rattle.sound_data.proofs.Laws.{placing}
use Rattle.sound_data.proofs.block_at.Goals as goal

pub overflow_mul-from : goal.overflow_mul-from
overflow_mul-from c = search (rules, placing)

pub overflow_add-result : goal.overflow_add-result
overflow_add-result c = search (rules, placing)

pub slice_bounds-result-end : goal.slice_bounds-result-end
slice_bounds-result-end c = search (rules, placing)

pub returns-clause-part : goal.returns-clause-part
returns-clause-part c = search (rules, placing)
