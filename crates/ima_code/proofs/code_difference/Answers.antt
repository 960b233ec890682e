-- The code is its sign and its bits, and says the very size that was added: the channel is the decoded one.
use Rattle.std.proofs.Common.{rules}
use Rattle.ima_code.proofs.Coding.{coding}
use Rattle.ima_code.proofs.code_difference.Goals as goal

pub bits_for-bits-requires : goal.bits_for-bits-requires
bits_for-bits-requires c = search (rules, coding)

pub overflow_add-from : goal.overflow_add-from
overflow_add-from c = search (rules, coding)

pub overflow_mul-result : goal.overflow_mul-result
overflow_mul-result c = search (rules, coding)

pub returns : goal.returns
returns c = search (rules, coding)
