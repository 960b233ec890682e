-- A sample is at most 32768 away from 0 and the pair at most 512 and 256, so products, sum and quotient fit 32 bits.
use Rattle.std.proofs.Common.{rules}
use Rattle.ms_code.proofs.Laws.{predicting}
use Rattle.ms_code.proofs.predict.Goals as goal

pub overflow_add-result : goal.overflow_add-result
overflow_add-result c = search (rules, predicting)

pub returns : goal.returns
returns c = search (rules, predicting)
