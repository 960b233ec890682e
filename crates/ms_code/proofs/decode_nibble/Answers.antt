-- The delta is at most 2,796,202 away from 0, a nibble 8 and a factor 768, so the products fit 32 bits; the sample held
-- and the delta held are the definition's.
use Rattle.std.proofs.Common.{rules}
use Rattle.ms_code.proofs.Laws.{products, decoding}
use Rattle.ms_code.proofs.decode_nibble.Goals as goal

pub overflow_mul-signed : goal.overflow_mul-signed
overflow_mul-signed c = search (rules, products)

pub overflow_add-predict : goal.overflow_add-predict
overflow_add-predict c = search (rules, products)

pub overflow_mul-delta : goal.overflow_mul-delta
overflow_mul-delta c = search (rules, products)

pub returns-clause-answer : goal.returns-clause-answer
returns-clause-answer c = search (rules, decoding)
