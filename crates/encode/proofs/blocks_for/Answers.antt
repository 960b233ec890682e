-- The quotient rounded up, as the definition has it.
use Rattle.std.proofs.Common.{rules}
use Rattle.encode.proofs.Settling.{counting}
use Rattle.encode.proofs.blocks_for.Goals as goal

pub div_ceil-requires : goal.div_ceil-requires
div_ceil-requires c = search (rules, counting)

pub returns-clause-answer : goal.returns-clause-answer
returns-clause-answer c = search (rules, counting)
