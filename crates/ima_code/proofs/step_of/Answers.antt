-- The table's entry is the definition's, and none is above 32767.
use Rattle.std.proofs.Common.{arith}
use Rattle.ima_code.specs.Code.{step_at}
use Rattle.ima_code.proofs.Table.{step_most}
use Rattle.ima_code.proofs.step_of.Goals as goal

pub returns-clause-bound : goal.returns-clause-bound
unfolding step_at
returns-clause-bound c = omega (arith, step_most c.requires)
