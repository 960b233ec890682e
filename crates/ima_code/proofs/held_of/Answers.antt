-- No entry of the table is above 88.
use Rattle.std.proofs.Common.{arith}
use Rattle.ima_code.proofs.Laws.{held_below}
use Rattle.ima_code.proofs.held_of.Goals as goal

pub returns-clause-bound : goal.returns-clause-bound
returns-clause-bound c = omega (arith, held_below c.args.number c.requires)
