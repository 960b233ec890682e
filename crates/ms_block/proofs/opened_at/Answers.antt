-- The pair is read from the table, whose numbers one computed test bounds; the rest are samples of the header.
use Rattle.std.proofs.Common.{rules}
use Rattle.ms_block.proofs.Header.{opening}
use Rattle.ms_block.proofs.opened_at.Goals as goal

pub returns-clause-answer : goal.returns-clause-answer
returns-clause-answer c = search (rules, opening)
