-- One law for each tag.
use Rattle.std.proofs.Common.{rules}
use Rattle.formats.proofs.Lengths.{sizing}
use Rattle.formats.proofs.format_size.Goals as goal

pub returns-in-17-clause-answer : goal.returns-in-17-clause-answer
returns-in-17-clause-answer c = search (rules, sizing)

pub returns-in-2-clause-answer : goal.returns-in-2-clause-answer
returns-in-2-clause-answer c = search (rules, sizing)

pub returns-in_default-clause-answer : goal.returns-in_default-clause-answer
returns-in_default-clause-answer c = search (rules, sizing)
