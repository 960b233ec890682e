use Rattle.std.proofs.Common.{rules}
use Rattle.titles.proofs.Putting.{titling}
use Rattle.titles.proofs.put_title.Goals as goal

pub put_head-requires : goal.put_head-requires
put_head-requires c = search (rules, titling)

pub returns-clause-answer : goal.returns-clause-answer
returns-clause-answer c = search (rules, titling)

pub returns-clause-buffer : goal.returns-clause-buffer
returns-clause-buffer c = search (rules, titling)
