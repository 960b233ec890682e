use Rattle.std.proofs.Common.{rules}
use Rattle.titles.proofs.Rules.{naming}
use Rattle.titles.proofs.differ.Goals as goal

pub returns : goal.returns
returns c = search (rules, naming)
