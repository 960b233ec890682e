use Rattle.std.proofs.Common.{rules}
use Rattle.titles.proofs.Putting.{named_put}
use Rattle.titles.proofs.put_named.Goals as goal

pub returns : goal.returns
returns c = search (rules, named_put)
