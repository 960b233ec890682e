use Rattle.std.proofs.Common.{rules}
use Rattle.titles.proofs.Putting.{listing}
use Rattle.titles.proofs.put_list.Goals as goal

pub put-requires : goal.put-requires
put-requires c = search (rules, listing)

pub returns : goal.returns
returns c = search (rules, listing)
