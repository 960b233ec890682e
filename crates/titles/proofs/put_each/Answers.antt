use Rattle.std.proofs.Common.{rules}
use Rattle.titles.proofs.Pouring.{pouring}
use Rattle.titles.proofs.Texts.{texting}
use Rattle.titles.proofs.put_each.Goals as goal

pub put_bytes-requires : goal.put_bytes-requires
put_bytes-requires c = search (rules, pouring, texting)

pub returns : goal.returns
returns c = search (rules, pouring, texting)
