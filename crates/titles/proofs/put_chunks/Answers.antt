use Rattle.std.proofs.Common.{rules}
use Rattle.titles.proofs.Pouring.{pouring}
use Rattle.titles.proofs.Putting.{adding}
use Rattle.titles.proofs.put_chunks.Goals as goal

pub put_title-next-requires-clause-title_in_bounds : goal.put_title-next-requires-clause-title_in_bounds
put_title-next-requires-clause-title_in_bounds c = search (rules, pouring, adding)

pub returns : goal.returns
returns c = search (rules, pouring, adding)
