-- What is found in the list is what it says.
use Rattle.std.proofs.Common.{rules}
use Rattle.titles.proofs.Lists.{list_texts}
use Rattle.titles.proofs.put_texts.Goals as goal

pub counted-requires : goal.counted-requires
counted-requires c = search (rules, list_texts)

pub put_each-requires : goal.put_each-requires
put_each-requires c = search (rules, list_texts)

pub returns : goal.returns
returns c = search (rules, list_texts)
