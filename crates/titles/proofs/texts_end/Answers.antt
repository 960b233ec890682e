-- The end of the last text, where there is one.
use Rattle.std.proofs.Common.{rules}
use Rattle.titles.proofs.Texts.{end-none, end-last}
use Rattle.titles.proofs.texts_end.Goals as goal

pub returns-in-Some : goal.returns-in-Some
returns-in-Some c =
    let e = c.in-Some.ensures.item in
    let f = end-last c.args.titles (search rules) c.requires c.counted.ensures.part e.0 e.1 in
    search rules

pub returns-in-None : goal.returns-in-None
returns-in-None c =
    let e = c.in-None.ensures.item in
    let f = end-none c.args.titles (search rules) c.requires c.counted.ensures.part e.0 in
    search rules
