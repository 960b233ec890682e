-- The titles passed are in a row; each turn tests one more.
use Rattle.titles.proofs.Texts.{Rowed}
use Rattle.titles.proofs.in_row.Given as goal

abbrev pub invariant-loop-title : goal.invariant-loop-title
invariant-loop-title l = Rowed l.room l.list l.title-index l.at
