-- The texts of the titles passed are put; each turn puts one more.
use Rattle.titles.specs.Titles.{text_of}
use Rattle.titles.proofs.Pouring.{Poured}
use Rattle.titles.proofs.put_each.Given as goal

abbrev pub invariant-loop-title : goal.invariant-loop-title
invariant-loop-title l = Poured text_of l.source l.list l.title-index 0 l.at l.out l.fn.out
