-- The titles passed are put; each turn puts one more.
use Rattle.titles.specs.Writing.{chunk_of}
use Rattle.titles.proofs.Pouring.{Poured}
use Rattle.titles.proofs.put_chunks.Given as goal

abbrev pub invariant-loop-title : goal.invariant-loop-title
invariant-loop-title l = Poured chunk_of l.source l.list l.title-index l.at l.next l.out l.fn.out
