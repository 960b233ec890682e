-- The sizes of the titles passed are added; each turn adds one more.
use Rattle.titles.proofs.Putting.{Added}
use Rattle.titles.proofs.chunks_size.Given as goal

abbrev pub invariant-loop-title : goal.invariant-loop-title
invariant-loop-title l = Added l.source l.list l.title-index l.size
