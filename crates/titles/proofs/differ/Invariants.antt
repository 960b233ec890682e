-- The names of that kind among the titles passed are put, one after the other.
use Rattle.titles.proofs.Rules.{Naming}
use Rattle.titles.proofs.differ.Given as goal

abbrev pub invariant-loop-title : goal.invariant-loop-title
invariant-loop-title l = Naming l.kind l.list l.count l.title-index l.names
