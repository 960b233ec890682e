-- The titles passed are placed; each turn places one more behind them.
use Rattle.titles.proofs.Texts.{Turned}
use Rattle.titles.proofs.in_turn.Given as goal

abbrev pub invariant-loop-i : goal.invariant-loop-i
invariant-loop-i l = Turned l.list l.i l.at l.placed
