-- The entries before i are taken.
use Rattle.std.proofs.Common.{◌≡◌, ℕ, ◌+◌, ◌*◌, ◌<◌, get_or}
use Rattle.words.proofs.take_list.Given as goal

abbrev pub invariant-loop-i : goal.invariant-loop-i
invariant-loop-i g l = (k : ℕ) → k < l.i → (x : g.row.T.Denot) → get_or l.list k x ≡ g.T.Worded.said_at l.words (l.at + g.row.N * k)
