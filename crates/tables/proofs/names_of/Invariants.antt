-- The names of the cues passed are put.
use Rattle.std.proofs.Common.{◌≡◌, ℕ, ◌<◌, length, get_or}
use Rattle.tables.specs.Cues.{no_cue}
use Rattle.tables.proofs.names_of.Given as goal

abbrev pub invariant-loop-i : goal.invariant-loop-i
invariant-loop-i l = (length l.names ≡ 64) × ((k : ℕ) → k < l.i → get_or l.names k 0 ≡ (get_or l.fn.list k no_cue).name.0)
