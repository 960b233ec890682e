-- The places of the cues passed are put.
use Rattle.std.proofs.Common.{◌≡◌, ℕ, ◌<◌, length, get_or}
use Rattle.tables.specs.Cues.{no_cue}
use Rattle.tables.proofs.places_of.Given as goal

abbrev pub invariant-loop-i : goal.invariant-loop-i
invariant-loop-i l = (length l.places ≡ 64) × ((k : ℕ) → k < l.i → get_or l.places k 0 ≡ (get_or l.fn.list k no_cue).place.0)
