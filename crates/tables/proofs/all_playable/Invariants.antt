-- The entries passed can all be played.
use Rattle.std.proofs.Common.{length}
use Rattle.tables.proofs.Rules.{Played}
use Rattle.tables.proofs.all_playable.Given as goal

abbrev pub invariant-loop-play : goal.invariant-loop-play
invariant-loop-play l = Played l.cues l.frames l.list (length l.list) l.play-index
