-- Those up to a cue tile the frames up to where it is to stand.
use Rattle.side.proofs.Judging.{Tiling}
use Rattle.side.proofs.tile.Given as goal

abbrev pub invariant-loop-i : goal.invariant-loop-i
invariant-loop-i l = Tiling l.cues l.plays l.frames.0 l.i l.end
