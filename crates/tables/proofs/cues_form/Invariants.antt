-- All cue points passed count from the start of the data.
use Rattle.std.proofs.Common.{◌+◌, ◌*◌}
use Rattle.lists.proofs.Laws.{Holding}
use Rattle.tables.specs.Cues.{plain_cue}
use Rattle.tables.proofs.cues_form.Given as goal

abbrev pub invariant-loop-i : goal.invariant-loop-i
invariant-loop-i l = Holding (λ k. plain_cue l.bytes (4 + 24 * k)) l.i-end l.i
