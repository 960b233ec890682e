use Rattle.std.proofs.Common.{rules}
use Rattle.tables.specs.Cues.{no_cue, place_of}
use Rattle.tables.proofs.Entries.{mapped}
use Rattle.tables.proofs.places_of.Goals as goal

pub returns : goal.returns
returns c =
    record { answer = mapped place_of no_cue c.args.list c.loop-i.places (search rules) c.loop-i.invariant.0 (λ i h. c.loop-i.invariant.1 i (search rules)) }
