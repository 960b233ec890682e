use Rattle.std.proofs.Common.{rules}
use Rattle.tables.specs.Cues.{no_cue, name_of}
use Rattle.tables.proofs.Entries.{mapped}
use Rattle.tables.proofs.names_of.Goals as goal

pub returns : goal.returns
returns c =
    record { answer = mapped name_of no_cue c.args.list c.loop-i.names (search rules) c.loop-i.invariant.0 (λ i h. c.loop-i.invariant.1 i (search rules)) }
