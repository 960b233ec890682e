-- The name is looked for among those of the cues.
use Rattle.std.proofs.Common.{rules, ◌≡◌}
use Rattle.lists.specs.Among.{place_in}
use Rattle.tables.specs.Cues.{names_in}
use Rattle.tables.proofs.More.{name-sought, cue-found}
use Rattle.tables.proofs.find_cue.Goals as goal

pub returns : goal.returns
returns c =
    let e : c.find.result ≡ place_in c.args.name.0 (names_in c.args.cues) = search (rules, name-sought) in
    record { answer = search rules; place = cue-found c.args.cues c.args.name.0 c.find.result (search rules) }
