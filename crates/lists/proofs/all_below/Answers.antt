use Rattle.std.proofs.iter.runs.Made.{chains}
use Rattle.std.proofs.Common.{rules, ◌<◌, get_or}
use Rattle.std.specs.Prelude.{IsTrue, EachIndex, ◌↔◌}
use Rattle.lists.proofs.Laws.{below-all}
use Rattle.lists.proofs.all_below.Goals as goal

pub returns : goal.returns
returns c =
    let e : IsTrue c.all.result ↔ EachIndex c.args.numbers.now (λ k. get_or c.args.numbers.now k 0 < c.args.limit) = search (rules, chains) in
    record { answer = below-all c.args.limit c.args.numbers.now c.all.result e }
