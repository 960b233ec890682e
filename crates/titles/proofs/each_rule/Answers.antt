-- No title that the walk passes breaks its rule.
use Rattle.std.proofs.Common.{rules, ◌≡◌, true, get_or, IsTrue, EachIndex, ◌↔◌}
use Rattle.std.proofs.iter.runs.Made.{chains}
use Rattle.titles.specs.Titles.{entry_in, entry_rule, no_title}
use Rattle.titles.proofs.Rules.{each-is}
use Rattle.titles.proofs.each_rule.Goals as goal

pub returns : goal.returns
returns c =
    let e : IsTrue c.all.result ↔ EachIndex c.args.list.now (λ k. entry_rule c.args.names.now (entry_in c.args.source.now (get_or c.args.list.now k no_title)) ≡ true) =
    search (rules, chains) in
    record { answer = each-is c.args.names.now c.args.source.now c.args.list.now c.all.result e }
