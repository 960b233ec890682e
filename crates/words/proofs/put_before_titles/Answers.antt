-- The tables stand behind the nine words before them.
use Rattle.std.proofs.Common.{rules, length, ◌≡◌}
use Rattle.tables.proofs.Putting.{array_long}
use Rattle.words.proofs.Laws.{before_put}
use Rattle.words.proofs.put_before_titles.Goals as goal

pub returns : goal.returns
returns c =
    let h : length c.args.made.now.cues.list ≡ 64 = search (rules, array_long) in
    let k : length c.args.made.now.playlist.list ≡ 64 = search (rules, array_long) in
    record { buffer = search (rules, before_put c.args.made.now) }
