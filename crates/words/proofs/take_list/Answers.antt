-- One entry more is taken.
use Rattle.std.proofs.Common.{rules, ◌+◌, ◌*◌}
use Rattle.words.proofs.Laws.{entry_taken}
use Rattle.words.proofs.take_list.Goals as goal

pub loop-i-preserved : goal.loop-i-preserved
loop-i-preserved g c =
    entry_taken (λ k. g.T.Worded.said_at c.args.words.now (c.args.at + g.row.N * k)) c.loop-i.list c.loop-i.i c.loop-i.invariant (search rules) (search rules)
