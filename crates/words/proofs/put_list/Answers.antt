-- Each entry's words stand behind those of the entries before it.
use Rattle.std.proofs.Common.{rules}
use Rattle.words.proofs.Laws.{listing}
use Rattle.words.proofs.put_list.Goals as goal

pub loop-i-init : goal.loop-i-init
loop-i-init g c = search (rules, listing, g.met.T.Worded.all_long)

pub loop-i-preserved : goal.loop-i-preserved
loop-i-preserved g c = search (rules, listing, g.met.T.Worded.all_long)

pub returns : goal.returns
returns g c = search (rules, listing, g.met.T.Worded.all_long)
