-- Each turn tests one block more.
use Rattle.std.proofs.Common.{rules}
use Rattle.sound_data.proofs.Laws.{heading}
use Rattle.sound_data.proofs.headers_valid.Goals as goal

pub returns-then-not-block_valid : goal.returns-then-not-block_valid
returns-then-not-block_valid c = search (rules, heading)

pub loop-k-preserved : goal.loop-k-preserved
loop-k-preserved c = search (rules, heading)

pub returns : goal.returns
returns c = search (rules, heading)
