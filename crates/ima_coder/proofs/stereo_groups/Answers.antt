-- Every turn does eight frames.
use Rattle.std.proofs.Common.{rules, arith}
use Rattle.ima_coder.proofs.Groups.{groups-next, grouping}
use Rattle.ima_coder.proofs.stereo_groups.Goals as goal

pub loop-i-preserved : goal.loop-i-preserved
loop-i-preserved c = groups-next c.loop-i.invariant (omega arith) (search rules) (search rules) (omega arith) (omega arith)

pub returns : goal.returns
returns c = search (rules, grouping)
