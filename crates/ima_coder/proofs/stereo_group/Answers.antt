-- Four bytes of the left channel, and behind them four of the right one.
use Rattle.std.proofs.Common.{rules}
use Rattle.ima_coder.proofs.Groups.{group-put}
use Rattle.ima_coder.proofs.stereo_group.Goals as goal

pub returns : goal.returns
returns c = search (rules, group-put)
