-- The older samples of both channels, the newer ones, and behind them what is heard of the nibbles.
use Rattle.std.proofs.Common.{rules}
use Rattle.ms_block.proofs.Laws.{stereo}
use Rattle.ms_block.proofs.MicrosoftBlockCodec.put_stereo.Goals as goal

pub opened_at-left-requires : goal.opened_at-left-requires
opened_at-left-requires c = search (rules, stereo)

pub opened_at-right-requires : goal.opened_at-right-requires
opened_at-right-requires c = search (rules, stereo)

pub returns-then-frames-lt2 : goal.returns-then-frames-lt2
returns-then-frames-lt2 c = search (rules, stereo)

pub stereo_nibbles-requires : goal.stereo_nibbles-requires
stereo_nibbles-requires c = search (rules, stereo)

pub returns : goal.returns
returns c = search (rules, stereo)
