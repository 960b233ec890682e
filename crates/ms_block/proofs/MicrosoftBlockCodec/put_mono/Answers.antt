-- The older sample, the newer one, and behind them what is heard of the nibbles.
use Rattle.std.proofs.Common.{rules}
use Rattle.ms_block.proofs.Laws.{mono}
use Rattle.ms_block.proofs.MicrosoftBlockCodec.put_mono.Goals as goal

pub opened_at-state-requires : goal.opened_at-state-requires
opened_at-state-requires c = search (rules, mono)

pub returns-then-frames-lt2 : goal.returns-then-frames-lt2
returns-then-frames-lt2 c = search (rules, mono)

pub mono_nibbles-requires : goal.mono_nibbles-requires
mono_nibbles-requires c = search (rules, mono)

pub returns : goal.returns
returns c = search (rules, mono)
