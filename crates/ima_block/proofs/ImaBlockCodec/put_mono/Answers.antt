-- The header's sample, and behind it what is heard of the codes.
use Rattle.std.proofs.Common.{rules}
use Rattle.ima_block.proofs.Laws.{mono}
use Rattle.ima_block.proofs.ImaBlockCodec.put_mono.Goals as goal

pub mono_codes-requires : goal.mono_codes-requires
mono_codes-requires c = search (rules, mono)

pub returns : goal.returns
returns c = search (rules, mono)
