-- The samples of the two headers, and behind them what is heard of the codes of both channels.
use Rattle.std.proofs.Common.{rules}
use Rattle.ima_block.proofs.Laws.{stereo}
use Rattle.ima_block.proofs.ImaBlockCodec.put_stereo.Goals as goal

pub stereo_codes-requires : goal.stereo_codes-requires
stereo_codes-requires c = search (rules, stereo)

pub returns : goal.returns
returns c = search (rules, stereo)
