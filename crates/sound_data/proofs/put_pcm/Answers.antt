-- The frames one after the other are the samples of all bytes, and there is room for them.
use Rattle.std.proofs.Common.{rules}
use Rattle.sound_data.proofs.Pcm.{plain}
use Rattle.sound_data.proofs.put_pcm.Goals as goal

pub from_pcm8-requires : goal.from_pcm8-requires
from_pcm8-requires c = search (rules, plain)

pub from_pcm16-requires : goal.from_pcm16-requires
from_pcm16-requires c = search (rules, plain)

pub returns-then-eight : goal.returns-then-eight
returns-then-eight c = search (rules, plain)

pub returns-else-eight : goal.returns-else-eight
returns-else-eight c = search (rules, plain)
