-- The tag says whether the sound needs a fact, and so which function puts it.
use Rattle.std.proofs.Common.{rules}
use Rattle.formats.proofs.Taken.{fact-unneeded, fact-wanted}
use Rattle.sound_data.proofs.put_sound.Goals as goal

pub put_pcm-requires : goal.put_pcm-requires
put_pcm-requires c = search (rules, fact-unneeded, fact-wanted)

pub put_blocks-requires : goal.put_blocks-requires
put_blocks-requires c = search (rules, fact-unneeded, fact-wanted)
