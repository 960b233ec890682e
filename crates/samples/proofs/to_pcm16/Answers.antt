-- Each sample's two bytes stand behind those of the samples before it.
use Rattle.std.proofs.Common.{rules}
use Rattle.samples.proofs.Turning.{sound_turning}
use Rattle.samples.proofs.to_pcm16.Goals as goal

pub loop-i-preserved : goal.loop-i-preserved
loop-i-preserved c = search (rules, sound_turning)
