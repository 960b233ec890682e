-- What the rule of a format says is what the decoder of its crate asks; what that puts are the frames of the block.
use Rattle.std.proofs.Common.{rules}
use Rattle.sound_data.proofs.Blocks.{decoding}
use Rattle.sound_data.proofs.put_block.Goals as goal

pub decode-requires : goal.decode-requires
decode-requires c = search (rules, decoding)

pub decode-requires-else-format-eq-IMA : goal.decode-requires-else-format-eq-IMA
decode-requires-else-format-eq-IMA c = search (rules, decoding)

pub returns-then-format-eq-IMA : goal.returns-then-format-eq-IMA
returns-then-format-eq-IMA c = search (rules, decoding)

pub returns-else-format-eq-IMA : goal.returns-else-format-eq-IMA
returns-else-format-eq-IMA c = search (rules, decoding)
