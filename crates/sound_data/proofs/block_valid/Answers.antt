-- One law for each tag: the test of its crate, of a block of the size that it asks; PCM has no headers.
use Rattle.std.proofs.Common.{rules}
use Rattle.sound_data.proofs.Blocks.{testing}
use Rattle.sound_data.proofs.block_valid.Goals as goal

pub returns-then-format-eq-PCM : goal.returns-then-format-eq-PCM
returns-then-format-eq-PCM c = search (rules, testing)

pub headers_valid-requires : goal.headers_valid-requires
headers_valid-requires c = search (rules, testing)

pub returns-then-format-eq-IMA : goal.returns-then-format-eq-IMA
returns-then-format-eq-IMA c = search (rules, testing)

pub headers_valid-requires-2 : goal.headers_valid-requires-2
headers_valid-requires-2 c = search (rules, testing)

pub returns : goal.returns
returns c = search (rules, testing)
