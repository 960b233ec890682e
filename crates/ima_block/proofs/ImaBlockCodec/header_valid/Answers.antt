-- The index byte of a channel's part is the third of its header.
use Rattle.std.proofs.Common.{rules}
use Rattle.ima_block.proofs.Parts.{header-is}
use Rattle.ima_block.proofs.ImaBlockCodec.header_valid.Goals as goal

pub returns : goal.returns
returns c = search (rules, header-is)
