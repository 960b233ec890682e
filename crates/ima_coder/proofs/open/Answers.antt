-- The sample's two bytes, the index and 0 are the header.
use Rattle.std.proofs.Common.{rules}
use Rattle.ima_coder.proofs.Heads.{heading}
use Rattle.ima_coder.proofs.open.Goals as goal

pub returns : goal.returns
returns c = search (rules, heading)
