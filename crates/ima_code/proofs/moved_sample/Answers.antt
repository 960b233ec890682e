-- In either case the truncated minus is the sum, held.
use Rattle.std.proofs.Common.{rules}
use Rattle.ima_code.proofs.Laws.{mirroring}
use Rattle.ima_code.proofs.moved_sample.Goals as goal

pub returns : goal.returns
returns c = search (rules, mirroring)
