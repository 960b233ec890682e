-- The rule bounds the product, and gives samples to share it.
use Rattle.std.proofs.Common.{rules}
use Rattle.formats.proofs.Putting.{averaging}
use Rattle.formats.proofs.average_of.Goals as goal

pub overflow_mul-bytes : goal.overflow_mul-bytes
overflow_mul-bytes c = search (rules, averaging)

pub returns-then-format-eq-PCM : goal.returns-then-format-eq-PCM
returns-then-format-eq-PCM c = search (rules, averaging)

pub shared_by-requires : goal.shared_by-requires
shared_by-requires c = search (rules, averaging)

pub returns : goal.returns
returns c = search (rules, averaging)
