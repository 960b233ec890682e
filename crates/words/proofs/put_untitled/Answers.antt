-- No titles are as many zeros as they have words.
use Rattle.std.proofs.Common.{rules}
use Rattle.words.proofs.Laws.{record_putting}
use Rattle.words.proofs.put_untitled.Goals as goal

pub returns : goal.returns
returns c = search (rules, record_putting)
