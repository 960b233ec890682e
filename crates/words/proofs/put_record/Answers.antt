-- The titles stand behind what is put before them.
use Rattle.std.proofs.Common.{rules}
use Rattle.words.proofs.Laws.{record_putting}
use Rattle.words.proofs.put_record.Goals as goal

pub returns : goal.returns
returns c = search (rules, record_putting)
