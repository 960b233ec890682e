-- PCM has no headers, so all are valid; of the others the loop tells.
use Rattle.std.proofs.Common.{rules}
use Rattle.sound_data.proofs.Laws.{heading}
use Rattle.sound_data.proofs.data_valid.Goals as goal

pub returns-then-format-eq-PCM : goal.returns-then-format-eq-PCM
returns-then-format-eq-PCM c = search (rules, heading)
