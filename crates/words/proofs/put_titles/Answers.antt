-- The titles stand behind their number.
use Rattle.std.proofs.Common.{rules}
use Rattle.words.proofs.Laws.{titles_putting}
use Rattle.words.proofs.put_titles.Goals as goal

pub returns : goal.returns
returns c = search (rules, titles_putting)
