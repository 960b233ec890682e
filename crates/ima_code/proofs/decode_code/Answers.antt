-- The sample moved and the index moved are the definition.
use Rattle.std.proofs.Common.{rules}
use Rattle.ima_code.proofs.Laws.{decoding}
use Rattle.ima_code.proofs.decode_code.Goals as goal

pub returns-clause-answer : goal.returns-clause-answer
returns-clause-answer c = search (rules, decoding)
