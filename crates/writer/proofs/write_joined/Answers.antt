-- Of a file that is written the titles are right. That the record fits its fields its types say.
use Rattle.std.proofs.Common.{rules, ◌≡◌, Ok}
use Rattle.rules.proofs.Typed.{record-typed}
use Rattle.writer.proofs.Files.{answering}
use Rattle.writer.proofs.write_joined.Goals as goal

pub returns-in_err-size-clause-fits : goal.returns-in_err-size-clause-fits
returns-in_err-size-clause-fits c = search (rules, record-typed)

pub put_file-requires-clause-short : goal.put_file-requires-clause-short
put_file-requires-clause-short c = let settled : c.settle.result ≡ Ok c.in_ok-size.size = c.in_ok-size.was in search (rules, answering)

pub returns-clause-fits : goal.returns-clause-fits
returns-clause-fits c = search (rules, record-typed)
