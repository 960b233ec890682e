-- Four runs behind one another are the file.
use Rattle.std.proofs.Common.{rules}
use Rattle.writer.proofs.Files.{filing}
use Rattle.writer.proofs.put_file.Goals as goal

pub returns : goal.returns
returns c = search (rules, filing)
