-- The words of the entries before i are put.
use Rattle.std.proofs.Common.{◌*◌}
use Rattle.little.proofs.Filling.{Written}
use Rattle.tables.specs.Bytes.{entry_bytes}
use Rattle.words.proofs.put_list.Given as goal

abbrev pub invariant-loop-i : goal.invariant-loop-i
invariant-loop-i g l = Written (entry_bytes g.T.Worded.words_of l.list) l.at (g.row.N * l.i) l.out l.initial.out
