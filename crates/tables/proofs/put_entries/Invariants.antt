-- The entries passed are put; each turn puts one more.
use Rattle.std.proofs.Common.{◌≡◌, ◌+◌, ◌*◌, length}
use Rattle.tables.proofs.Putting.{Entered}
use Rattle.tables.proofs.put_entries.Given as goal

abbrev pub invariant-loop-entry : goal.invariant-loop-entry
invariant-loop-entry g l =
    record {
      entered : Entered g.E.Entry.written g.E.Entry.SIZE l.entries (length l.entries) l.entry-index l.at l.out l.fn.out;
      next : l.next ≡ l.at + g.E.Entry.SIZE * l.entry-index;
    }
