use Rattle.std.proofs.Common.{rules, arith, refl}
use Rattle.tables.proofs.Putting.{entries-begin, entry_step, entering}
use Rattle.tables.proofs.put_entries.Goals as goal

pub loop-entry-init : goal.loop-entry-init
loop-entry-init g c =
    record { entered = entries-begin g.met.E.Entry.fixed refl (omega arith) (omega arith); next = omega arith }

pub loop-entry-preserved : goal.loop-entry-preserved
loop-entry-preserved g c =
    record {
      entered =
          entry_step c.loop-entry.invariant.entered (omega arith) c.loop-entry.invariant.next c.entry-item.is
          c.put_at.ensures.buffer;
      next = omega arith;
    }

pub returns : goal.returns
returns g c = search (rules, entering)
