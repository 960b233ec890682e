use Rattle.std.proofs.Common.{rules, arith}
use Rattle.tables.proofs.Entries.{place-begins, place-next}
use Rattle.tables.proofs.read_entries.Goals as goal

pub loop-i-init : goal.loop-i-init
loop-i-init g c = place-begins

pub loop-i-preserved : goal.loop-i-preserved
loop-i-preserved g c = place-next c.loop-i.invariant (omega arith) (search rules)
