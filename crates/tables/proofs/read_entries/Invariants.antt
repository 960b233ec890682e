-- The entries passed are read, each of where it stands.
use Rattle.std.proofs.Common.{ℕ, ◌+◌, ◌*◌}
use Rattle.tables.proofs.Entries.{Placed}
use Rattle.tables.proofs.read_entries.Given as goal

abbrev pub invariant-loop-i : goal.invariant-loop-i
invariant-loop-i g l = Placed (λ (i : ℕ). g.E.Entry.read l.bytes (4 + g.E.Entry.SIZE * i)) l.entries l.i
