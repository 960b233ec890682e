-- The room is as long as its type says.
use Rattle.std.proofs.Common.{sym, ℕ}
use Rattle.std.proofs.Math.ListN.{length-replicate}
use Rattle.vectors.proofs.room.Goals as goal

pub returns : goal.returns
returns c = record { long = sym (length-replicate {A = ℕ} 524288 0) }
