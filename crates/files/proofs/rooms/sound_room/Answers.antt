-- The room is as long as its type says.
use Rattle.std.proofs.Common.{sym}
use Rattle.std.proofs.Math.IntN.{ℤ, pos}
use Rattle.std.proofs.Math.ListN.{length-replicate}
use Rattle.files.proofs.rooms.sound_room.Goals as goal

pub returns : goal.returns
returns c = record { long = sym (length-replicate {A = ℤ} 524288 (pos 0)) }
