-- How many samples a block has of each channel. Assumes nothing.
use mathlib.Core.Path.{◌≡◌}
use mathlib.Core.List.{List}
use Prim.Native.Nat.{ℕ, ◌<◌}
use native.Mathlib.Omega.{arith}
use lib.ListN.{length}
use Rattle.formats.specs.Format.{ms_samples}
use Rattle.codec.specs.Codec.{channel_heard}
use Rattle.codec.proofs.Heard.{heard-long}
use Rattle.ms_block.specs.Block.{microsoft}
use Rattle.ms_block.proofs.Places.{channel-long}

pub sound-long : (c : ℕ) (b : List ℕ) (ch : ℕ) → ch < c → length (channel_heard microsoft c b ch) ≡ ms_samples c (length b)
unfolding ms_samples
sound-long c b ch h = omega (arith, heard-long microsoft c b ch, channel-long c b ch h)
