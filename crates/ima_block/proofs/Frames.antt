-- How long the sound of a channel is: a sample for its header, and one for each code behind it. Assumes nothing.
use mathlib.Core.Path.{◌≡◌, ◌∙◌}
use mathlib.Core.List.{List}
use Prim.Native.Nat.{ℕ, zero, suc, ◌+◌, ◌-◌, ◌*◌, ◌/◌, ◌%◌, ◌≤◌, ◌<◌}
use native.Mathlib.Omega.{arith}
use lib.ListN.{length, drop, length-drop}
use Rattle.formats.specs.Format.{ima_samples}
use Rattle.codec.specs.Codec.{low, high, channel_heard}
use Rattle.codec.proofs.Heard.{nibbles-long, heard-long}
use Rattle.ima_block.specs.Block.{channel_part, ima}
use Rattle.ima_block.proofs.Parts.{part-long}

lengths : (c : ℕ) (b : List ℕ) (ch : ℕ) → ch < c → length (channel_heard ima c b ch) ≡ 1 + 2 * (4 * (length b / (4 * c)) - 4)
lengths c b ch h =
    heard-long ima c b ch
    ∙ omega (arith, nibbles-long low high (drop 4 (channel_part c b ch)), length-drop 4 (channel_part c b ch), part-long c b ch h)

-- as many as samples per block says
pub sound-long : (c : ℕ) (b : List ℕ) (ch : ℕ) → c ≤ 2 → ch < c → length b % (4 * c) ≡ 0 → 4 * c ≤ length b
    → length (channel_heard ima c b ch) ≡ ima_samples c (length b)
unfolding ima_samples
sound-long zero b ch u h e g = absurd (omega arith)
sound-long (suc zero) b ch u h e g = omega (arith, lengths 1 b ch h)
sound-long (suc (suc zero)) b ch u h e g = omega (arith, lengths 2 b ch h)
sound-long (suc (suc (suc c))) b ch u h e g = absurd (omega arith)
