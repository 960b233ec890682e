-- Laws of the nibbles of a block: where those of each channel stand, and how many there are. Assumes nothing.
use mathlib.Core.Path.{◌≡◌, ap, ◌∙◌}
use mathlib.Core.List.{List}
use Prim.Native.Nat.{ℕ, ◌+◌, ◌-◌, ◌*◌, ◌/◌, ◌%◌, ◌≤◌, ◌<◌}
use native.Mathlib.Nat.{mul-div-le}
use native.Mathlib.Omega.{arith}
use lib.ListN.{length, drop, get_or, length-drop}
use lib.Seq.{get_or-drop}
use Rattle.lists.proofs.Turns.{picked-one-at, picked-one-long, picked_all}
use Rattle.codec.specs.Codec.{low, high, nibbles}
use Rattle.codec.proofs.Heard.{nibbles-long, first-at, second_at}
use Rattle.ms_block.specs.Block.{channel_nibbles}

-- ---- how many nibbles a channel has
module _ (c : ℕ) (s : List ℕ) (ch : ℕ) (h : ch < c) where
  -- the last one is within the block
  within : ch + c * ((length s - 7 * c) * 2 / c) + 1 ≤ length (nibbles high low (drop (7 * c) s)) + c
  within =
      omega (arith, nibbles-long high low (drop (7 * c) s), length-drop (7 * c) s, mul-div-le ((length s - 7 * c) * 2) c)

  pub channel-long : length (channel_nibbles c s ch) ≡ (length s - 7 * c) * 2 / c
  unfolding channel_nibbles
  channel-long = picked-one-long c (nibbles high low (drop (7 * c) s)) ch ((length s - 7 * c) * 2 / c) within

  channel-at : (i : ℕ) → i < (length s - 7 * c) * 2 / c
      → get_or (channel_nibbles c s ch) i 0 ≡ get_or (nibbles high low (drop (7 * c) s)) (ch + c * i) 0
  unfolding channel_nibbles
  channel-at i g = picked-one-at c (nibbles high low (drop (7 * c) s)) ch ((length s - 7 * c) * 2 / c) i 0 within g

-- ---- mono: all nibbles behind the header
pub channel-one : (s : List ℕ) → channel_nibbles 1 s 0 ≡ nibbles high low (drop 7 s)
unfolding channel_nibbles
channel-one s =
    let l = nibbles-long high low (drop 7 s) in
    let d = length-drop 7 s in
    picked_all (nibbles high low (drop 7 s)) ((length s - 7) * 2 / 1) (omega arith)

-- ---- stereo: of each byte behind the headers the left channel has the high nibble, and the right one the low nibble
module _ (s : List ℕ) (i : ℕ) (h : i + 14 < length s) where
  pub left_at : get_or (channel_nibbles 2 s 0) i 0 ≡ get_or s (14 + i) 0 / 16
  left_at =
      let e : 0 + 2 * i ≡ 2 * i = omega arith in
      channel-at 2 s 0 (omega arith) i (omega arith)
      ∙ ap (λ (k : ℕ). get_or (nibbles high low (drop 14 s)) k 0) e
      ∙ first-at high low (drop 14 s) i (omega (arith, length-drop 14 s))
      ∙ ap (λ (k : ℕ). k / 16) (get_or-drop 14 s i 0)

  pub right-at : get_or (channel_nibbles 2 s 1) i 0 ≡ get_or s (14 + i) 0 % 16
  right-at =
      let e : 1 + 2 * i ≡ 2 * i + 1 = omega arith in
      channel-at 2 s 1 (omega arith) i (omega arith)
      ∙ ap (λ (k : ℕ). get_or (nibbles high low (drop 14 s)) k 0) e
      ∙ second_at high low (drop 14 s) i (omega (arith, length-drop 14 s))
      ∙ ap (λ (k : ℕ). k % 16) (get_or-drop 14 s i 0)
