-- Demand 3, for whole sounds: what is heard when the blocks that encoding wrote are decoded. Assumes nothing.
use Rattle.std.specs.Prelude.{ℕ, ◌+◌, ◌-◌, ◌*◌, ◌/◌, ◌%◌, ◌<◌, ◌≡◌, Bool, true, false, not, cond, ◌&&◌, List, [], ◌∷◌, ◌++◌, leb, ltb, eqb, ℤ, pos, negsuc, nat_abs, ◌-ℤ◌, length, take, drop, get_or, replicate, Ok}
use Rattle.lists.specs.Turns.{values}
use Rattle.ima_code.specs.declared.ImaState.{ImaState}
use Rattle.ima_code.specs.Code.{step_at, is_chased}
use Rattle.ima_code.specs.Machine.{tracked_all}
use Rattle.ima_code.specs.Quality.{Sixteen, Faithful, at_most}
use Rattle.formats.specs.Format.{ima_samples, codable}
use Rattle.codec.specs.Codec.{channel_states, frames_heard, headers_valid}
use Rattle.ima_block.specs.Block.{ima}
use Rattle.ima_coder.specs.Part.{count_of}
use Rattle.units.specs.Refusals.{verdict_number}
use Rattle.encode.specs.declared.Coded.{Coded}
use Rattle.encode.specs.Encoding.{block_of, open_index, blocks_for, encoded_bytes, encode_verdict}
use Rattle.encode.specs.Answer.{encoding, encoded_number}

-- frame f of channel ch of a sound s of c channels
unfoldable pub frame_of : ℕ → List ℤ → ℕ → ℕ → ℤ
frame_of c s ch f = get_or s (c * f + ch) (pos 0)

-- block k of bytes in blocks of align a
unfoldable pub block_of_bytes : ℕ → List ℕ → ℕ → List ℕ
block_of_bytes a bytes k = take a (drop (k * a) bytes)

-- channel ch as decoding has it after frame f: its last sample is what is heard, its index says the next step
unfoldable pub heard_at : ℕ → ℕ → List ℕ → ℕ → ℕ → ImaState
heard_at c a bytes ch f =
    get_or (channel_states ima c (block_of_bytes a bytes (f / ima_samples c a)) ch) (f % ima_samples c a)
    (record { last = pos 0; index = 0 })

-- whether frame f is chased: it does not open a block, and is at least twice the current step away from its
-- prediction, the sample decoded before it
unfoldable pub chased_at : ℕ → ℕ → List ℤ → List ℕ → ℕ → ℕ → Bool
chased_at c a s bytes ch f =
    ltb 0 (f % ima_samples c a) && is_chased (heard_at c a bytes ch (f - 1)) (frame_of c s ch f)

-- for each frame of the sound, whether it is chased
unfoldable pub chased_frames : ℕ → ℕ → List ℤ → List ℕ → ℕ → List Bool
chased_frames c a s bytes ch = values (chased_at c a s bytes ch) 0 (length s / c)

-- bytes say a sound so well, and the counts of left and right are the numbers of its chased samples
pub record Heard (s : List ℤ) (c a : ℕ) (bytes : List ℕ) (left right : ℕ) : Type 0 where
  -- decoding takes every block, and puts out what is heard: one sample of each channel in turn
  pub valid : (f : ℕ) → f < length s / c → headers_valid ima c (block_of_bytes a bytes (f / ima_samples c a)) ≡ true
  pub sounded : (ch f : ℕ) → ch < c → f < length s / c
      → get_or (frames_heard ima c (ima_samples c a) (block_of_bytes a bytes (f / ima_samples c a))) (c * (f % ima_samples c a) + ch) (pos 0)
      ≡ (heard_at c a bytes ch f).last
  -- in each channel a sample that opens a block is exact
  pub opening : (ch f : ℕ) → ch < c → f < length s / c → f % ima_samples c a ≡ 0
      → (heard_at c a bytes ch f).last ≡ frame_of c s ch f
  -- a later one is within an eighth of the step, rounded down, plus 2 of the original; or it is chased, and then
  -- strictly nearer than its prediction was and not beyond the original
  pub later : (ch f : ℕ) → ch < c → f < length s / c → 0 < f % ima_samples c a
      → Faithful (heard_at c a bytes ch (f - 1)) (frame_of c s ch f) (heard_at c a bytes ch f).last
  -- no channel has 12 chased samples in succession
  pub succession : (ch : ℕ) → ch < c → at_most 11 (chased_frames c a s bytes ch) ≡ true
  -- the counts are the numbers of chased samples, 0 for a channel not there
  pub lefts : left ≡ count_of (chased_frames c a s bytes 0)
  pub rights : right ≡ cond (ltb 1 c) (count_of (chased_frames c a s bytes 1)) 0

-- so it is for every sound of 16-bit samples, channels and align that encoding accepts
unfoldable pub Quality : Type 0
Quality =
    (s : List ℤ) (c a room : ℕ) (w : Coded) → Sixteen s → encoding s c a room ≡ Ok w
    → Heard s c a (encoded_bytes c a s) w.left.0 w.right.0

-- ---- decoding gives exactly what encoding tracked

-- the states that encoding goes through over a block of a channel
unfoldable pub tracked_part : ℕ → List ℤ → List ImaState
tracked_part i [] = []
tracked_part i (x ∷ xs) = record { last = x; index = i } ∷ tracked_all (record { last = x; index = i }) xs

-- channel ch as encoding has it after frame f
unfoldable pub tracked_at : ℕ → ℕ → List ℤ → ℕ → ℕ → ImaState
tracked_at c a s ch f =
    let k : ℕ = f / ima_samples c a in
    get_or (tracked_part (open_index c a s ch k) (block_of c a s ch k)) (f % ima_samples c a)
    (record { last = pos 0; index = 0 })

unfoldable pub Tracked : Type 0
Tracked =
    (s : List ℤ) (c a room : ℕ) (w : Coded) → Sixteen s → encoding s c a room ≡ Ok w
    → (ch f : ℕ) → ch < c → f < length s / c → heard_at c a (encoded_bytes c a s) ch f ≡ tracked_at c a s ch f

-- ---- the first block has index 0 in each channel; where a later one opens, the index is that after the frame before
unfoldable pub Carried : Type 0
Carried =
    (s : List ℤ) (c a room : ℕ) (w : Coded) → Sixteen s → encoding s c a room ≡ Ok w
    → (ch f : ℕ) → ch < c → f < length s / c → f % ima_samples c a ≡ 0
    → (heard_at c a (encoded_bytes c a s) ch f).index ≡ cond (ltb 0 f) (heard_at c a (encoded_bytes c a s) ch (f - 1)).index 0

-- ---- the bounds are reached: 11 in succession, and an error of s/8 + 2

-- two sounds, mono in blocks of 12 bytes
unfoldable pub Reached : Type 0
Reached =
    let rise : List ℤ = negsuc 32767 ∷ replicate 16 (pos 32767) in
    let step : List ℤ = pos 0 ∷ pos 13 ∷ [] in
    let t : ImaState = heard_at 1 12 (encoded_bytes 1 12 step) 0 0 in
    (at_most 10 (chased_frames 1 12 rise (encoded_bytes 1 12 rise) 0) ≡ false)
    × (chased_at 1 12 step (encoded_bytes 1 12 step) 0 1 ≡ false)
    × (nat_abs ((heard_at 1 12 (encoded_bytes 1 12 step) 0 1).last -ℤ pos 13) ≡ step_at t.index / 8 + 2)

-- ---- why an opening sample ends a run: were it passed over, 12 would follow each other here, 11 of the first block of 17 frames
-- and one of the second
unfoldable pub PassedOver : Type 0
PassedOver =
    let swing : List ℤ = replicate 6 (negsuc 32767) ++ (replicate 11 (pos 32767) ++ (negsuc 32767 ∷ pos 32767 ∷ [])) in
    let chased : ℕ → Bool = chased_at 1 12 swing (encoded_bytes 1 12 swing) 0 in
    let later : List Bool = values (λ i. chased (i + i / 16 + 1)) 0 17 in
    (at_most 11 (values chased 0 19) ≡ true) × (at_most 11 later ≡ false) × (at_most 12 later ≡ true)

-- ---- the order of checks, in document 01's own numbers: 1, 9, 10, 14; 0 where the blocks are written
abbrev pub encode_number : List ℤ → ℕ → ℕ → ℕ → ℕ
encode_number s c a room =
    cond (not (leb (length s) 536870912)) 1
    (cond (not (codable c a)) 9
    (cond (not (eqb (length s % c) 0)) 10
    (cond (not (leb (blocks_for c a (length s) * a) room)) 14 0)))

unfoldable pub EncodeNumbered : Type 0
EncodeNumbered = (s : List ℤ) (c a room : ℕ) → encoded_number (encoding s c a room) ≡ encode_number s c a room

-- 536,870,912 samples are taken, and get 14 where there is no room; one more is 1
unfoldable pub Limit : Type 0
Limit = (verdict_number (encode_verdict 536870912 1 12 0) ≡ 14) × (verdict_number (encode_verdict 536870913 1 12 0) ≡ 1)
