-- Decoding what was written: the part of each channel is found again, with encoding's states. Assumes nothing.
use mathlib.Core.Path.{◌≡◌, refl, sym, ap, ◌∙◌, subst}
use mathlib.Core.List.{List, [], ◌∷◌, ◌++◌}
use Prim.Native.Nat.{ℕ, zero, suc, ◌+◌, ◌-◌, ◌*◌, ◌/◌, ◌%◌, ◌≤◌, ◌<◌}
use native.Mathlib.Omega.{arith}
use lib.IntN.{ℤ}
use lib.ListN.{length, drop}
use mir.Syntax.{w16}
use mir.Val.{SFits}
use mir.Facts.{Fits-of_z}
use Rattle.little.specs.Numbers.{number_at, bytes_of}
use Rattle.little.proofs.Reading.{bytes-say}
use Rattle.samples.specs.Sound.{signed_of, bits_of, sample_at, sample_bytes}
use Rattle.samples.proofs.Back.{signed-bits}
use Rattle.lists.specs.Turns.{values, in_turn, picked}
use Rattle.lists.proofs.Turns.{Long, picked-turn, values-long, values-at, joined_at}
use Rattle.ima_code.specs.declared.ImaState.{ImaState}
use Rattle.ima_code.specs.Code.{code_for, tracked}
use Rattle.ima_code.specs.Machine.{codes_of}
use Rattle.ima_code.specs.Quality.{Sixteen}
use Rattle.ima_code.proofs.Coding.{code_below}
use Rattle.ima_code.proofs.Machine.{run-tracks, sixteen-first}
use Rattle.formats.specs.Format.{ima_samples}
use Rattle.codec.specs.Codec.{low, high, nibbles, channel_states}
use Rattle.ima_block.specs.Block.{channel_part, ima_opened, ima}
use Rattle.ima_coder.specs.Part.{packed, block_head, coded_part}
use Rattle.encode.specs.Encoding.{block_of, open_index, channel_bytes, block_bytes, blocks_for, encoded_bytes}
use Rattle.encode.specs.Demands.{block_of_bytes, tracked_part}
use Rattle.formats.proofs.Making.{Codable}
use Rattle.encode.proofs.Blocks.{per-mono, per-stereo, length-block}
use Rattle.encode.proofs.Loops.{length-coded, length-mono, length-stereo}

-- ---- codes in bytes, and out of them again
nibbles-back : (t : ImaState) (xs : List ℤ) (n : ℕ) → length xs ≡ 2 * n → nibbles low high (packed (codes_of t xs)) ≡ codes_of t xs
unfolding codes_of packed nibbles
nibbles-back t [] n e = refl
nibbles-back t (x ∷ []) n e = absurd (omega arith)
nibbles-back t (x ∷ y ∷ xs) zero e = absurd (omega arith)
nibbles-back t (x ∷ y ∷ xs) (suc n) e =
    let k : ℕ = code_for t x in
    let l : ℕ = code_for (tracked t x) y in
    let a : (k + 16 * l) % 16 ≡ k = omega (arith, code_below t x) in
    let b : (k + 16 * l) / 16 ≡ l = omega (arith, code_below t x) in
    rw (a, b) (ap (λ (r : List ℕ). k ∷ l ∷ r) (nibbles-back (tracked (tracked t x) y) xs n (omega arith)))

-- ---- a header
opened-back : (x : ℤ) (i : ℕ) (r : List ℕ) → SFits w16 x
    → ima_opened (block_head x i ++ r) ≡ record { last = x; index = i }
unfolding ima_opened block_head sample_at sample_bytes bytes_of number_at bits_of
opened-back x i r f =
    ap (λ (n : ℕ). record { last = signed_of n; index = i }) (bytes-say 2 (bits_of x) (Fits-of_z f).fits)
    ∙ ap (λ (z : ℤ). record { last = z; index = i }) (signed-bits f)

pub index_back : (i : ℕ) (xs : List ℤ) → Sixteen xs → 1 ≤ length xs → (ima_opened (coded_part i xs)).index ≡ i
unfolding coded_part
index_back i [] s h = absurd (omega arith)
index_back i (x ∷ xs) s h =
    ap (λ (t : ImaState). t.index) (opened-back x i (packed (codes_of (record { last = x; index = i }) xs)) (sixteen-first s))

behind-head : (x : ℤ) (i : ℕ) (r : List ℕ) → drop 4 (block_head x i ++ r) ≡ r
unfolding block_head sample_bytes bytes_of
behind-head x i r = refl

-- ---- a block of a channel
pub part-heard : (c : ℕ) (b : List ℕ) (ch i g : ℕ) (xs : List ℤ) → channel_part c b ch ≡ coded_part i xs → Sixteen xs → length xs ≡ 8 * g + 1
    → channel_states ima c b ch ≡ tracked_part i xs
unfolding channel_states coded_part tracked_part
part-heard c b ch i g [] p s e = absurd (omega arith)
part-heard c b ch i g (x ∷ xs) p s e =
    let t : ImaState = record { last = x; index = i } in
    let ks : List ℕ = packed (codes_of t xs) in
    let o : ima_opened (block_head x i ++ ks) ≡ t = opened-back x i ks (sixteen-first s) in
    let n : nibbles low high (drop 4 (block_head x i ++ ks)) ≡ codes_of t xs =
    ap (nibbles low high) (behind-head x i ks) ∙ nibbles-back t xs (4 * g) (omega arith) in
    rw (p, o, n) (ap (λ (l : List ImaState). t ∷ l) (run-tracks t xs))

-- ---- one or two channels
pub by-channels : {c a : ℕ} (P : ℕ → Type 0) → Codable c a → (c ≡ 1 → P 1) → (c ≡ 2 → P 2) → P c
by-channels {c} P w f g = pick c w.some w.two f g
  where
    pick : (c : ℕ) → 1 ≤ c → c ≤ 2 → (c ≡ 1 → P 1) → (c ≡ 2 → P 2) → P c
    pick zero h k f g = absurd (omega arith)
    pick (suc zero) h k f g = f refl
    pick (suc (suc zero)) h k f g = g refl
    pick (suc (suc (suc c))) h k f g = absurd (omega arith)

module _ {c a : ℕ} (w : Codable c a) where
  pub per-is : ima_samples c a ≡ 8 * (a / (4 * c) - 1) + 1
  per-is =
      by-channels (λ n. ima_samples n a ≡ 8 * (a / (4 * n) - 1) + 1) w
      (λ e. per-mono (subst (λ (n : ℕ). Codable n a) e w))
      (λ e. per-stereo (subst (λ (n : ℕ). Codable n a) e w))

  pub length-bytes-of : (s : List ℤ) (k : ℕ) → length (block_bytes c a s k) ≡ a
  length-bytes-of s k =
      by-channels (λ n. length (block_bytes n a s k) ≡ a) w
      (λ e. length-mono a s k (subst (λ (n : ℕ). Codable n a) e w))
      (λ e. length-stereo a s k (subst (λ (n : ℕ). Codable n a) e w))

  some-groups : 1 ≤ a / (4 * c)
  some-groups =
      by-channels (λ n. 1 ≤ a / (4 * n)) w
      (λ e. mono-groups (subst (λ (n : ℕ). Codable n a) e w))
      (λ e. stereo-groups (subst (λ (n : ℕ). Codable n a) e w))
    where
      mono-groups : Codable 1 a → 1 ≤ a / 4
      mono-groups v = omega (arith, v.least)

      stereo-groups : Codable 2 a → 1 ≤ a / 8
      stereo-groups v = omega (arith, v.least)

  length-part-of : (s : List ℤ) (k ch : ℕ) → length (channel_bytes c a s k ch) ≡ 4 * (a / (4 * c))
  unfolding channel_bytes
  length-part-of s k ch =
      length-coded (open_index c a s ch k) (a / (4 * c) - 1) (block_of c a s ch k) (length-block c a s ch k ∙ per-is)
      ∙ omega (arith, some-groups)

  long-parts : (s : List ℤ) (k i n : ℕ) → Long (4 * (a / (4 * c))) (values (channel_bytes c a s k) i n)
  unfolding values
  long-parts s k i zero = tt
  long-parts s k i (suc n) = (length-part-of s k i, long-parts s k (suc i) n)

  -- channel ch of block k
  pub part-back : (s : List ℤ) (k ch : ℕ) → ch < c → channel_part c (block_bytes c a s k) ch ≡ channel_bytes c a s k ch
  unfolding channel_part block_bytes
  part-back s k ch h =
      let ls : List (List ℕ) = values (channel_bytes c a s k) 0 c in
      let n : length ls ≡ c = values-long (channel_bytes c a s k) 0 c in
      let g : length (in_turn 4 (a / (4 * c)) ls) ≡ a = length-bytes-of s k in
      let z : 0 + ch ≡ ch = omega arith in
      ap (λ (m : ℕ). picked 4 (4 * c) (in_turn 4 (a / (4 * c)) ls) (4 * ch) (m / (4 * c))) g
      ∙ ap (λ (m : ℕ). picked 4 (4 * m) (in_turn 4 (a / (4 * c)) ls) (4 * ch) (a / (4 * c))) (sym n)
      ∙ picked-turn 4 (a / (4 * c)) ls ch (long-parts s k 0 c) (omega arith)
      ∙ values-at (channel_bytes c a s k) 0 c ch [] h
      ∙ ap (channel_bytes c a s k) z

  -- block k of all that was written
  pub block_back : (s : List ℤ) (k : ℕ) → k < blocks_for c a (length s)
      → block_of_bytes a (encoded_bytes c a s) k ≡ block_bytes c a s k
  unfolding block_of_bytes encoded_bytes
  block_back s k h =
      let z : 0 + k ≡ k = omega arith in
      joined_at (block_bytes c a s) a 0 (blocks_for c a (length s)) k (length-bytes-of s) h ∙ ap (block_bytes c a s) z
