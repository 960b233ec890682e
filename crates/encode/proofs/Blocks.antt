-- Block after block of a channel: the index is carried on, and the chased samples add up. Assumes nothing.
use mathlib.Core.Path.{◌≡◌, refl, sym, ap, ◌∙◌}
use mathlib.Core.Bool.{Bool}
use mathlib.Core.List.{List, [], ◌∷◌, ◌++◌}
use mathlib.Core.Logic.{◌↔◌}
use Prim.Native.Nat.{ℕ, zero, suc, ◌+◌, ◌-◌, ◌*◌, ◌/◌, ◌≤◌, ◌<◌}
use native.Mathlib.Nat.{add-mul, one-mul, zero-mul, sub-zero, le-div_iff_mul-le}
use native.Mathlib.Numerals.{add-one}
use native.Mathlib.Omega.{arith}
use lib.IntN.{ℤ}
use lib.ListN.{length, take}
use lib.Seq.{take-nil}
use Rattle.lists.specs.Turns.{values, joined}
use Rattle.lists.proofs.Turns.{joined-next}
use Rattle.ima_code.specs.Machine.{chased_of}
use Rattle.ima_code.proofs.Machine.{length-chased}
use Rattle.formats.specs.Format.{ima_samples}
use Rattle.ima_coder.specs.declared.Channel.{Channel}
use Rattle.ima_coder.specs.Part.{closing_index, chased_part, count_of, channel_after, opened_with, channel_after_block}
use Rattle.ima_coder.proofs.Taken.{length_taken}
use Rattle.ima_coder.proofs.Runs.{count-append}
use Rattle.encode.specs.Encoding.{block_of, open_index, chased_block, blocks_for, chased_in}
use Rattle.formats.proofs.Making.{Codable}

-- ---- samples per block
pub per-mono : {a : ℕ} → Codable 1 a → ima_samples 1 a ≡ 8 * (a / 4 - 1) + 1
unfolding ima_samples
per-mono w = omega (arith, w.whole, w.least)

pub per-stereo : {a : ℕ} → Codable 2 a → ima_samples 2 a ≡ 8 * (a / 8 - 1) + 1
unfolding ima_samples
per-stereo w = omega (arith, w.whole, w.least)

pub per-some : (c a : ℕ) → 1 ≤ ima_samples c a
unfolding ima_samples
per-some c a = omega arith

pub next-times : (k p : ℕ) → (k + 1) * p ≡ k * p + p
next-times k p = add-mul k 1 p ∙ ap (λ (m : ℕ). k * p + m) (one-mul p)

-- a block that is counted has a frame of the sound
pub begun : (c a n k : ℕ) → k < blocks_for c a n → k * ima_samples c a < n / c
unfolding blocks_for
begun c a n k h =
    let p : ℕ = ima_samples c a in
    let e : (k + 1 ≤ (n / c + p - 1) / p) ↔ ((k + 1) * p ≤ n / c + p - 1) = le-div_iff_mul-le (per-some c a) in
    omega (arith, e.0 (omega arith), next-times k p, per-some c a)

-- ---- a channel after a block
block-closes : (t : Channel) (n : ℕ) (xs : List ℤ) → 1 ≤ length xs
    → (channel_after_block t n xs).state.index ≡ closing_index t.state.index xs
unfolding channel_after_block channel_after opened_with closing_index
block-closes t n [] h = absurd (omega arith)
block-closes t n (x ∷ xs) h = refl

block-counts : (t : Channel) (n : ℕ) (xs : List ℤ) → 1 ≤ n → 1 ≤ length xs
    → (channel_after_block t n xs).chased ≡ t.chased + count_of (take n (chased_part t.state.index xs))
unfolding channel_after_block channel_after opened_with chased_part count_of
block-counts t n [] h g = absurd (omega arith)
block-counts t zero (x ∷ xs) h g = absurd (omega arith)
block-counts t (suc n) (x ∷ xs) h g =
    let k : suc n - 1 ≡ n = omega arith in
    let fs : List Bool = chased_of (record { last = x; index = t.state.index }) xs in
    ap (λ (m : ℕ). t.chased + count_of (take m fs)) k ∙ omega arith

pub length_part : (i : ℕ) (xs : List ℤ) → length (chased_part i xs) ≡ length xs
unfolding chased_part
length_part i [] = refl
length_part i (x ∷ xs) = ap suc (length-chased (record { last = x; index = i }) xs)

pub length-block : (c a : ℕ) (s : List ℤ) (ch k : ℕ) → length (block_of c a s ch k) ≡ ima_samples c a
unfolding block_of
length-block c a s ch k =
    length_taken s c (length s - c + ch) (c * (k * ima_samples c a) + ch) (ima_samples c a)

-- ---- channel ch before block k
pub record Sofar (c a : ℕ) (s : List ℤ) (ch k : ℕ) (t : Channel) : Type 0 where
  pub index : t.state.index ≡ open_index c a s ch k
  pub good : t.state.index < 89
  pub few : t.chased ≤ k * ima_samples c a
  pub counts :
      t.chased + count_of (take (length s / c - k * ima_samples c a)
      (joined (values (chased_block c a s ch) k (blocks_for c a (length s) - k))))
      ≡ count_of (take (length s / c) (chased_in c a s ch))

pub sofar-begins : (c a : ℕ) (s : List ℤ) (ch : ℕ) (t : Channel) → t.state.index ≡ 0 → t.chased ≡ 0
    → Sofar c a s ch 0 t
unfolding open_index chased_in
sofar-begins c a s ch t e f =
    let p : ℕ = ima_samples c a in
    let z : length s / c - 0 * p ≡ length s / c = omega (arith, zero-mul p) in
    let n : blocks_for c a (length s) - 0 ≡ blocks_for c a (length s) = sub-zero (blocks_for c a (length s)) in
    record { index = e; good = omega arith; few = omega (arith, zero-mul p); counts = rw (f, z, n) (omega arith) }

module _ {c a : ℕ} {s : List ℤ} {ch k : ℕ} {t : Channel} (w : Sofar c a s ch k t) where
  pub sofar-next : {r : Channel} → k < blocks_for c a (length s)
      → r ≡ channel_after_block t (length s / c - k * ima_samples c a) (block_of c a s ch k)
      → r.state.index < 89 → r.chased + 1 ≤ t.chased + ima_samples c a → Sofar c a s ch (k + 1) r
  unfolding open_index chased_block
  sofar-next {r} h e g f =
      let p : ℕ = ima_samples c a in
      let n : ℕ = length s / c - k * p in
      let xs : List ℤ = block_of c a s ch k in
      let l : length xs ≡ p = length-block c a s ch k in
      let o : 1 ≤ n = omega (arith, begun c a (length s) k h) in
      let u : 1 ≤ length xs = omega (arith, per-some c a) in
      let bs : List Bool = chased_block c a s ch k in
      let cs : List Bool = joined (values (chased_block c a s ch) (k + 1) (blocks_for c a (length s) - (k + 1))) in
      let i : r.state.index ≡ closing_index (open_index c a s ch k) xs =
      ap (λ (q : Channel). q.state.index) e ∙ block-closes t n xs u
      ∙ ap (λ (q : ℕ). closing_index q xs) w.index in
      let c1 : r.chased ≡ t.chased + count_of (take n bs) =
      ap (λ (q : Channel). q.chased) e ∙ block-counts t n xs o u
      ∙ ap (λ (q : ℕ). t.chased + count_of (take n (chased_part q xs))) w.index in
      let lb : length bs ≡ p = length_part (open_index c a s ch k) xs ∙ l in
      let m : n - length bs ≡ length s / c - (k + 1) * p = omega (arith, next-times k p) in
      let c2 : count_of (take n (bs ++ cs)) ≡ count_of (take n bs) + count_of (take (length s / c - (k + 1) * p) cs) =
      count-append n bs cs ∙ ap (λ (q : ℕ). count_of (take n bs) + count_of (take q cs)) m in
      let c3 : count_of (take n (joined (values (chased_block c a s ch) k (blocks_for c a (length s) - k))))
      ≡ count_of (take n (bs ++ cs)) =
      ap (λ (q : List Bool). count_of (take n q))
      (joined-next (chased_block c a s ch) k (blocks_for c a (length s)) h) in
      record {
        index = i ∙ ap (open_index c a s ch) (sym (add-one k));
        good = g;
        few = omega (arith, w.few, next-times k p);
        counts = omega (arith, w.counts);
      }

  -- no block is left
  pub sofar-ends : blocks_for c a (length s) - k ≡ 0 → t.chased ≡ count_of (take (length s / c) (chased_in c a s ch))
  unfolding values joined count_of
  sofar-ends h =
      let n : ℕ = length s / c - k * ima_samples c a in
      omega (arith, w.counts, ap (λ (m : ℕ). count_of (take n (joined (values (chased_block c a s ch) k m)))) h, ap count_of (take-nil {A = Bool} n))
