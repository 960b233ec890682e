-- Frames of the sound in the blocks of a channel, and the laws of samples in succession. Assumes nothing.
use mathlib.Core.Path.{◌≡◌, refl, ap, ◌∙◌}
use mathlib.Core.Bool.{Bool, true, false}
use mathlib.Core.List.{List, [], ◌∷◌, ◌++◌}
use Prim.Native.Nat.{ℕ, zero, suc, ◌+◌, ◌-◌, ◌*◌, ◌/◌, ◌%◌, ◌≤◌, ◌<◌, min}
use native.Mathlib.Nat.{mul-suc, mul-zero, mul-add, mul-one, mul_comm, mul-le-mul_left, div-add-mod, add-mul-div_right, add-mul-mod_self_right, div-eq_of_lt, mod-eq_of_lt, mod-lt, div-add-mod', div-lt_iff_lt-mul, lt-mul-div-succ}
use native.Mathlib.Omega.{arith}
use lib.IntN.{ℤ, pos}
use lib.ListN.{length, take, get_or}
use Rattle.lists.specs.Turns.{values, joined}
use Rattle.ima_code.specs.Quality.{Sixteen, within, at_most}
use Rattle.ima_code.proofs.Machine.{sixteen-none, sixteen-more, sixteen-first, sixteen-rest, after-in-range}
use Rattle.ima_code.proofs.Climb.{eleven-at-most}
use Rattle.formats.specs.Format.{ima_samples}
use Rattle.ima_coder.specs.Part.{samples_from, closing_index, chased_part}
use Rattle.encode.specs.Encoding.{block_of, open_index, chased_block, blocks_for}
use Rattle.encode.specs.Demands.{frame_of}
use Rattle.encode.proofs.Blocks.{per-some}

-- ---- the samples of a channel are those of the sound
taken-sixteen : {s : List ℤ} (stride last x n : ℕ) → Sixteen s → Sixteen (samples_from s stride last x n)
unfolding samples_from
taken-sixteen stride last x zero f = sixteen-none
taken-sixteen stride last x (suc n) f =
    sixteen-more (f.at (min x last)) (taken-sixteen stride last (x + stride) n f)

taken_at : (s : List ℤ) (stride last x n j : ℕ) → j < n
    → get_or (samples_from s stride last x n) j (pos 0) ≡ get_or s (min (x + stride * j) last) (pos 0)
unfolding samples_from
taken_at s stride last x zero j h = absurd (omega arith)
taken_at s stride last x (suc n) zero h =
    let e : min x last ≡ min (x + stride * 0) last = omega (arith, mul-zero stride) in
    ap (λ (k : ℕ). get_or s k (pos 0)) e
taken_at s stride last x (suc n) (suc j) h =
    let e : min (x + stride + stride * j) last ≡ min (x + stride * suc j) last = omega (arith, mul-suc stride j) in
    taken_at s stride last (x + stride) n j (omega arith) ∙ ap (λ (k : ℕ). get_or s k (pos 0)) e

module _ (c a : ℕ) (s : List ℤ) (ch : ℕ) where
  pub block-sixteen : (k : ℕ) → Sixteen s → Sixteen (block_of c a s ch k)
  unfolding block_of
  block-sixteen k f = taken-sixteen c (length s - c + ch) (c * (k * ima_samples c a) + ch)
      (ima_samples c a) f

  -- sample j of block k is a frame of the sound, where the sound has it
  pub block-frame : (k j : ℕ) → length s % c ≡ 0 → j < ima_samples c a
      → k * ima_samples c a + j < length s / c
      → get_or (block_of c a s ch k) j (pos 0) ≡ frame_of c s ch (k * ima_samples c a + j)
  unfolding block_of frame_of
  block-frame k j e h g =
      let f : ℕ = k * ima_samples c a + j in
      let m : c * (f + 1) ≤ c * (length s / c) = mul-le-mul_left c (omega arith) in
      let p : c * (f + 1) ≡ c * f + c = mul-add c f 1 ∙ ap (λ (n : ℕ). c * f + n) (mul-one c) in
      let q : c * f ≡ c * (k * ima_samples c a) + c * j = mul-add c (k * ima_samples c a) j in
      let o : min (c * (k * ima_samples c a) + ch + c * j) (length s - c + ch) ≡ c * f + ch =
      omega (arith, div-add-mod (length s) c) in
      taken_at s c (length s - c + ch) (c * (k * ima_samples c a) + ch) (ima_samples c a) j h
      ∙ ap (λ (n : ℕ). get_or s n (pos 0)) o

  -- every block opens in range
  pub open-below : Sixteen s → (k : ℕ) → open_index c a s ch k < 89
  unfolding open_index closing_index
  open-below f zero = omega arith
  open-below f (suc k) =
      closing-below (open_index c a s ch k) (block_of c a s ch k) (open-below f k) (block-sixteen k f)
    where
      closing-below : (i : ℕ) (xs : List ℤ) → i < 89 → Sixteen xs → closing_index i xs < 89
      closing-below i [] h s = h
      closing-below i (x ∷ xs) h s = (after-in-range xs (record { last = sixteen-first s; index = h })).index

-- ---- in succession
calm-append : (n k : ℕ) (bs cs : List Bool) → within n k bs ≡ true → ((m : ℕ) → within n m cs ≡ true)
    → within n k (bs ++ cs) ≡ true
unfolding within
calm-append n k [] cs e f = f k
calm-append n k (false ∷ bs) cs e f = calm-append n n bs cs e f
calm-append n zero (true ∷ bs) cs e f = let z : ◌≡◌ {A = ℕ} 0 1 = cc in absurd (omega arith)
calm-append n (suc k) (true ∷ bs) cs e f = calm-append n k bs cs e f

pub calm-take : (n k m : ℕ) (bs : List Bool) → within n k bs ≡ true → within n k (take m bs) ≡ true
unfolding within
calm-take n k zero bs e = refl
calm-take n k (suc m) [] e = refl
calm-take n k (suc m) (false ∷ bs) e = calm-take n n m bs e
calm-take n zero (suc m) (true ∷ bs) e = e
calm-take n (suc k) (suc m) (true ∷ bs) e = calm-take n k m bs e

-- a block opens with a sample that is not chased, so that no run goes on into it
part-calm : (i k : ℕ) (xs : List ℤ) → Sixteen xs → i < 89 → within 11 k (chased_part i xs) ≡ true
unfolding chased_part within at_most
part-calm i k [] s h = refl
part-calm i k (x ∷ xs) s h = eleven-at-most (record { last = sixteen-first s; index = h }) (sixteen-rest s)

pub blocks-calm : (c a : ℕ) (s : List ℤ) (ch : ℕ) → Sixteen s → (i n k : ℕ)
    → within 11 k (joined (values (chased_block c a s ch) i n)) ≡ true
unfolding values joined chased_block within
blocks-calm c a s ch f i zero k = refl
blocks-calm c a s ch f i (suc n) k =
    calm-append 11 k (chased_block c a s ch i) (joined (values (chased_block c a s ch) (suc i) n))
    (part-calm (open_index c a s ch i) k (block_of c a s ch i) (block-sixteen c a s ch i f) (open-below c a s ch f i))
    (λ m. blocks-calm c a s ch f (suc i) n m)

-- ---- frames, blocks and places in a block
module _ (p f : ℕ) (h : 1 ≤ p) where
  -- the frame before one that does not open a block is in the same block
  pub same_block : 0 < f % p → (f - 1) / p ≡ f / p
  same_block g =
      let e : f - 1 ≡ f % p - 1 + f / p * p = omega (arith, div-add-mod' f p) in
      ap (λ (n : ℕ). n / p) e ∙ add-mul-div_right (f % p - 1) (f / p) h
      ∙ ap (λ (n : ℕ). n + f / p) (div-eq_of_lt {n = f % p - 1} (omega (arith, mod-lt f h))) ∙ omega arith

  pub one-before : 0 < f % p → (f - 1) % p ≡ f % p - 1
  one-before g =
      let e : f - 1 ≡ f % p - 1 + f / p * p = omega (arith, div-add-mod' f p) in
      ap (λ (n : ℕ). n % p) e ∙ add-mul-mod_self_right (f % p - 1) (f / p) p
      ∙ mod-eq_of_lt {n = f % p - 1} (omega (arith, mod-lt f h))

module _ (c a n : ℕ) where
  pub blocks-enough : n / c ≤ blocks_for c a n * ima_samples c a
  unfolding blocks_for
  blocks-enough =
      let p : ℕ = ima_samples c a in
      let b : ℕ = (n / c + p - 1) / p in
      omega (arith, per-some c a, lt-mul-div-succ (n / c + p - 1) (per-some c a), mul-add p b 1, mul-one p, mul_comm p b)

  pub block-among : (f : ℕ) → f < n / c → f / ima_samples c a < blocks_for c a n
  block-among f h = (div-lt_iff_lt-mul {x = f} {y = blocks_for c a n} (per-some c a)).1 (omega (arith, blocks-enough))
