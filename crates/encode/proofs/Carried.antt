-- Blocks carry the index on: the samples of a block end at the index at which the next block opens, and decoding goes
-- through the states that encoding tracked. Assumes nothing.
use mathlib.Core.Path.{◌≡◌, refl, sym, ap, ◌∙◌}
use mathlib.Core.Bool.{cond}
use mathlib.Core.List.{List, [], ◌∷◌}
use Prim.Native.Nat.{ℕ, zero, suc, ◌+◌, ◌-◌, ◌*◌, ◌/◌, ◌%◌, ◌≤◌, ◌<◌}
use native.Mathlib.Nat.{div-add-mod', zero-mul, suc-mul, div-le_self, le-div_iff_mul-le, div-lt_iff_lt-mul}
use native.Mathlib.Omega.{arith}
use lib.IntN.{ℤ}
use lib.ListN.{length, get_or}
use Rattle.samples.proofs.Signed.{by-ltb}
use Rattle.ima_code.specs.declared.ImaState.{ImaState}
use Rattle.ima_code.specs.Code.{tracked}
use Rattle.ima_code.specs.Machine.{after, tracked_all}
use Rattle.formats.specs.Format.{ima_samples}
use Rattle.ima_coder.specs.Part.{closing_index}
use Rattle.encode.specs.Encoding.{block_of, open_index, encoded_bytes}
use Rattle.encode.specs.Demands.{heard_at, tracked_part, tracked_at, Tracked, Carried}
use Rattle.encode.proofs.Blocks.{per-some, length-block}
use Rattle.encode.proofs.Demands.{silent, tracked-back}

-- ---- the first and the last index of a block
part-opens : (i : ℕ) (xs : List ℤ) → 1 ≤ length xs → (get_or (tracked_part i xs) 0 silent).index ≡ i
unfolding tracked_part
part-opens i [] h = absurd (omega arith)
part-opens i (x ∷ xs) h = refl

part-closes : (i : ℕ) (xs : List ℤ) (n : ℕ) → length xs ≡ suc n → (get_or (tracked_part i xs) n silent).index ≡ closing_index i xs
unfolding tracked_part closing_index tracked_all after
part-closes i [] n h = absurd (omega arith)
part-closes i (x ∷ xs) n h = by (record { last = x; index = i }) xs n (omega arith)
  where
    by : (t : ImaState) (xs : List ℤ) (n : ℕ) → length xs ≡ n → (get_or (t ∷ tracked_all t xs) n silent).index ≡ (after t xs).index
    by t [] zero h = refl
    by t (x ∷ xs) (suc n) h = by (tracked t x) xs n (omega arith)
    by t [] (suc n) h = absurd (omega arith)
    by t (x ∷ xs) zero h = absurd (omega arith)

-- ---- a frame that opens a later block comes after the last one of the block before
next-block : (f p : ℕ) → 1 ≤ p → f % p ≡ 0 → 0 < f → (f / p ≡ suc ((f - 1) / p)) × (p ≡ suc ((f - 1) % p))
next-block f p h e o = by (f / p) (omega (arith, div-add-mod' f p))
  where
    by : (k : ℕ) → k * p ≡ f → (k ≡ suc ((f - 1) / p)) × (p ≡ suc ((f - 1) % p))
    by zero g = absurd (omega (arith, zero-mul p))
    by (suc n) g =
        let u : n * p + p ≡ f = sym (suc-mul n p) ∙ g in
        let lo : n ≤ (f - 1) / p = (le-div_iff_mul-le {x = n} {y = f - 1} h).1 (omega arith) in
        let hi : (f - 1) / p < suc n = (div-lt_iff_lt-mul {x = f - 1} {y = suc n} h).1 (omega arith) in
        let d : (f - 1) / p ≡ n = omega arith in
        (omega arith, omega (arith, div-add-mod' (f - 1) p, ap (λ (k : ℕ). k * p) d))

-- ---- as encoding tracked it
module _ (c a : ℕ) (s : List ℤ) (ch f : ℕ) (e : f % ima_samples c a ≡ 0) where
  abbrev p : ℕ
  p = ima_samples c a

  opens_at : (tracked_at c a s ch f).index ≡ open_index c a s ch (f / p)
  unfolding tracked_at
  opens_at =
      let k : ℕ = f / ima_samples c a in
      ap (λ (j : ℕ). (get_or (tracked_part (open_index c a s ch k) (block_of c a s ch k)) j silent).index) e
      ∙ part-opens (open_index c a s ch k) (block_of c a s ch k) (omega (arith, length-block c a s ch k, per-some c a))

  opens-first : f ≤ 0 → (tracked_at c a s ch f).index ≡ 0
  unfolding open_index
  opens-first o =
      let z : f / ima_samples c a ≡ 0 = omega (arith, div-le_self f (ima_samples c a)) in
      opens_at ∙ ap (open_index c a s ch) z

  opens-later : 0 < f → (tracked_at c a s ch f).index ≡ (tracked_at c a s ch (f - 1)).index
  unfolding tracked_at open_index
  opens-later o =
      let k : ℕ = (f - 1) / ima_samples c a in
      let n = next-block f (ima_samples c a) (per-some c a) e o in
      opens_at ∙ ap (open_index c a s ch) n.0
      ∙ sym (part-closes (open_index c a s ch k) (block_of c a s ch k) ((f - 1) % ima_samples c a) (length-block c a s ch k ∙ n.1))

-- ---- and as it is heard
pub carried : Carried
unfolding Carried Tracked
carried s c a room w z e ch f l h g =
    let at = tracked-back s c a room w z e ch in
    by-ltb 0 f (λ b. (heard_at c a (encoded_bytes c a s) ch f).index ≡ cond b (heard_at c a (encoded_bytes c a s) ch (f - 1)).index 0)
    (λ o.
    ap (λ (t : ImaState). t.index) (at f l h) ∙ opens-later c a s ch f g o
    ∙ sym (ap (λ (t : ImaState). t.index) (at (f - 1) l (omega arith))))
    (λ o. ap (λ (t : ImaState). t.index) (at f l h) ∙ opens-first c a s ch f g o)
