-- Whole blocks and the number of frames, in the words of the code. Assumes nothing.
use mathlib.Core.Path.{◌≡◌, refl, sym, ap, ◌∙◌}
use mathlib.Core.Bool.{Bool, false, not, ◌&&◌}
use mathlib.Core.List.{List}
use mathlib.Core.Logic.{◌↔◌}
use Prim.Native.Nat.{ℕ, min, ◌+◌, ◌-◌, ◌*◌, ◌/◌, ◌%◌, ◌≤◌, ◌<◌}
use native.Mathlib.Nat.{mul-zero, suc-mul, le-div_iff_mul-le, div-lt_iff_lt-mul}
use native.Mathlib.Numerals.{add-one}
use native.Mathlib.Omega.{arith}
use lib.Dec.{leb, ltb, eqb}
use borrow.Author.Tests.{lt-leb, eq-eqb, ne_eqb}
use Rattle.std.proofs.lemmas.Grind.{div_ceil_times}
use Rattle.little.specs.Numbers.{number_at}
use Rattle.samples.proofs.Signed.{by-leb, by-ltb}
use Rattle.units.specs.declared.BytePlace.{BytePlace}
use Rattle.units.specs.declared.Frames.{Frames}
use Rattle.formats.specs.declared.Format.{Format}
use Rattle.formats.specs.Frames.{whole_blocks, blocks_in, frames_of, needs_fact, count_fits, frames_rule}
use Rattle.little.proofs.Tests.{tests}

-- ---- whole blocks
module _ (f : Format) (n : BytePlace) where
  pub blocks-are : n.0 / f.align ≡ blocks_in f n
  unfolding blocks_in
  blocks-are = refl

  pub whole_is : 1 ≤ f.align → eqb (n.0 % f.align) 0 ≡ whole_blocks f n
  unfolding whole_blocks
  whole_is h = simp tests

-- ---- the fact
-- ---- a quotient rounded up: c is the least number whose product with s is not below f
rounded : (c f s : ℕ) → 1 ≤ s → (f ≤ c * s) × (c * s < f + s) → (f + s - 1) / s ≡ c
rounded c f s k p =
    let m : (c + 1) * s ≡ c * s + s = ap (λ (n : ℕ). n * s) (add-one c) ∙ suc-mul c s in
    let low : (c ≤ (f + s - 1) / s) ↔ (c * s ≤ f + s - 1) = le-div_iff_mul-le k in
    let high : ((f + s - 1) / s < c + 1) ↔ (f + s - 1 < (c + 1) * s) = div-lt_iff_lt-mul k in
    omega (arith, low.1 (omega (arith, p.1)), high.1 (omega (arith, p.0)))

-- ---- f frames in b blocks of s samples
module _ (b s f : ℕ) where
  pub count-empty : b ≡ 0 → eqb f 0 ≡ count_fits b s f
  unfolding count_fits
  count-empty h = simp tests

  module _ (h : b ≡ 0 → ⊥) where
    pub count-no-samples : s < 1 → false ≡ count_fits b s f
    unfolding count_fits
    count-no-samples k =
        let z : s ≡ 0 = omega arith in
        by-ltb 0 f (λ x. false ≡ (x && leb f 0)) (λ l. sym (lt-leb f 0 l)) (λ l. refl) ∙ simp (tests, z, mul-zero (b - 1), mul-zero b)

    module _ (k : 1 ≤ s) where
      -- the quotient, rounded up, is not below b, and not above it
      low : (b ≤ (f + s - 1) / s) ↔ (b * s ≤ f + s - 1)
      low = le-div_iff_mul-le k

      high : ((f + s - 1) / s < b + 1) ↔ (f + s - 1 < (b + 1) * s)
      high = div-lt_iff_lt-mul k

      one_less : b * s ≡ (b - 1) * s + s
      one_less = ap (λ (n : ℕ). n * s) (omega arith) ∙ suc-mul (b - 1) s

      one_more : (b + 1) * s ≡ b * s + s
      one_more = ap (λ (n : ℕ). n * s) (add-one b) ∙ suc-mul b s

      rounded-up : eqb ((f + s - 1) / s) b ≡ (ltb ((b - 1) * s) f && leb f (b * s))
      rounded-up =
          by-ltb ((b - 1) * s) f (λ x. eqb ((f + s - 1) / s) b ≡ (x && leb f (b * s)))
          (λ l. by-leb f (b * s) (λ x. eqb ((f + s - 1) / s) b ≡ x)
          (λ m. eq-eqb ((f + s - 1) / s) b
          (omega (arith, low.1 (omega (arith, one_less)), high.1 (omega (arith, one_more)))))
          (λ m. ne_eqb ((f + s - 1) / s) b (λ e. omega (arith, one_more, high.0 (omega arith)))))
          (λ l. ne_eqb ((f + s - 1) / s) b (λ e. omega (arith, one_less, low.0 (omega arith))))

      pub count-is : eqb ((f + s - 1) / s) b ≡ count_fits b s f
      unfolding count_fits
      count-is = rounded-up ∙ simp tests

      -- by the library's quotient, rounded up
      pub count_is : eqb (f / s + min 1 (f % s)) b ≡ count_fits b s f
      count_is = ap (λ (n : ℕ). eqb n b) (sym (rounded (f / s + min 1 (f % s)) f s k (div_ceil_times f s k))) ∙ count-is

-- ---- the frames of the sound
module _ (f : Format) (n : BytePlace) {b : ℕ} (e : b ≡ blocks_in f n) where
  pub frames-pcm : (fact : List ℕ) → f.tag ≡ 1 → ◌≡◌ {A = Frames} (record { 0 = b }) (frames_of f n fact)
  unfolding frames_of
  frames-pcm fact h = simp (tests, e)

  pub frames-exact : (m : Frames) → f.tag ≡ 1 → eqb m.0 b ≡ frames_rule f n m
  unfolding frames_rule
  frames-exact m h = simp (tests, e)

  pub frames-counted : (m : Frames) {r : Bool} → (f.tag ≡ 1 → ⊥) → r ≡ count_fits b f.samples m.0 → r ≡ frames_rule f n m
  unfolding frames_rule
  frames-counted m h g = simp (tests, ← e, g)

pub frames-stored : (f : Format) (n : BytePlace) (fact : List ℕ) {k : ℕ}
    → (f.tag ≡ 1 → ⊥) → k ≡ number_at 4 fact 0 → ◌≡◌ {A = Frames} (record { 0 = k }) (frames_of f n fact)
unfolding frames_of
frames-stored f n fact h e = simp (tests, e)

pub ruleset counting = (count-empty, count-no-samples, count_is)
