-- What a format that is taken says: the parts of its rule, one law for each format; and what the rules on its blocks
-- and frames say of their numbers. Assumes nothing.
use mathlib.Core.Path.{◌≡◌, sym, ap, ◌∙◌, subst}
use mathlib.Core.Bool.{Bool, true, false, cond, ◌&&◌, ◌||◌}
use Prim.Native.Nat.{ℕ, ◌-◌, ◌*◌, ◌/◌, ◌%◌, ◌≤◌, ◌<◌}
use native.Mathlib.Nat.{mul-le-mul_right, mul-one, div-add-mod'}
use native.Mathlib.Omega.{arith}
use lib.Dec.{T, leb, ltb, eqb}
use borrow.Author.Tests.{leb-true, ltb-true, eqb-true, eqb-false, ne_eqb, not-true, not-false}
use Rattle.little.proofs.Tests.{tests}
use Rattle.lists.proofs.Laws.{by_eqb, and_both}
use Rattle.units.specs.declared.BytePlace.{BytePlace}
use Rattle.units.specs.declared.Frames.{Frames}
use Rattle.formats.specs.declared.Format.{Format}
use Rattle.formats.specs.Format.{by_tag, ima_samples, ms_samples, shared, pcm_rule, blocked, ima_rule, microsoft_rule, format_rule}
use Rattle.formats.specs.Frames.{whole_blocks, blocks_in, needs_fact, count_fits, frames_rule}

or-second : (a b : Bool) → (a || b) ≡ true → a ≡ false → b ≡ true
or-second true b e n = cc
or-second false b e n = e

-- ---- what each rule says
pub record Pcm (f : Format) : Type 0 where
  pub bits : (eqb f.bits 8 || eqb f.bits 16) ≡ true
  pub align : f.align ≡ f.channels * f.bits / 8
  pub samples : f.samples ≡ 1

pub record Blocked (f : Format) : Type 0 where
  pub bits : f.bits ≡ 4
  pub least : 8 * f.channels ≤ f.align
  pub most : f.align ≤ 4096

pub record Ima (f : Format) : Type 0 where
  pub sized : Blocked f
  pub whole : f.align % (4 * f.channels) ≡ 0
  pub samples : f.samples ≡ ima_samples f.channels f.align

pub record Microsoft (f : Format) : Type 0 where
  pub tag : f.tag ≡ 2
  pub sized : Blocked f
  pub samples : f.samples ≡ ms_samples f.channels f.align

pcm-says : (f : Format) → pcm_rule f ≡ true → Pcm f
unfolding pcm_rule
pcm-says f e =
    let a : Bool = eqb f.bits 8 || eqb f.bits 16 in
    let b : Bool = eqb f.align (f.channels * f.bits / 8) in
    let p = and_both (a && b) (eqb f.samples 1) e in
    let q = and_both a b p.0 in
    record {
      bits = q.0;
      align = eqb-true f.align (f.channels * f.bits / 8) q.1;
      samples = eqb-true f.samples 1 p.1;
    }

blocked-says : (f : Format) → blocked f ≡ true → Blocked f
unfolding blocked
blocked-says f e =
    let p = and_both (eqb f.bits 4 && leb (8 * f.channels) f.align) (leb f.align 4096) e in
    let q = and_both (eqb f.bits 4) (leb (8 * f.channels) f.align) p.0 in
    record {
      bits = eqb-true f.bits 4 q.0;
      least = leb-true (8 * f.channels) f.align q.1;
      most = leb-true f.align 4096 p.1;
    }

ima-says : (f : Format) → ima_rule f ≡ true → Ima f
unfolding ima_rule
ima-says f e =
    let a : ℕ = f.align % (4 * f.channels) in
    let n : ℕ = ima_samples f.channels f.align in
    let p = and_both (blocked f && eqb a 0) (eqb f.samples n) e in
    let q = and_both (blocked f) (eqb a 0) p.0 in
    record { sized = blocked-says f q.0; whole = eqb-true a 0 q.1; samples = eqb-true f.samples n p.1 }

microsoft-says : (f : Format) → f.tag ≡ 2 → microsoft_rule f ≡ true → Microsoft f
unfolding microsoft_rule
microsoft-says f t e =
    let n : ℕ = ms_samples f.channels f.align in
    let p = and_both (blocked f) (eqb f.samples n) e in
    record { tag = t; sized = blocked-says f p.0; samples = eqb-true f.samples n p.1 }

-- ---- a format that is taken
module _ (f : Format) (e : format_rule f ≡ true) where
  parts : (shared f ≡ true) × (by_tag f.tag (pcm_rule f) (ima_rule f) (microsoft_rule f) false ≡ true)
  unfolding format_rule
  parts = and_both (shared f) (by_tag f.tag (pcm_rule f) (ima_rule f) (microsoft_rule f) false) e

  numbers : (1 ≤ f.channels) × (f.channels ≤ 2) × (f.rate ≤ 192000)
  unfolding shared
  numbers =
      let p = and_both (leb 1 f.channels && leb f.channels 2 && leb 1 f.rate) (leb f.rate 192000) parts.0 in
      let q = and_both (leb 1 f.channels && leb f.channels 2) (leb 1 f.rate) p.0 in
      let r = and_both (leb 1 f.channels) (leb f.channels 2) q.0 in
      (leb-true 1 f.channels r.0, leb-true f.channels 2 r.1, leb-true f.rate 192000 p.1)

  pub taken-some : 1 ≤ f.channels
  taken-some = numbers.0

  pub taken-two : f.channels ≤ 2
  taken-two = numbers.1

  pub taken-rate : f.rate ≤ 192000
  taken-rate = numbers.2

  pub taken-pcm : f.tag ≡ 1 → Pcm f
  taken-pcm t =
      let r : by_tag f.tag (pcm_rule f) (ima_rule f) (microsoft_rule f) false ≡ pcm_rule f = simp tests in
      pcm-says f (sym r ∙ parts.1)

  module _ (n : f.tag ≡ 1 → ⊥) where
    pub taken-ima : f.tag ≡ 17 → Ima f
    taken-ima t =
        let r : by_tag f.tag (pcm_rule f) (ima_rule f) (microsoft_rule f) false ≡ ima_rule f = simp tests in
        ima-says f (sym r ∙ parts.1)

    pub taken-microsoft : (f.tag ≡ 17 → ⊥) → Microsoft f
    taken-microsoft m = by_eqb f.tag 2 (λ _. Microsoft f) is other
      where
        is : f.tag ≡ 2 → Microsoft f
        is t =
            let r : by_tag f.tag (pcm_rule f) (ima_rule f) (microsoft_rule f) false ≡ microsoft_rule f = simp tests in
            microsoft-says f t (sym r ∙ parts.1)

        other : (f.tag ≡ 2 → ⊥) → Microsoft f
        other t =
            let r : by_tag f.tag (pcm_rule f) (ima_rule f) (microsoft_rule f) false ≡ false = simp tests in
            absurd (subst T (sym parts.1 ∙ r) tt)

  -- what is so in each of the three is so
  pub by-format : (P : Type 0) → (f.tag ≡ 1 → Pcm f → P) → (f.tag ≡ 17 → Ima f → P) → (f.tag ≡ 2 → Microsoft f → P)
      → P
  by-format P g h k =
      by_eqb f.tag 1 (λ _. P) (λ t. g t (taken-pcm t))
      (λ n.
      by_eqb f.tag 17 (λ _. P) (λ t. h t (taken-ima n t)) (λ m. k (taken-microsoft n m).tag (taken-microsoft n m)))

  -- a block has bytes and samples; of PCM, a frame of bytes or of pairs of them
  module _ (t : f.tag ≡ 1) where
    pub taken-eight : f.bits ≡ 8 → f.align ≡ f.channels
    taken-eight b =
        let k : f.channels * 8 / 8 ≡ f.channels = omega arith in
        (taken-pcm t).align ∙ ap (λ (n : ℕ). f.channels * n / 8) b ∙ k

    pub taken-bits : (f.bits ≡ 8 → ⊥) → f.bits ≡ 16
    taken-bits b =
        eqb-true f.bits 16 (or-second (eqb f.bits 8) (eqb f.bits 16) (taken-pcm t).bits (ne_eqb f.bits 8 b))

    pub taken-sixteen : (f.bits ≡ 8 → ⊥) → f.align ≡ 2 * f.channels
    taken-sixteen b =
        let k : f.channels * 16 / 8 ≡ 2 * f.channels = omega arith in
        (taken-pcm t).align ∙ ap (λ (n : ℕ). f.channels * n / 8) (taken-bits b) ∙ k

    frame-some : 1 ≤ f.align
    frame-some =
        by_eqb f.bits 8 (λ _. 1 ≤ f.align)
        (λ b. omega (arith, taken-eight b, taken-some)) (λ b. omega (arith, taken-sixteen b, taken-some))

  pub taken-align : 1 ≤ f.align
  taken-align =
      by-format (1 ≤ f.align) (λ t p. frame-some t)
      (λ t p. omega (arith, p.sized.least, taken-some)) (λ t p. omega (arith, p.sized.least, taken-some))

  pub taken-samples : 1 ≤ f.samples
  unfolding ima_samples ms_samples
  taken-samples =
      by-format (1 ≤ f.samples)
      (λ t p. omega (arith, p.samples)) (λ t p. omega (arith, p.samples)) (λ t p. omega (arith, p.samples))

-- ---- PCM needs no fact, and every other format does
module _ (f : Format) where
  pub fact-unneeded : f.tag ≡ 1 → needs_fact f ≡ false
  unfolding needs_fact
  fact-unneeded t = simp tests

  pub fact-wanted : (f.tag ≡ 1 → ⊥) → needs_fact f ≡ true
  unfolding needs_fact
  fact-wanted t = simp tests

  pub unneeded-tag : needs_fact f ≡ false → f.tag ≡ 1
  unfolding needs_fact
  unneeded-tag e = eqb-true f.tag 1 (not-false (eqb f.tag 1) e)

  pub wanted-tag : needs_fact f ≡ true → f.tag ≡ 1 → ⊥
  unfolding needs_fact
  wanted-tag e = eqb-false f.tag 1 (not-true (eqb f.tag 1) e)

-- ---- f frames fit b blocks of s samples
module _ (b s f : ℕ) (e : count_fits b s f ≡ true) where
  count_most : f ≤ b * s
  unfolding count_fits
  count_most =
      by_eqb b 0 (λ q. cond q (eqb f 0) (ltb ((b - 1) * s) f && leb f (b * s)) ≡ true → f ≤ b * s)
      (λ z r. omega (arith, eqb-true f 0 r))
      (λ z r. leb-true f (b * s) (and_both (ltb ((b - 1) * s) f) (leb f (b * s)) r).1) e

  count-begun : (k : ℕ) → k < b → k * s < f
  unfolding count_fits
  count-begun k h =
      by_eqb b 0 (λ q. cond q (eqb f 0) (ltb ((b - 1) * s) f && leb f (b * s)) ≡ true → k * s < f)
      (λ z r. absurd (omega arith))
      (λ z r.
      let m : k * s ≤ (b - 1) * s = mul-le-mul_right s (omega arith) in
      let l : (b - 1) * s < f = ltb-true ((b - 1) * s) f (and_both (ltb ((b - 1) * s) f) (leb f (b * s)) r).0 in
      omega arith) e

-- ---- n bytes of sound, and their frames m
module _ (f : Format) (n : BytePlace) where
  pub whole_says : whole_blocks f n ≡ true → n.0 ≡ blocks_in f n * f.align
  unfolding whole_blocks blocks_in
  whole_says e =
      let p = and_both (leb 1 f.align) (eqb (n.0 % f.align) 0) e in
      omega (arith, div-add-mod' n.0 f.align, eqb-true (n.0 % f.align) 0 p.1)

  module _ (m : Frames) (e : frames_rule f n m ≡ true) where
    pub frames-exactly : f.tag ≡ 1 → m.0 ≡ blocks_in f n
    unfolding frames_rule
    frames-exactly t =
        let r : cond (eqb f.tag 1) (eqb m.0 (blocks_in f n)) (count_fits (blocks_in f n) f.samples m.0)
        ≡ eqb m.0 (blocks_in f n) = simp tests in
        eqb-true m.0 (blocks_in f n) (sym r ∙ e)

    counted : (f.tag ≡ 1 → ⊥) → count_fits (blocks_in f n) f.samples m.0 ≡ true
    unfolding frames_rule
    counted t =
        let r : cond (eqb f.tag 1) (eqb m.0 (blocks_in f n)) (count_fits (blocks_in f n) f.samples m.0)
        ≡ count_fits (blocks_in f n) f.samples m.0 = simp tests in
        sym r ∙ e

    pub frames-begun : (k : ℕ) → (f.tag ≡ 1 → ⊥) → k < blocks_in f n → k * f.samples < m.0
    frames-begun k t = count-begun (blocks_in f n) f.samples m.0 (counted t) k

    pub frames-most : format_rule f ≡ true → m.0 ≤ blocks_in f n * f.samples
    frames-most g =
        by_eqb f.tag 1 (λ _. m.0 ≤ blocks_in f n * f.samples)
        (λ t.
        let s = ap (λ (k : ℕ). blocks_in f n * k) (taken-pcm f g t).samples in
        omega (arith, frames-exactly t, mul-one (blocks_in f n)))
        (λ t. count_most (blocks_in f n) f.samples m.0 (counted t))
