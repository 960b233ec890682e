-- The loops that code a channel, two samples to a byte: what is left to do makes the whole, and every turn does
-- two samples of it. Assumes nothing.
use mathlib.Core.Path.{◌≡◌, refl, sym, ap, ◌∙◌}
use mathlib.Core.Bool.{Bool, true, cond, ◌&&◌}
use mathlib.Core.List.{List, ◌∷◌, ◌++◌}
use Prim.Native.Nat.{ℕ, zero, suc, ◌+◌, ◌-◌, ◌*◌, ◌≤◌, ◌<◌, min}
use native.Mathlib.Omega.{arith}
use native.Mathlib.Nat.{mul-suc, add-zero, sub-zero}
use lib.Dec.{ltb}
use borrow.Author.Tests.{lt-ltb, le-ltb}
use lib.IntN.{ℤ}
use lib.ListN.{length, set, take}
use mir.Syntax.{w16}
use mir.Val.{SFits}
use mir.Facts.{to_z-of_z}
use Rattle.little.specs.Writing.{Put}
use Rattle.little.proofs.Filling.{Filled, filled_none, filled-store, filled_put}
use Rattle.samples.proofs.Signed.{by-ltb, back}
use Rattle.ima_code.specs.declared.ImaState.{ImaState}
use Rattle.ima_code.specs.declared.SampleCode.{SampleCode}
use Rattle.ima_code.specs.Code.{code_for, tracked, is_chased}
use Rattle.ima_code.specs.Machine.{codes_of, after, chased_of}
use Rattle.ima_coder.specs.declared.Channel.{Channel}
use Rattle.ima_coder.specs.declared.Two.{Two}
use Rattle.ima_coder.specs.Part.{samples_from, packed, count_of, channel_after}
use Rattle.ima_coder.proofs.Taken.{sample, bytes_of, bytes-none, channel-none}

abbrev pub channel : ImaState → ℕ → Channel
channel t n = record { state = t; chased = n }

-- a sample as a signed local of the code
abbrev local : List ℤ → ℕ → ℤ
local s x = back w16 (sample s x)

-- n bytes of a channel go to index to of out₀, from the samples at index at on, of which the first left are there.
-- In out the first i bytes are written; the channel is in state t, the next sample is at index x, and the next there
-- are the sound's
pub record Coding (s : List ℤ) (stride last left at n to : ℕ) (t₀ : ImaState) (chased₀ : ℕ) (out₀ : List ℕ)
    (t : ImaState) (chased there x i : ℕ) (out : List ℕ) : Type 0 where
  pub upto : i ≤ n
  pub small : n ≤ 4096
  pub some : 1 ≤ stride
  pub two : stride ≤ 2
  pub good : t.index < 89
  pub room : to + n ≤ length out₀
  pub few : chased ≤ chased₀ + 2 * i
  pub fits : chased₀ + 2 * n < 4294967296
  pub start : at ≤ 4294967296
  pub near : x ≤ at + 4 * i
  pub ends : channel_after (channel t chased) there (samples_from s stride last x (2 * (n - i)))
      ≡ channel_after (channel t₀ chased₀) left (samples_from s stride last at (2 * n))
  pub filled : Filled (take to out₀ ++ bytes_of t₀ (samples_from s stride last at (2 * n)))
      (bytes_of t (samples_from s stride last x (2 * (n - i)))) (to + i) out out₀

-- every sample is there
pub record Real (s : List ℤ) (stride last at n to : ℕ) (t₀ : ImaState) (chased₀ : ℕ) (out₀ : List ℕ)
    (t : ImaState) (chased x i : ℕ) (out : List ℕ) : Type 0 where
  pub there : last < length s
  pub inside : stride * (2 * (n - i)) ≤ last + stride - x
  pub coding : Coding s stride last (2 * n) at n to t₀ chased₀ out₀ t chased (2 * (n - i)) x i out

-- past the sound the last sample is repeated
pub record Fill (s : List ℤ) (stride last left at n to : ℕ) (t₀ : ImaState) (chased₀ : ℕ) (out₀ : List ℕ)
    (t : ImaState) (chased x i : ℕ) (out : List ℕ) : Type 0 where
  pub inside : last < length s
  pub coding : Coding s stride last left at n to t₀ chased₀ out₀ t chased (left - 2 * i) x i out

-- ---- nothing is coded yet
module _ {s : List ℤ} {stride last left at n to : ℕ} {t₀ : ImaState} {chased₀ : ℕ} {out₀ : List ℕ} where
  begins : at ≤ 4294967296 → 1 ≤ stride → stride ≤ 2 → n ≤ 4096 → to + n ≤ length out₀
      → t₀.index < 89 → chased₀ + 2 * n < 4294967296
      → Coding s stride last left at n to t₀ chased₀ out₀ t₀ chased₀ left at 0 out₀
  begins b o c d e f g =
      record {
        upto = omega arith;
        small = d;
        some = o;
        two = c;
        good = f;
        room = e;
        few = omega arith;
        fits = g;
        start = b;
        near = omega arith;
        ends = rw (sub-zero n) refl;
        filled = rw (sub-zero n, add-zero to) (filled_none (omega arith));
      }

  pub fill_begins : last < length s → at ≤ 4294967296 → 1 ≤ stride → stride ≤ 2 → n ≤ 4096 → to + n ≤ length out₀
      → t₀.index < 89 → chased₀ + 2 * n < 4294967296
      → Fill s stride last left at n to t₀ chased₀ out₀ t₀ chased₀ at 0 out₀
  fill_begins a b o c d e f g = record { inside = a; coding = rw (sub-zero left) (begins b o c d e f g) }

module _ {s : List ℤ} {stride last at n to : ℕ} {t₀ : ImaState} {chased₀ : ℕ} {out₀ : List ℕ} where
  pub real-begins : last < length s → stride * (2 * n) ≤ last + stride - at → at ≤ 4294967296 → 1 ≤ stride → stride ≤ 2
      → n ≤ 4096 → to + n ≤ length out₀ → t₀.index < 89 → chased₀ + 2 * n < 4294967296
      → Real s stride last at n to t₀ chased₀ out₀ t₀ chased₀ at 0 out₀
  real-begins h a b o c d e f g =
      record { there = h; inside = rw (sub-zero n) a; coding = rw (sub-zero n) (begins b o c d e f g) }

-- ---- two samples
two-left : {n i : ℕ} → i < n → 2 * (n - i) ≡ suc (suc (2 * (n - (i + 1))))
two-left h = omega arith

-- what is left of b behind a
left_below : (a b : ℕ) → ltb 0 (b - a) ≡ ltb a b
left_below a b =
    by-ltb a b (λ c. ltb 0 (b - a) ≡ c) (λ h. lt-ltb 0 (b - a) (omega arith)) (λ h. le-ltb 0 (b - a) (omega arith))

left-next : (a b : ℕ) → ltb 1 (b - a) ≡ ltb (a + 1) b
left-next a b =
    by-ltb (a + 1) b (λ c. ltb 1 (b - a) ≡ c)
    (λ h. lt-ltb 1 (b - a) (omega arith)) (λ h. le-ltb 1 (b - a) (omega arith))

-- a sample is counted where it is there and chased
count_next : (n there : ℕ) (b : Bool) (bs : List Bool)
    → n + count_of (take there (b ∷ bs)) ≡ n + cond (ltb 0 there && b) 1 0 + count_of (take (there - 1) bs)
unfolding count_of
count_next n zero b bs =
    let e : 0 - 1 ≡ 0 = omega arith in
    omega (arith, ap (λ (k : ℕ). count_of (take k bs)) e)
count_next n (suc m) b bs =
    let e : suc m - 1 ≡ m = omega arith in
    let f : n + (cond b 1 0 + count_of (take m bs)) ≡ n + cond b 1 0 + count_of (take m bs) = omega arith in
    let g : ltb 0 (suc m) ≡ true = lt-ltb 0 (suc m) (omega arith) in
    rw (g, e) f

after_next : (t : ImaState) (n there : ℕ) (y : ℤ) (ys : List ℤ)
    → channel_after (channel t n) there (y ∷ ys)
    ≡ channel_after (channel (tracked t y) (n + cond (ltb 0 there && is_chased t y) 1 0)) (there - 1) ys
unfolding channel_after after chased_of
after_next t n there y ys =
    ap (λ (k : ℕ). channel (after (tracked t y) ys) k) (count_next n there (is_chased t y) (chased_of (tracked t y) ys))

taken-two : (s : List ℤ) (stride last x : ℕ) {n i : ℕ} → i < n
    → samples_from s stride last x (2 * (n - i))
    ≡ sample s (min x last) ∷ sample s (min (x + stride) last)
    ∷ samples_from s stride last (x + (stride + stride)) (2 * (n - (i + 1)))
unfolding samples_from
taken-two s stride last x {n} {i} h =
    let m : ℕ = 2 * (n - (i + 1)) in
    let e : x + stride + stride ≡ x + (stride + stride) = omega arith in
    ap (samples_from s stride last x) (two-left h)
    ∙ ap (λ (k : ℕ). sample s (min x last) ∷ sample s (min (x + stride) last) ∷ samples_from s stride last k m) e

-- two samples on: the channel, and the byte of their codes
module _ (t : ImaState) {ta tb : ImaState} (y z : ℤ) (rest : List ℤ) where
  two-after : (chased : ℕ) {u v : ℕ} (there : ℕ) → ta ≡ tracked t y → u ≡ cond (ltb 0 there && is_chased t y) 1 0
      → tb ≡ tracked ta z → v ≡ cond (ltb 1 there && is_chased ta z) 1 0
      → channel_after (channel t chased) there (y ∷ z ∷ rest)
      ≡ channel_after (channel tb (chased + u + v)) (there - 2) rest
  two-after chased there ea eu eb ev =
      let b : there - 1 - 1 ≡ there - 2 = omega arith in
      rw (eb, eu, ev, ea, ← (left_below 1 there), ← b)
      (after_next t chased there y (z ∷ rest) ∙ after_next (tracked t y) _ (there - 1) z rest)

  two-codes : {k l : ℕ} → k ≡ code_for t y → ta ≡ tracked t y → l ≡ code_for ta z → tb ≡ tracked ta z
      → bytes_of t (y ∷ z ∷ rest) ≡ (k + 16 * l) ∷ bytes_of tb rest
  unfolding packed codes_of
  two-codes ek ea el eb = rw (eb, ek, el, ea) refl

module _ {s : List ℤ} {stride last left at n to : ℕ} {t₀ : ImaState} {chased₀ : ℕ} {out₀ : List ℕ}
    {t : ImaState} {chased there x i : ℕ} {out : List ℕ}
    (w : Coding s stride last left at n to t₀ chased₀ out₀ t chased there x i out) (h : i < n) where
  coding-next : (y z : ℤ) {k l u v : ℕ} {ta tb : ImaState}
      → y ≡ sample s (min x last) → z ≡ sample s (min (x + stride) last)
      → k ≡ code_for t y → ta ≡ tracked t y → u ≡ cond (ltb 0 there && is_chased t y) 1 0
      → l ≡ code_for ta z → tb ≡ tracked ta z → v ≡ cond (ltb 1 there && is_chased ta z) 1 0
      → u ≤ 1 → v ≤ 1 → tb.index < 89
      → Coding s stride last left at n to t₀ chased₀ out₀ tb (chased + u + v) (there - 2)
      (x + (stride + stride)) (i + 1) (set out (to + i) (k + 16 * l))
  coding-next y z {k} {l} {u} {v} {ta} {tb} ey ez ek eta eu el etb ev bu bv g =
      let rest : List ℤ = samples_from s stride last (x + (stride + stride)) (2 * (n - (i + 1))) in
      let e : samples_from s stride last x (2 * (n - i)) ≡ y ∷ z ∷ rest =
      taken-two s stride last x h
      ∙ ap (λ (q : ℤ). q ∷ sample s (min (x + stride) last) ∷ rest) (sym ey)
      ∙ ap (λ (q : ℤ). y ∷ q ∷ rest) (sym ez) in
      record {
        upto = omega arith;
        small = w.small;
        some = w.some;
        two = w.two;
        good = g;
        room = w.room;
        few = omega (arith, w.few);
        fits = w.fits;
        start = w.start;
        near = omega (arith, w.near, w.two);
        ends =
            sym (two-after t y z rest chased there eta eu etb ev)
            ∙ ap (channel_after (channel t chased) there) (sym e) ∙ w.ends;
        filled =
            filled-store w.filled (ap (bytes_of t) e ∙ two-codes t y z rest ek eta el etb)
            (omega (arith, w.room, w.filled.long)) (omega arith);
      }

-- ---- nothing is left
module _ {s : List ℤ} {stride last left at n to : ℕ} {t₀ : ImaState} {chased₀ : ℕ} {out₀ : List ℕ}
    {t : ImaState} {chased there x i : ℕ} {out : List ℕ}
    (w : Coding s stride last left at n to t₀ chased₀ out₀ t chased there x i out) (h : n ≤ i) where
  none : 2 * (n - i) ≡ 0
  none = omega arith

  ends-after : channel t chased ≡ channel_after (channel t₀ chased₀) left (samples_from s stride last at (2 * n))
  ends-after = sym (channel-none s stride last x (channel t chased) there) ∙ rw none at w.ends

  ends-put : Put out₀ to (bytes_of t₀ (samples_from s stride last at (2 * n))) out
  ends-put = filled_put (rw (none, bytes-none s stride last x t) at w.filled) (omega (arith, w.room))

-- ---- a turn where every sample is there
module _ {s : List ℤ} {stride last at n to : ℕ} {t₀ : ImaState} {chased₀ : ℕ} {out₀ : List ℕ}
    {t : ImaState} {chased x i : ℕ} {out : List ℕ}
    (w : Real s stride last at n to t₀ chased₀ out₀ t chased x i out) (h : i < n) where
  two-strides : stride * (2 * (n - (i + 1))) + stride + stride ≤ last + stride - x
  two-strides =
      let m : ℕ = 2 * (n - (i + 1)) in
      omega (arith, w.inside, ap (λ (k : ℕ). stride * k) (two-left h), mul-suc stride (suc m), mul-suc stride m)

  pub real-first : x < length s
  real-first = omega (arith, two-strides, w.coding.some, w.there)

  pub real-second : x + stride < length s
  real-second = omega (arith, two-strides, w.coding.some, w.there)

  pub real-next : {a b : SampleCode} {u v : ℕ} → SFits w16 (sample s x) → SFits w16 (sample s (x + stride))
      → a.code ≡ code_for t (local s x) → a.state ≡ tracked t (local s x) → a.chased ≡ is_chased t (local s x)
      → b.code ≡ code_for a.state (local s (x + stride)) → b.state ≡ tracked a.state (local s (x + stride))
      → b.chased ≡ is_chased a.state (local s (x + stride)) → b.state.index < 89
      → u ≡ cond (true && a.chased) 1 0 → u ≤ 1 → v ≡ cond (true && b.chased) 1 0 → v ≤ 1
      → Real s stride last at n to t₀ chased₀ out₀ b.state (chased + u + v)
      (x + (stride + stride)) (i + 1) (set out (to + i) (a.code + 16 * b.code))
  real-next {a} {b} {u} {v} fy fz ek eta ec el etb ed g eu bu ev bv =
      let p : min x last ≡ x = omega (arith, two-strides) in
      let q : min (x + stride) last ≡ x + stride = omega (arith, two-strides, w.coding.some) in
      let r : 2 * (n - (i + 1)) ≡ 2 * (n - i) - 2 = omega arith in
      let c : ltb 0 (2 * (n - i)) ≡ true = lt-ltb 0 (2 * (n - i)) (omega arith) in
      let d : ltb 1 (2 * (n - i)) ≡ true = lt-ltb 1 (2 * (n - i)) (omega arith) in
      record {
        there = w.there;
        inside = omega (arith, two-strides);
        coding =
            rw r
            (coding-next w.coding h (sample s x) (sample s (x + stride))
            (ap (sample s) (sym p)) (ap (sample s) (sym q))
            (rw (to_z-of_z fy) at ek) (rw (to_z-of_z fy) at eta) (rw (c, ← (rw (to_z-of_z fy) at ec)) eu)
            (rw (to_z-of_z fz) at el) (rw (to_z-of_z fz) at etb) (rw (d, ← (rw (to_z-of_z fz) at ed)) ev) bu bv g);
      }

module _ {s : List ℤ} {stride last at n to : ℕ} (p : Channel) {out₀ : List ℕ} {t : ImaState} {chased x i : ℕ} {out : List ℕ}
    (w : Real s stride last at n to p.state p.chased out₀ t chased x i out) (h : n ≤ i) where
  pub real-after : channel t chased ≡ channel_after p (2 * n) (samples_from s stride last at (2 * n))
  real-after = ends-after w.coding h

  pub real-put : Put out₀ to (bytes_of p.state (samples_from s stride last at (2 * n))) out
  real-put = ends-put w.coding h

pub ruleset real-coding = (real-begins, real-first, real-next, real-after, real-put)

-- ---- a turn where the last sample is repeated past the sound
module _ {s : List ℤ} {stride last left at n to : ℕ} {t₀ : ImaState} {chased₀ : ℕ} {out₀ : List ℕ}
    {t : ImaState} {chased x i : ℕ} {out : List ℕ}
    (w : Fill s stride last left at n to t₀ chased₀ out₀ t chased x i out) (h : i < n) where
  pub fill-next : {y z : ℕ} {p : Two} {u v : ℕ} → y ≡ min x last → z ≡ min (x + stride) last
      → SFits w16 (sample s y) → SFits w16 (sample s z)
      → p.byte ≡ code_for t (local s y) + 16 * code_for (tracked t (local s y)) (local s z)
      → p.first ≡ is_chased t (local s y) → p.second ≡ is_chased (tracked t (local s y)) (local s z)
      → p.state ≡ tracked (tracked t (local s y)) (local s z) → p.state.index < 89
      → u ≡ cond (ltb (2 * i) left && p.first) 1 0 → u ≤ 1
      → v ≡ cond (ltb (2 * i + 1) left && p.second) 1 0 → v ≤ 1
      → Fill s stride last left at n to t₀ chased₀ out₀ p.state (chased + u + v)
      (x + (stride + stride)) (i + 1) (set out (to + i) p.byte)
  fill-next {y} {z} {p} {u} {v} ey ez fy fz ek ec ed et g eu bu ev bv =
      let r : left - 2 * (i + 1) ≡ left - 2 * i - 2 = omega arith in
      let c : ltb 0 (left - 2 * i) ≡ ltb (2 * i) left = left_below (2 * i) left in
      let d : ltb 1 (left - 2 * i) ≡ ltb (2 * i + 1) left = left-next (2 * i) left in
      record {
        inside = w.inside;
        coding =
            rw (r, rw (to_z-of_z fy, to_z-of_z fz) at ek)
            (coding-next w.coding h (sample s y) (sample s z) (ap (sample s) ey) (ap (sample s) ez)
            refl refl (rw (c, ← (rw (to_z-of_z fy) at ec)) eu)
            refl (rw (to_z-of_z fy, to_z-of_z fz) at et) (rw (d, ← (rw (to_z-of_z fy, to_z-of_z fz) at ed)) ev) bu bv g);
      }

module _ {s : List ℤ} {stride last left at n to : ℕ} (p : Channel) {out₀ : List ℕ}
    {t : ImaState} {chased x i : ℕ} {out : List ℕ}
    (w : Fill s stride last left at n to p.state p.chased out₀ t chased x i out) (h : n ≤ i) where
  pub fill-after : channel t chased ≡ channel_after p left (samples_from s stride last at (2 * n))
  fill-after = ends-after w.coding h

  pub fill-put : Put out₀ to (bytes_of p.state (samples_from s stride last at (2 * n))) out
  fill-put = ends-put w.coding h

pub ruleset fill-coding = (fill_begins, fill-next, fill-after, fill-put)
