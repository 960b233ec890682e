-- Laws of the parts of a block's channels: where the bytes of each stand, what its header says, and the
-- check of the headers. Assumes nothing.
use mathlib.Core.Path.{◌≡◌, refl, sym, ap, ◌∙◌}
use mathlib.Core.Bool.{true}
use mathlib.Core.List.{List, [], ◌∷◌}
use Prim.Native.Nat.{ℕ, ◌+◌, ◌-◌, ◌*◌, ◌/◌, ◌%◌, ◌≤◌, ◌<◌}
use native.Mathlib.Nat.{add-zero, mul-zero, one-mul, mul-div-le, le-div_iff_mul-le}
use native.Mathlib.Omega.{arith}
use lib.Dec.{leb}
use lib.ListN.{length, drop, get_or, length-drop}
use lib.Seq.{get_or-drop}
use borrow.Author.Tests.{leb-true}
use Rattle.little.specs.Numbers.{number_at}
use Rattle.little.proofs.Reading.{two_bytes}
use Rattle.lists.specs.Turns.{picked}
use Rattle.lists.proofs.Turns.{picked-turn, turn_one, picked-at, picked-long}
use Rattle.samples.specs.Sound.{signed_of, sample_at}
use Rattle.codec.specs.Codec.{headers_valid}
use Rattle.codec.proofs.Channels.{each-valid}
use Rattle.ima_code.specs.declared.ImaState.{ImaState}
use Rattle.ima_block.specs.Block.{channel_part, ima_opened, ima}

-- ---- mono: the part of the one channel is the block
pub part-one : (s : List ℕ) → length s % 4 ≡ 0 → channel_part 1 s 0 ≡ s
unfolding channel_part
part-one s e =
    let n : length s ≡ 4 * (length s / 4) = omega arith in
    ap (λ (l : List ℕ). picked 4 4 l 0 (length s / 4)) (sym (turn_one 4 (length s / 4) s n))
    ∙ picked-turn 4 (length s / 4) (s ∷ []) 0 (n, tt) (omega arith)

-- ---- a channel's part: how long it is, and its byte j
module _ (c : ℕ) (s : List ℕ) (ch : ℕ) (h : ch < c) where
  inside : 4 * ch + 4 * c * (length s / (4 * c)) + 4 ≤ length s + 4 * c
  inside = omega (arith, mul-div-le (length s) (4 * c))

  pub part-long : length (channel_part c s ch) ≡ 4 * (length s / (4 * c))
  unfolding channel_part
  part-long = picked-long (4 * c) s (4 * ch) (length s / (4 * c)) inside

  part_at : (j : ℕ) → j < 4 * (length s / (4 * c))
      → get_or (channel_part c s ch) j 0 ≡ get_or s (4 * ch + 4 * c * (j / 4) + j % 4) 0
  unfolding channel_part
  part_at j g = picked-at (4 * c) s (4 * ch) (length s / (4 * c)) j 0 inside g

  -- ---- its header
  module _ (g : 4 * c ≤ length s) where
    head_at : (j : ℕ) → j < 4 → get_or (channel_part c s ch) j 0 ≡ get_or s (4 * ch + j) 0
    head_at j l =
        let n : 1 ≤ length s / (4 * c) = (le-div_iff_mul-le {k = 4 * c} {x = 1} {y = length s} (omega arith)).1 (omega (arith, one-mul (4 * c))) in
        let q : j / 4 ≡ 0 = omega arith in
        let e : 4 * ch + 4 * c * (j / 4) + j % 4 ≡ 4 * ch + j = omega (arith, ap (λ (m : ℕ). 4 * c * m) q, mul-zero (4 * c)) in
        part_at j (omega arith) ∙ ap (λ (m : ℕ). get_or s m 0) e

    opened-at : {t : ImaState} → t.last ≡ sample_at s (4 * ch) → t.index ≡ get_or s (4 * ch + 2) 0 → t ≡ ima_opened (channel_part c s ch)
    unfolding ima_opened sample_at
    opened-at e f =
        let p : List ℕ = channel_part c s ch in
        let z = head_at 0 (omega arith) ∙ ap (λ (m : ℕ). get_or s m 0) (add-zero (4 * ch)) in
        let n : number_at 2 s (4 * ch) ≡ number_at 2 p 0 = sym (two_bytes s (4 * ch) z (head_at 1 (omega arith))) ∙ two_bytes p 0 refl refl in
        λ j. record { last = (e ∙ ap signed_of n) j; index = (f ∙ sym (head_at 2 (omega arith))) j }

    valid-at : ima.valid c s ch ≡ leb (get_or s (4 * ch + 2) 0) 88
    unfolding ima_opened
    valid-at = ap (λ (k : ℕ). leb k 88) (head_at 2 (omega arith))

    pub header-is : leb (get_or s (4 * ch + 2) 0) 88 ≡ ima.valid c s ch
    header-is = sym valid-at

    index_at : headers_valid ima c s ≡ true → get_or s (4 * ch + 2) 0 < 89
    index_at e = omega (arith, leb-true (get_or s (4 * ch + 2) 0) 88 (sym valid-at ∙ each-valid ima s e ch h))

-- ---- stereo: the codes stand behind the header
module _ (s : List ℕ) (ch : ℕ) (c : ch < 2) (e : length s % 8 ≡ 0) where
  pub codes-long : 2 * length (drop 4 (channel_part 2 s ch)) ≡ length s - 8
  codes-long = omega (arith, part-long 2 s ch c, length-drop 4 (channel_part 2 s ch))

  pub code_at : (i : ℕ) → 2 * i + 8 < length s
      → get_or (drop 4 (channel_part 2 s ch)) i 0 ≡ get_or s (8 + i + 4 * (i / 4) + 4 * ch) 0
  code_at i h =
      let p : 4 * ch + 8 * ((4 + i) / 4) + (4 + i) % 4 ≡ 8 + i + 4 * (i / 4) + 4 * ch = omega arith in
      get_or-drop 4 (channel_part 2 s ch) i 0 ∙ part_at 2 s ch c (4 + i) (omega arith) ∙ ap (λ (k : ℕ). get_or s k 0) p

-- ---- a channel as its header says, and its index
module _ (s : List ℕ) where
  module _ (h : 4 ≤ length s) where
    pub opened_one : {t : ImaState} → t.last ≡ sample_at s 0 → t.index ≡ get_or s 2 0 → t ≡ ima_opened (channel_part 1 s 0)
    opened_one = opened-at 1 s 0 (omega arith) h

    pub index-one : headers_valid ima 1 s ≡ true → get_or s 2 0 < 89
    index-one = index_at 1 s 0 (omega arith) h

  module _ (h : 8 ≤ length s) where
    pub opened-left : {t : ImaState} → t.last ≡ sample_at s 0 → t.index ≡ get_or s 2 0 → t ≡ ima_opened (channel_part 2 s 0)
    opened-left = opened-at 2 s 0 (omega arith) h

    pub opened-right : {t : ImaState} → t.last ≡ sample_at s 4 → t.index ≡ get_or s 6 0 → t ≡ ima_opened (channel_part 2 s 1)
    opened-right = opened-at 2 s 1 (omega arith) h

    pub index-left : headers_valid ima 2 s ≡ true → get_or s 2 0 < 89
    index-left = index_at 2 s 0 (omega arith) h

    pub index-right : headers_valid ima 2 s ≡ true → get_or s 6 0 < 89
    index-right = index_at 2 s 1 (omega arith) h
