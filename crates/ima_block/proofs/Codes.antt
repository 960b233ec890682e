-- Laws of the loop over the codes of two channels: where their bytes stand, and that every turn writes the two frames of a byte
-- of each. Assumes nothing.
use mathlib.Core.Path.{◌≡◌, refl, sym, ap, ◌∙◌}
use mathlib.Core.List.{List}
use Prim.Native.Nat.{ℕ, suc, ◌+◌, ◌-◌, ◌*◌, ◌^◌, ◌/◌, ◌%◌, ◌≤◌, ◌<◌}
use native.Mathlib.Nat.{add-zero}
use native.Mathlib.Omega.{arith}
use lib.IntN.{ℤ}
use lib.ListN.{length, drop, get_or, set}
use mir.Syntax.{w16}
use mir.Val.{SFits}
use mir.Facts.{to_z-of_z}
use Rattle.little.specs.Writing.{Put}
use Rattle.samples.proofs.Signed.{back}
use Rattle.codec.specs.Codec.{low, high, nibbles}
use Rattle.codec.proofs.Heard.{nibbles-long, first-at, second_at}
use Rattle.codec.proofs.Loops.{Double, both_left, double-begins, double-frame, double-ends}
use Rattle.ima_code.specs.declared.ImaState.{ImaState}
use Rattle.ima_code.specs.Code.{after_code}
use Rattle.ima_block.specs.Block.{channel_part, ima}
use Rattle.ima_block.proofs.Parts.{codes-long, code_at}

-- a channel whose index is one of the table
abbrev pub Indexed : ImaState → Type 0
Indexed t = t.index < 89

abbrev bytes_for : List ℕ → ℕ → List ℕ
bytes_for s ch = drop 4 (channel_part 2 s ch)

abbrev codes_for : List ℕ → ℕ → List ℕ
codes_for s ch = nibbles low high (bytes_for s ch)

-- where byte i of the left channel stands; that of the right channel stands four further
abbrev place_of : ℕ → ℕ
place_of i = 8 + i + 4 * (i / 4)

-- n frames are left, from byte i of each channel on
pub record Stereo (s : List ℕ) (frames : ℕ) (out₀ : List ℤ) (at : ℕ) (l₀ r₀ : ImaState)
    (out : List ℤ) (l r : ImaState) (n to i : ℕ) : Type 0 where
  pub eights : length s % 8 ≡ 0
  pub bytes : n + 2 * i + 8 ≤ length s
  pub room : to + 2 * n ≤ length out
  pub small : length s + 2 * length out < 2 ^ 64
  pub both : Double ima Indexed (codes_for s 0) (codes_for s 1) frames out₀ at l₀ r₀ out l r n to (2 * i)

module _ {s : List ℕ} {frames : ℕ} {out₀ : List ℤ} {at : ℕ} {l₀ r₀ : ImaState} where
  pub stereo-begins : frames + 8 ≤ length s → length s % 8 ≡ 0 → at + 2 * frames ≤ length out₀
      → length s * 1 < 2 ^ 63 → length out₀ * 2 < 2 ^ 63 → Indexed l₀ → Indexed r₀
      → {n to : ℕ} → n ≡ frames → to ≡ at → Stereo s frames out₀ at l₀ r₀ out₀ l₀ r₀ n to 0
  stereo-begins h e m u v g k n' to' =
      let enough : (ch : ℕ) → ch < 2 → frames ≤ length (codes_for s ch) =
      λ ch c. omega (arith, codes-long s ch c e, nibbles-long low high (bytes_for s ch)) in
      rw (n', to')
      (record {
        eights = e;
        bytes = omega arith;
        room = m;
        small = omega arith;
        both = double-begins (enough 0 (omega arith)) (enough 1 (omega arith)) m g k;
      })

  module _ {out : List ℤ} {l r : ImaState} {n to i : ℕ} (w : Stereo s frames out₀ at l₀ r₀ out l r n to i) where
    -- the codes of the next byte of each channel
    module _ (h : 1 ≤ n) where
      module _ (ch : ℕ) (c : ch < 2) where
        behind : i < length (bytes_for s ch)
        behind = omega (arith, codes-long s ch c w.eights, w.bytes)

        byte-is : get_or (bytes_for s ch) i 0 ≡ get_or s (place_of i + 4 * ch) 0
        byte-is = code_at s ch c w.eights i (omega (arith, w.bytes))

        low-is : low (get_or s (place_of i + 4 * ch) 0) ≡ get_or (codes_for s ch) (2 * i) 0
        low-is = sym (first-at low high (bytes_for s ch) i behind ∙ ap low byte-is)

        high_is : high (get_or s (place_of i + 4 * ch) 0) ≡ get_or (codes_for s ch) (2 * i + 1) 0
        high_is = sym (second_at low high (bytes_for s ch) i behind ∙ ap high byte-is)

      left-place : place_of i ≡ place_of i + 4 * 0
      left-place = sym (add-zero (place_of i))

      -- a frame: the low code of each
      stereo-low : {a b : ImaState} → a ≡ after_code l (get_or s (place_of i) 0 % 16) → b ≡ after_code r (get_or s (place_of i + 4) 0 % 16)
          → Indexed a → Indexed b
          → Double ima Indexed (codes_for s 0) (codes_for s 1) frames out₀ at l₀ r₀
          (set (set out to a.last) (to + 1) b.last) a b (n - 1) (to + 2) (2 * i + 1)
      stereo-low e f x y =
          double-frame w.both (omega arith) refl refl refl
          (e ∙ ap (λ (p : ℕ). after_code l (low (get_or s p 0))) left-place ∙ ap (after_code l) (low-is 0 (omega arith)))
          (f ∙ ap (after_code r) (low-is 1 (omega arith))) x y

    -- and the high one: a turn
    pub stereo-turn : {a b c d : ImaState} {j k q : ℕ} → 2 ≤ n → j ≡ n - 2 → k ≡ to + 4 → q ≡ i + 1
        → a ≡ after_code l (get_or s (place_of i) 0 % 16) → b ≡ after_code r (get_or s (place_of i + 4) 0 % 16)
        → c ≡ after_code a (get_or s (place_of i) 0 / 16) → d ≡ after_code b (get_or s (place_of i + 4) 0 / 16)
        → Indexed a → Indexed b → Indexed c → Indexed d
        → SFits w16 a.last → SFits w16 b.last → SFits w16 c.last → SFits w16 d.last
        → {za zb zc zd : ℤ} → za ≡ back w16 a.last → zb ≡ back w16 b.last → zc ≡ back w16 c.last → zd ≡ back w16 d.last
        → Stereo s frames out₀ at l₀ r₀ (set (set (set (set out to za) (to + 1) zb) (to + 2) zc) (to + 3) zd) c d j k q
    stereo-turn {a} {b} m j' k' q' e f j k x y u v fa fb fc fd za' zb' zc' zd' =
        let h : 1 ≤ n = omega arith in
        let p : n - 1 ≡ suc (n - 2) = omega arith in
        let q : to + 3 ≡ to + 2 + 1 = omega arith in
        let o : to + 4 ≡ to + 2 + 2 = omega arith in
        let t : 2 * (i + 1) ≡ 2 * i + 1 + 1 = omega arith in
        let z = double-frame (stereo-low h e f x y) p q o t
        (j ∙ ap (λ (p : ℕ). after_code a (high (get_or s p 0))) (left-place h) ∙ ap (after_code a) (high_is h 0 (omega arith)))
        (k ∙ ap (after_code b) (high_is h 1 (omega arith))) u v in
        rw (za', zb', zc', zd', to_z-of_z fa, to_z-of_z fb, to_z-of_z fc, to_z-of_z fd, j', k', q')
        (record {
          eights = w.eights;
          bytes = omega (arith, w.bytes);
          room = z.room;
          small = omega (arith, w.small, z.filled.long, w.both.filled.long);
          both = z;
        })

    -- an odd frame is the last
    pub stereo-odd : {a b : ImaState} {j k : ℕ} → n ≡ 1 → j ≡ to → k ≡ i
        → a ≡ after_code l (get_or s (place_of k) 0 % 16) → b ≡ after_code r (get_or s (place_of k + 4) 0 % 16)
        → Indexed a → Indexed b → SFits w16 a.last → SFits w16 b.last
        → {za zb : ℤ} → za ≡ back w16 a.last → zb ≡ back w16 b.last
        → Put out₀ at (both_left ima (codes_for s 0) (codes_for s 1) frames l₀ r₀ 0) (set (set out j za) (j + 1) zb)
    stereo-odd m j' k' u v x y fa fb za' zb' =
        let e = rw k' at u in
        let f = rw k' at v in
        rw (za', zb', to_z-of_z fa, to_z-of_z fb, j') (double-ends (stereo-low (omega arith) e f x y) (omega arith))

    pub stereo-even : n < 2 → (n ≡ 1 → ⊥) → Put out₀ at (both_left ima (codes_for s 0) (codes_for s 1) frames l₀ r₀ 0) out
    stereo-even h g = double-ends w.both (omega arith)
