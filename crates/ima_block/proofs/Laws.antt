-- Laws of whole blocks: the frames of a block are its header samples and what is heard of its codes. Assumes nothing.
use mathlib.Core.Path.{◌≡◌, refl, sym, ap, ◌∙◌}
use mathlib.Core.List.{List, [], ◌∷◌}
use Prim.Native.Nat.{ℕ, suc, ◌+◌, ◌-◌, ◌*◌, ◌%◌, ◌≤◌, ◌<◌}
use native.Mathlib.Omega.{arith}
use lib.IntN.{ℤ}
use lib.ListN.{length, drop, get_or, set, length-set}
use mir.Syntax.{w16}
use mir.Val.{SFits}
use mir.Facts.{to_z-of_z}
use Rattle.little.specs.Writing.{Put}
use Rattle.little.proofs.Filling.{one_store, two-stores, put_next, put-long}
use Rattle.lists.specs.Turns.{values, joined, in_turn}
use Rattle.lists.proofs.Turns.{turn-room}
use Rattle.samples.specs.Sound.{sample_at}
use Rattle.samples.proofs.Signed.{back}
use Rattle.formats.specs.Format.{ima_samples}
use Rattle.codec.specs.Codec.{Decodable, heard_from, channel_states, channel_heard, frames_heard, low, high, nibbles}
use Rattle.ima_code.specs.declared.ImaState.{ImaState}
use Rattle.ima_block.specs.Block.{channel_part, ima}
use Rattle.ima_block.proofs.Parts.{part-one, opened_one, opened-left, opened-right, index-one, index-left, index-right}

-- ---- mono
one-most : (n : ℕ) (l : List ℤ) → length (in_turn 1 n (l ∷ [])) ≤ n
one-most n l = omega (arith, turn-room 1 n (l ∷ []))

module _ (out : List ℤ) (at n : ℕ) (m : 1 ≤ n) (r : at + n ≤ length out) (x : ℤ) where
  pub mono-room : at + 1 + (n - 1) ≤ length (set out at x)
  mono-room = omega (arith, length-set out at x)

  pub mono-long : (l : List ℤ) {last : List ℤ}
      → Put (set out at x) (at + 1) (in_turn 1 (n - 1) (l ∷ [])) last → length last ≡ length out
  mono-long l p = put-long p (omega (arith, one-most (n - 1) l, mono-room)) ∙ length-set out at x

module _ {s : List ℕ} {n : ℕ} (w : Decodable ima 1 n s) where
  pub mono-header : 4 ≤ length s
  mono-header = w.headed

  pub mono-codes : n - 1 + 8 ≤ 2 * length s
  unfolding ima_samples
  mono-codes = omega (arith, w.headed, w.enough)

  pub mono-good : {i : ℕ} → i ≡ get_or s 2 0 → i < 89
  mono-good e = omega (arith, index-one s w.headed w.valid)

  module _ (m : 1 ≤ n) {t : ImaState} (a : t.last ≡ sample_at s 0) (b : t.index ≡ get_or s 2 0) where
    abbrev heard_of : ImaState → List ℕ → List ℤ
    heard_of u p = heard_from ima u (nibbles low high (drop 4 p))

    abbrev codes : List ℤ
    codes = in_turn 1 (n - 1) (heard_of t s ∷ [])

    mono-frames : frames_heard ima 1 n s ≡ t.last ∷ codes
    unfolding frames_heard values in_turn joined channel_heard channel_states heard_from
    mono-frames =
        let k : n ≡ suc (n - 1) = omega arith in
        ap (λ (k : ℕ). frames_heard ima 1 k s) k
        ∙ ap (λ (u : ImaState). u.last ∷ in_turn 1 (n - 1) (heard_of u (channel_part 1 s 0) ∷ [])) (sym (opened_one s w.headed a b))
        ∙ ap (λ (p : List ℕ). t.last ∷ in_turn 1 (n - 1) (heard_of t p ∷ [])) (part-one s w.whole)

    pub mono-put : (out : List ℤ) {last : List ℤ} (at : ℕ) → at + n ≤ length out
        → Put (set out at (back w16 t.last)) (at + 1) codes last → SFits w16 t.last → Put out at (frames_heard ima 1 n s) last
    mono-put out at r p f =
        let q = rw (to_z-of_z f) at p in
        rw mono-frames (put_next (one_store (omega arith)) q refl (omega (arith, one-most (n - 1) (heard_of t s))))

pub ruleset mono = (mono-header, mono-room, mono-long, mono-codes, mono-good, mono-put)

-- ---- stereo
two-most : (n : ℕ) (l r : List ℤ) → length (in_turn 1 n (l ∷ r ∷ [])) ≤ 2 * n
two-most n l r = turn-room 1 n (l ∷ r ∷ [])

module _ (out : List ℤ) (at n : ℕ) (m : 1 ≤ n) (k : at + 2 * n ≤ length out) where
  pub stereo-second : at + 1 < length out
  stereo-second = omega arith

  module _ (x y : ℤ) where
    same : length (set (set out at x) (at + 1) y) ≡ length out
    same = length-set (set out at x) (at + 1) y ∙ length-set out at x

    pub stereo-room : at + 2 + 2 * (n - 1) ≤ length (set (set out at x) (at + 1) y)
    stereo-room = omega (arith, same)

    pub stereo-long : (l r : List ℤ) {last : List ℤ}
        → Put (set (set out at x) (at + 1) y) (at + 2) (in_turn 1 (n - 1) (l ∷ r ∷ [])) last → length last ≡ length out
    stereo-long l r p = put-long p (omega (arith, two-most (n - 1) l r, same)) ∙ same

module _ {s : List ℕ} {n : ℕ} (w : Decodable ima 2 n s) where
  pub stereo-headers : 8 ≤ length s
  stereo-headers = w.headed

  pub stereo-words : length s % 8 ≡ 0
  stereo-words = w.whole

  pub stereo-codes : n - 1 + 8 ≤ length s
  unfolding ima_samples
  stereo-codes = omega (arith, w.headed, w.enough)

  pub left-good : {i : ℕ} → i ≡ get_or s 2 0 → i < 89
  left-good e = omega (arith, index-left s w.headed w.valid)

  pub right-good : {i : ℕ} → i ≡ get_or s 6 0 → i < 89
  right-good e = omega (arith, index-right s w.headed w.valid)

  module _ (m : 1 ≤ n) {l r : ImaState}
      (a : l.last ≡ sample_at s 0) (b : l.index ≡ get_or s 2 0) (c : r.last ≡ sample_at s 4) (d : r.index ≡ get_or s 6 0) where
    abbrev pairs : ImaState → ImaState → List ℤ
    pairs x y = in_turn 1 (n - 1) (heard_from ima x (ima.codes 2 s 0) ∷ heard_from ima y (ima.codes 2 s 1) ∷ [])

    stereo-frames : frames_heard ima 2 n s ≡ l.last ∷ r.last ∷ pairs l r
    unfolding frames_heard values in_turn joined channel_heard channel_states heard_from
    stereo-frames =
        let k : n ≡ suc (n - 1) = omega arith in
        let x = sym (opened-left s w.headed a b) in
        let y = sym (opened-right s w.headed c d) in
        ap (λ (k : ℕ). frames_heard ima 2 k s) k ∙ (λ j. (x j).last ∷ (y j).last ∷ pairs (x j) (y j))

    pub stereo-put : (out : List ℤ) {last : List ℤ} (at : ℕ) → at + 2 * n ≤ length out
        → Put (set (set out at (back w16 l.last)) (at + 1) (back w16 r.last)) (at + 2) (pairs l r) last
        → SFits w16 l.last → SFits w16 r.last → Put out at (frames_heard ima 2 n s) last
    stereo-put out at k p f g =
        let q = rw (to_z-of_z f, to_z-of_z g) at p in
        let u = two-most (n - 1) (heard_from ima l (ima.codes 2 s 0)) (heard_from ima r (ima.codes 2 s 1)) in
        rw stereo-frames (put_next (two-stores (omega arith)) q refl (omega arith))

pub ruleset stereo = (stereo-headers, stereo-words, stereo-second, stereo-room, stereo-long, stereo-codes, left-good, right-good, stereo-put)
