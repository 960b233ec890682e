-- Laws of whole blocks: their frames are the samples of the headers and what is heard of the nibbles. Assumes nothing.
use mathlib.Core.Path.{◌≡◌, refl, sym, ap, ◌∙◌}
use mathlib.Core.List.{List, [], ◌∷◌}
use Prim.Native.Nat.{ℕ, suc, ◌+◌, ◌-◌, ◌*◌, ◌≤◌, ◌<◌}
use native.Mathlib.Omega.{arith}
use lib.IntN.{ℤ}
use lib.ListN.{length, drop, set, length-set}
use mir.Syntax.{w16}
use mir.Val.{SFits}
use mir.Facts.{to_z-of_z}
use Rattle.little.specs.Writing.{Put}
use Rattle.little.proofs.Filling.{one_store, two-stores, four-stores, put_next, put-long}
use Rattle.lists.specs.Turns.{values, joined, in_turn}
use Rattle.lists.proofs.Turns.{turn-room}
use Rattle.ms_code.specs.declared.MsState.{MsState}
use Rattle.samples.proofs.Signed.{back}
use Rattle.formats.specs.Format.{ms_samples}
use Rattle.codec.specs.Codec.{Decodable, heard_from, channel_states, channel_heard, frames_heard, low, high, nibbles}
use Rattle.ms_block.specs.Block.{ms_opened, channel_nibbles, microsoft}
use Rattle.ms_block.proofs.Header.{predictor-at}
use Rattle.ms_block.proofs.Places.{channel-one}

two-same : (out : List ℤ) (at : ℕ) (x y : ℤ) → length (set (set out at x) (at + 1) y) ≡ length out
two-same out at x y = length-set (set out at x) (at + 1) y ∙ length-set out at x

-- ---- mono
module _ (out : List ℤ) (at n : ℕ) (m : 2 ≤ n) (r : at + n ≤ length out) where
  pub mono-second : at + 1 < length out
  mono-second = omega arith

  module _ (x y : ℤ) where
    pub mono-room : at + 2 + (n - 2) ≤ length (set (set out at x) (at + 1) y)
    mono-room = omega (arith, two-same out at x y)

    pub mono-long : (l : List ℤ) {last : List ℤ}
        → Put (set (set out at x) (at + 1) y) (at + 2) (in_turn 1 (n - 2) (l ∷ [])) last → length last ≡ length out
    mono-long l p = put-long p (omega (arith, turn-room 1 (n - 2) (l ∷ []), two-same out at x y)) ∙ two-same out at x y

module _ (s : List ℕ) (n : ℕ) where
  pub mono-header : Decodable microsoft 1 n s → 7 ≤ length s
  mono-header w = w.headed

  pub mono-bytes : Decodable microsoft 1 n s → 2 ≤ n → n - 2 + 14 ≤ 2 * length s
  unfolding ms_samples
  mono-bytes w m = omega (arith, w.headed, w.enough)

  module _ {t : MsState} (e : t ≡ ms_opened 1 s 0) where
    mono-one : n ≡ 1 → frames_heard microsoft 1 n s ≡ t.older ∷ []
    unfolding frames_heard values in_turn joined channel_heard channel_states heard_from
    mono-one k = ap (λ (k : ℕ). frames_heard microsoft 1 k s) k ∙ ap (λ (u : MsState). u.older ∷ []) (sym e)

    -- one frame is the older sample
    pub mono-only : (out : List ℤ) (at : ℕ) → 1 ≤ n → n < 2 → at + n ≤ length out → SFits w16 t.older
        → Put out at (frames_heard microsoft 1 n s) (set out at (back w16 t.older))
    mono-only out at l u r f = rw (mono-one (omega arith), to_z-of_z f) (one_store (omega arith))

    module _ (m : 2 ≤ n) where
      abbrev single : List ℤ
      single = in_turn 1 (n - 2) (heard_from microsoft t (nibbles high low (drop 7 s)) ∷ [])

      mono-frames : frames_heard microsoft 1 n s ≡ t.older ∷ t.newer ∷ single
      unfolding frames_heard values in_turn joined channel_heard channel_states heard_from
      mono-frames =
          let k : n ≡ suc (suc (n - 2)) = omega arith in
          ap (λ (k : ℕ). frames_heard microsoft 1 k s) k
          ∙ (λ j. (sym e j).older ∷ (sym e j).newer ∷ in_turn 1 (n - 2) (heard_from microsoft (sym e j) (channel-one s j) ∷ []))

      pub mono-put : (out : List ℤ) {last : List ℤ} (at : ℕ) → at + n ≤ length out
          → Put (set (set out at (back w16 t.older)) (at + 1) (back w16 t.newer)) (at + 2) single last
          → SFits w16 t.older → SFits w16 t.newer → Put out at (frames_heard microsoft 1 n s) last
      mono-put out at r p f g =
          let q = rw (to_z-of_z f, to_z-of_z g) at p in
          let u = turn-room 1 (n - 2) (heard_from microsoft t (nibbles high low (drop 7 s)) ∷ []) in
          rw mono-frames (put_next (two-stores (omega arith)) q refl (omega arith))

pub ruleset mono = (predictor-at, mono-header, mono-second, mono-room, mono-long, mono-bytes, mono-only, mono-put)

-- ---- stereo
module _ (out : List ℤ) (at n : ℕ) (k : at + 2 * n ≤ length out) where
  pub stereo-second : 1 ≤ n → at + 1 < length out
  stereo-second m = omega arith

  module _ (m : 2 ≤ n) where
    module _ (x y : ℤ) where
      pub stereo-third : at + 2 < length (set (set out at x) (at + 1) y)
      stereo-third = omega (arith, two-same out at x y)

      pub stereo-fourth : (z : ℤ) → at + 3 < length (set (set (set out at x) (at + 1) y) (at + 2) z)
      stereo-fourth z = omega (arith, length-set (set (set out at x) (at + 1) y) (at + 2) z, two-same out at x y)

    module _ (x y z w : ℤ) where
      abbrev four : List ℤ
      four = set (set (set (set out at x) (at + 1) y) (at + 2) z) (at + 3) w

      four_same : length four ≡ length out
      four_same =
          length-set (set (set (set out at x) (at + 1) y) (at + 2) z) (at + 3) w
          ∙ length-set (set (set out at x) (at + 1) y) (at + 2) z
          ∙ two-same out at x y

      pub stereo-room : at + 4 + 2 * (n - 2) ≤ length four
      stereo-room = omega (arith, four_same)

      pub stereo-long : (l r : List ℤ) {last : List ℤ}
          → Put four (at + 4) (in_turn 1 (n - 2) (l ∷ r ∷ [])) last → length last ≡ length out
      stereo-long l r p = put-long p (omega (arith, turn-room 1 (n - 2) (l ∷ r ∷ []), four_same)) ∙ four_same

module _ (s : List ℕ) (n : ℕ) where
  pub stereo-headers : Decodable microsoft 2 n s → 14 ≤ length s
  stereo-headers w = w.headed

  pub stereo-bytes : Decodable microsoft 2 n s → 2 ≤ n → n - 2 + 14 ≤ length s
  unfolding ms_samples
  stereo-bytes w m = omega (arith, w.headed, w.enough)

  module _ {l r : MsState} (e : l ≡ ms_opened 2 s 0) (f : r ≡ ms_opened 2 s 1) where
    stereo-one : n ≡ 1 → frames_heard microsoft 2 n s ≡ l.older ∷ r.older ∷ []
    unfolding frames_heard values in_turn joined channel_heard channel_states heard_from
    stereo-one k = ap (λ (k : ℕ). frames_heard microsoft 2 k s) k ∙ (λ j. (sym e j).older ∷ (sym f j).older ∷ [])

    -- one frame is the older sample of each channel
    pub stereo-only : (out : List ℤ) (at : ℕ) → 1 ≤ n → n < 2 → at + 2 * n ≤ length out
        → SFits w16 l.older → SFits w16 r.older
        → Put out at (frames_heard microsoft 2 n s) (set (set out at (back w16 l.older)) (at + 1) (back w16 r.older))
    stereo-only out at a b m g h =
        rw (stereo-one (omega arith), to_z-of_z g, to_z-of_z h) (two-stores (omega arith))

    module _ (m : 2 ≤ n) where
      abbrev double : MsState → MsState → List ℤ
      double x y = in_turn 1 (n - 2) (heard_from microsoft x (channel_nibbles 2 s 0) ∷ heard_from microsoft y (channel_nibbles 2 s 1) ∷ [])

      stereo-frames : frames_heard microsoft 2 n s ≡ l.older ∷ r.older ∷ l.newer ∷ r.newer ∷ double l r
      unfolding frames_heard values in_turn joined channel_heard channel_states heard_from
      stereo-frames =
          let k : n ≡ suc (suc (n - 2)) = omega arith in
          let x = sym e in
          let y = sym f in
          ap (λ (k : ℕ). frames_heard microsoft 2 k s) k
          ∙ (λ j. (x j).older ∷ (y j).older ∷ (x j).newer ∷ (y j).newer ∷ double (x j) (y j))

      pub stereo-put : (out : List ℤ) {last : List ℤ} (at : ℕ) → at + 2 * n ≤ length out
          → Put (set (set (set (set out at (back w16 l.older)) (at + 1) (back w16 r.older))
          (at + 2) (back w16 l.newer)) (at + 3) (back w16 r.newer)) (at + 4) (double l r) last
          → SFits w16 l.older → SFits w16 r.older → SFits w16 l.newer → SFits w16 r.newer
          → Put out at (frames_heard microsoft 2 n s) last
      stereo-put out at k p a b c d =
          let q = rw (to_z-of_z a, to_z-of_z b, to_z-of_z c, to_z-of_z d) at p in
          let u = turn-room 1 (n - 2) (heard_from microsoft l (channel_nibbles 2 s 0) ∷ heard_from microsoft r (channel_nibbles 2 s 1) ∷ []) in
          rw stereo-frames (put_next (four-stores (omega arith)) q refl (omega arith))

pub ruleset stereo = (
  predictor-at,
  stereo-headers,
  stereo-second,
  stereo-third,
  stereo-fourth,
  stereo-room,
  stereo-long,
  stereo-bytes,
  stereo-only,
  stereo-put,
)
