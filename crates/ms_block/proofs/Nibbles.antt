-- Laws of the loop over the nibbles of two channels: every turn writes the frame of a byte. Assumes nothing.
use mathlib.Core.Path.{◌≡◌, refl, sym, ap, ◌∙◌}
use mathlib.Core.List.{List}
use Prim.Native.Nat.{ℕ, suc, ◌+◌, ◌-◌, ◌*◌, ◌^◌, ◌/◌, ◌%◌, ◌≤◌, ◌<◌}
use native.Mathlib.Omega.{arith}
use lib.IntN.{ℤ}
use lib.ListN.{length, get_or, set}
use mir.Syntax.{w16}
use mir.Val.{SFits}
use mir.Facts.{to_z-of_z}
use Rattle.little.specs.Writing.{Put}
use Rattle.samples.proofs.Signed.{back}
use Rattle.codec.proofs.Loops.{Double, both_left, double-begins, double-frame, double-ends}
use Rattle.ms_code.specs.declared.MsState.{MsState}
use Rattle.ms_code.specs.Nibble.{Tame, after_nibble}
use Rattle.ms_block.specs.Block.{channel_nibbles, microsoft}
use Rattle.ms_block.proofs.Places.{channel-long, left_at, right-at}

-- frames - i frames are left, from nibble i of each channel on
pub record Stereo (s : List ℕ) (frames : ℕ) (out₀ : List ℤ) (at : ℕ) (l₀ r₀ : MsState)
    (out : List ℤ) (l r : MsState) (to i : ℕ) : Type 0 where
  pub upto : i ≤ frames
  pub bytes : frames + 14 ≤ length s
  pub small : length out * 2 < 2 ^ 63
  pub both : Double microsoft Tame (channel_nibbles 2 s 0) (channel_nibbles 2 s 1) frames out₀ at l₀ r₀ out l r (frames - i) to i

module _ {s : List ℕ} {frames : ℕ} {out₀ : List ℤ} {at : ℕ} {l₀ r₀ : MsState} where
  pub stereo-begins : frames + 14 ≤ length s → at + 2 * frames ≤ length out₀ → length out₀ * 2 < 2 ^ 63
      → Tame l₀ → Tame r₀ → {to : ℕ} → to ≡ at → Stereo s frames out₀ at l₀ r₀ out₀ l₀ r₀ to 0
  stereo-begins h m v g k e =
      let z : frames - 0 ≡ frames = omega arith in
      let enough : (ch : ℕ) → ch < 2 → frames ≤ length (channel_nibbles 2 s ch) = λ ch c. omega (arith, channel-long 2 s ch c) in
      rw e
      (record {
        upto = omega arith;
        bytes = h;
        small = v;
        both = rw z (double-begins (enough 0 (omega arith)) (enough 1 (omega arith)) m g k);
      })

  module _ {out : List ℤ} {l r : MsState} {to i : ℕ} (w : Stereo s frames out₀ at l₀ r₀ out l r to i) where
    module _ (h : i < frames) where
      -- a turn: the frame of a byte
      pub stereo-turn : {a b : MsState} {j : ℕ} → j ≡ to + 2
          → a ≡ after_nibble l (get_or s (14 + i) 0 / 16) → b ≡ after_nibble r (get_or s (14 + i) 0 % 16) → Tame a → Tame b
          → SFits w16 a.newer → SFits w16 b.newer → {u v : ℤ} → u ≡ back w16 a.newer → v ≡ back w16 b.newer
          → Stereo s frames out₀ at l₀ r₀ (set (set out to u) (to + 1) v) a b j (i + 1)
      stereo-turn j' e f g k fa fb u' v' =
          let m : frames - i ≡ suc (frames - (i + 1)) = omega arith in
          let z = double-frame w.both m refl refl refl
          (e ∙ ap (after_nibble l) (sym (left_at s i (omega (arith, w.bytes)))))
          (f ∙ ap (after_nibble r) (sym (right-at s i (omega (arith, w.bytes))))) g k in
          rw (j', u', v', to_z-of_z fa, to_z-of_z fb)
          (record {
            upto = omega arith;
            bytes = w.bytes;
            small = omega (arith, w.small, z.filled.long, w.both.filled.long);
            both = z;
          })

    pub stereo-ends : frames ≤ i → Put out₀ at (both_left microsoft (channel_nibbles 2 s 0) (channel_nibbles 2 s 1) frames l₀ r₀ 0) out
    stereo-ends h = double-ends w.both (omega arith)
