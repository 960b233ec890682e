-- The header of a channel: its four bytes, written one behind the other. Assumes nothing.
use mathlib.Core.Path.{◌≡◌, ap, ◌∙◌}
use mathlib.Core.List.{List, [], ◌∷◌}
use Prim.Native.Nat.{ℕ, ◌+◌, ◌≤◌, ◌<◌}
use native.Mathlib.Omega.{arith}
use lib.IntN.{ℤ}
use lib.ListN.{length, set, length-set, length-append}
use mir.Syntax.{w16}
use mir.Val.{SFits}
use mir.Facts.{to_z-of_z}
use Rattle.little.specs.Writing.{Put}
use Rattle.little.proofs.Filling.{put-long, put_next, two-stores}
use Rattle.samples.specs.Sound.{sample_bytes}
use Rattle.samples.proofs.Signed.{back}
use Rattle.samples.proofs.Turning.{length-sample}
use Rattle.ima_coder.specs.declared.Channel.{Channel}
use Rattle.ima_coder.specs.Part.{block_head, opened_with}

pub length-head : (x : ℤ) (i : ℕ) → length (block_head x i) ≡ 4
unfolding block_head
length-head x i = length-append (sample_bytes x) (i ∷ 0 ∷ []) ∙ omega (arith, length-sample x)

module _ (x : ℤ) {d e : List ℕ} {to : ℕ} (p : Put d to (sample_bytes (back w16 x)) e) (h : to + 4 ≤ length d) where
  same-room : length e ≡ length d
  same-room = put-long p (omega (arith, length-sample (back w16 x)))

  pub head-room : (v : ℕ) → to + 3 < length (set e (to + 2) v)
  head-room v = omega (arith, same-room, length-set e (to + 2) v)

  pub head-put : (i : ℕ) → SFits w16 x → Put d to (block_head x i) (set (set e (to + 2) i) (to + 3) 0)
  unfolding block_head
  head-put i f =
      let a : to + 3 ≡ to + 2 + 1 = omega arith in
      let q : Put e (to + 2) (i ∷ 0 ∷ []) (set (set e (to + 2) i) (to + 3) 0) =
      rw a (two-stores (omega (arith, same-room))) in
      let r : Put d to (sample_bytes x) e = rw (to_z-of_z f) at p in
      put_next r q (omega (arith, length-sample x)) (omega arith)

abbrev opens : Channel → ℤ → Channel
opens p x = record { state = record { last = x; index = p.state.index }; chased = p.chased }

pub opening-here : (p : Channel) {x : ℤ} → SFits w16 x → opens p (back w16 x) ≡ opened_with p x
unfolding opened_with
opening-here p f = ap (opens p) (to_z-of_z f)

pub ruleset heading = (head-room, head-put, opening-here)
