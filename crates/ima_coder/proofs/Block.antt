-- A block of one or two channels: the header, and the codes behind it. Assumes nothing.
use mathlib.Core.Path.{◌≡◌, sym, ap, ◌∙◌}
use mathlib.Core.List.{List, [], ◌∷◌, ◌++◌, append_assoc}
use Prim.Native.Nat.{ℕ, ◌+◌, ◌-◌, ◌*◌, ◌/◌, ◌≤◌, ◌<◌, min}
use native.Mathlib.Omega.{arith}
use native.Mathlib.Numerals.{add-one}
use lib.IntN.{ℤ}
use lib.ListN.{length, length-append}
use mir.Syntax.{w16}
use mir.Val.{SFits}
use mir.Facts.{to_z-of_z}
use Rattle.little.specs.Writing.{Put}
use Rattle.little.proofs.Filling.{put_next}
use Rattle.lists.specs.Turns.{in_turn}
use Rattle.lists.proofs.Turns.{turn-room, turn_two}
use Rattle.samples.proofs.Signed.{back}
use Rattle.ima_coder.specs.declared.Channel.{Channel}
use Rattle.ima_coder.specs.Part.{samples_from, block_head, coded_part, channel_after, opened_with, channel_after_block}
use Rattle.ima_coder.proofs.Taken.{sample, bytes_of, length_taken}
use Rattle.ima_coder.proofs.Runs.{length-bytes, lefts, rights, groups_of}
use Rattle.ima_coder.proofs.Heads.{length-head}

-- ---- one channel's block: the sample at index x opens it, and m samples follow
module _ (s : List ℤ) (stride last x m : ℕ) {y : ℤ} (e : sample s (min x last) ≡ y) where
  abbrev rest : List ℤ
  rest = samples_from s stride last (x + stride) m

  one_more : samples_from s stride last x (m + 1) ≡ y ∷ rest
  unfolding samples_from
  one_more = ap (samples_from s stride last x) (add-one m) ∙ ap (λ (z : ℤ). z ∷ rest) e

  module _ (p : Channel) {t : Channel} (f : SFits w16 y) (g : t ≡ opened_with p (back w16 y)) where
    part-is : coded_part p.state.index (samples_from s stride last x (m + 1))
        ≡ block_head y p.state.index ++ bytes_of t.state rest
    unfolding coded_part opened_with
    part-is =
        ap (coded_part p.state.index) one_more
        ∙ ap (λ (k : Channel). block_head y p.state.index ++ bytes_of k.state rest) (sym (rw (to_z-of_z f) at g))

    after_is : {k : ℕ} (n : ℕ) → k ≡ n + 1
        → channel_after_block p k (samples_from s stride last x (m + 1)) ≡ channel_after t n rest
    unfolding channel_after_block
    after_is {k} n h =
        let i : k - 1 ≡ n = omega arith in
        ap (channel_after_block p k) one_more
        ∙ ap (λ (q : ℕ). channel_after (opened_with p y) q rest) i
        ∙ ap (λ (q : Channel). channel_after q n rest) (sym (rw (to_z-of_z f) at g))

-- ---- mono
module _ (s : List ℤ) {frame : ℕ} (groups : ℕ) (p : Channel) {t : Channel} (h : frame < length s)
    (f : SFits w16 (sample s frame)) (a : t ≡ opened_with p (back w16 (sample s frame))) where
  abbrev all : List ℤ
  all = samples_from s 1 (length s - 1) frame (8 * groups + 1)

  abbrev more : List ℤ
  more = samples_from s 1 (length s - 1) (frame + 1) (2 * (4 * groups))

  here : sample s (min frame (length s - 1)) ≡ sample s frame
  here =
      let e : min frame (length s - 1) ≡ frame = omega arith in
      ap (sample s) e

  eights : 8 * groups ≡ 2 * (4 * groups)
  eights = omega arith

  pub mono-after : {r : Channel} → r ≡ channel_after t (length s - (frame + 1)) more
      → r ≡ channel_after_block p (length s - frame) all
  mono-after e =
      let n : ℕ = length s - (frame + 1) in
      e ∙ sym (rw eights (after_is s 1 (length s - 1) frame (2 * (4 * groups)) here p f a n (omega arith)))

  pub mono-put : {d e g : List ℕ} {to : ℕ} → Put d to (block_head (back w16 (sample s frame)) p.state.index) e
      → Put e (to + 4) (bytes_of t.state more) g → to + 4 * groups + 4 ≤ length d
      → Put d to (coded_part p.state.index all) g
  mono-put u v l =
      let k = length-head (sample s frame) p.state.index in
      let m = length_taken s 1 (length s - 1) (frame + 1) (2 * (4 * groups)) in
      let n = length-bytes t.state (4 * groups) more m in
      rw (eights, part-is s 1 (length s - 1) frame (2 * (4 * groups)) here p f a)
      (put_next (rw (to_z-of_z f) at u) v (omega (arith, k)) (omega (arith, k, n)))

pub ruleset mono-block = (mono-after, mono-put)

-- ---- two headers
pub heads-put : (x y : ℤ) (i j : ℕ) {to : ℕ} {d e f : List ℕ} → SFits w16 x → SFits w16 y
    → Put d to (block_head (back w16 x) i) e → Put e (to + 4) (block_head (back w16 y) j) f → to + 8 ≤ length d
    → Put d to (block_head x i ++ block_head y j) f
heads-put x y i j fx fy p q h =
    let lx = length-head x i in
    let ly = length-head y j in
    put_next (rw (to_z-of_z fx) at p) (rw (to_z-of_z fy) at q) (omega (arith, lx)) (omega (arith, lx, ly))

pub opening-is : (p : Channel) {x : ℤ} {t : Channel} → SFits w16 x → t ≡ opened_with p (back w16 x) → t ≡ opened_with p x
opening-is p f e = rw (to_z-of_z f) at e

pub ruleset two-heads = (heads-put, opening-is)

-- ---- stereo
module _ (s : List ℤ) (at groups : ℕ) (p q : Channel) {t u : Channel} (h : at + 2 ≤ length s)
    (f : SFits w16 (sample s at)) (g : SFits w16 (sample s (at + 1)))
    (a : t ≡ opened_with p (back w16 (sample s at))) (b : u ≡ opened_with q (back w16 (sample s (at + 1)))) where
  abbrev n : ℕ
  n = 8 * groups

  left_here : sample s (min at (length s - 2)) ≡ sample s at
  left_here =
      let e : min at (length s - 2) ≡ at = omega arith in
      ap (sample s) e

  right-here : sample s (min (at + 1) (length s - 1)) ≡ sample s (at + 1)
  right-here =
      let e : min (at + 1) (length s - 1) ≡ at + 1 = omega arith in
      ap (sample s) e

  right-next : at + 2 + 1 ≡ at + 1 + 2
  right-next = omega arith

  pub left_after : {r : Channel} → r ≡ channel_after t ((length s - (at + 2)) / 2) (lefts s (at + 2) n)
      → r ≡ channel_after_block p ((length s - at) / 2) (lefts s at (n + 1))
  left_after e = e ∙ sym (after_is s 2 (length s - 2) at n left_here p f a ((length s - (at + 2)) / 2) (omega arith))

  pub right-after : {r : Channel} → r ≡ channel_after u ((length s - (at + 2)) / 2) (rights s (at + 2) n)
      → r ≡ channel_after_block q ((length s - at) / 2) (rights s at (n + 1))
  right-after e =
      (rw right-next at e)
      ∙ sym (after_is s 2 (length s - 1) (at + 1) n right-here q g b ((length s - (at + 2)) / 2) (omega arith))

  abbrev heads : ℤ → ℤ → List ℕ
  heads x y = block_head x p.state.index ++ block_head y q.state.index

  abbrev parts : List (List ℕ)
  parts = coded_part p.state.index (lefts s at (n + 1)) ∷ coded_part q.state.index (rights s at (n + 1)) ∷ []

  abbrev v : List ℕ
  v = block_head (sample s at) p.state.index

  abbrev w : List ℕ
  w = block_head (sample s (at + 1)) q.state.index

  left-four : length v ≡ 4
  left-four = length-head (sample s at) p.state.index

  right-four : length w ≡ 4
  right-four = length-head (sample s (at + 1)) q.state.index

  -- the two headers, and the groups behind them
  parts-split : in_turn 4 (groups + 1) parts ≡ v ++ w ++ groups_of s t.state u.state (at + 2) groups
  parts-split =
      let x : List ℕ = bytes_of t.state (lefts s (at + 2) n) in
      let y : List ℕ = bytes_of u.state (samples_from s 2 (length s - 1) (at + 1 + 2) n) in
      let i = part-is s 2 (length s - 2) at n left_here p f a in
      let j = part-is s 2 (length s - 1) (at + 1) n right-here q g b in
      rw (right-next, i, j, add-one groups)
      (turn_two 4 groups v w x y left-four right-four ∙ sym (append_assoc v w (in_turn 4 groups (x ∷ y ∷ []))))

  pub stereo-put : {to : ℕ} {d e o : List ℕ}
      → Put d to (heads (back w16 (sample s at)) (back w16 (sample s (at + 1)))) e
      → Put e (to + 8) (groups_of s t.state u.state (at + 2) groups) o → to + 8 * groups + 8 ≤ length d
      → Put d to (in_turn 4 (groups + 1) parts) o
  stereo-put k l m =
      let x : List ℕ = bytes_of t.state (lefts s (at + 2) n) in
      let y : List ℕ = bytes_of u.state (rights s (at + 2) n) in
      let c : length (v ++ w) ≡ 8 = length-append v w ∙ omega (arith, left-four, right-four) in
      let r = turn-room 4 groups (x ∷ y ∷ []) in
      rw parts-split (put_next (rw (to_z-of_z f, to_z-of_z g) at k) l (omega arith) (omega arith))

pub ruleset stereo-block = (left_after, right-after, stereo-put)
