-- The pad after a chunk's data, and where the next chunk starts: behind the pad, or at the end of the file where that comes first.
-- Assumes nothing.
use mathlib.Core.Path.{◌≡◌, refl, subst}
use mathlib.Core.Bool.{Bool, true, false, cond}
use mathlib.Core.List.{List}
use Prim.Native.Nat.{ℕ, ◌+◌, ◌%◌, ◌≤◌, min}
use native.Mathlib.Omega.{arith}
use lib.Dec.{eqb}
use lib.ListN.{length}
use borrow.Author.Tests.{eqb-true, eqb-false}
use Rattle.little.proofs.Tests.{tests}
use Rattle.riff.specs.declared.Pad.TheVariants.{NotNeeded, There, Absent}
use Rattle.riff.specs.declared.Place.{Place}
use Rattle.riff.specs.Chunks.{size_at, end_at, pad_after, pad_size, pad_at, next_at, placed}
use Rattle.riff.specs.Demands.{PadSays, PadTold}
use Rattle.riff.proofs.Walking.{none_left, met}

module _ (size end long : ℕ) where
  -- where the data fit, so does what there is of a pad
  pub next_place : end ≤ long → end + pad_size (pad_after size end long) ≡ min (end + size % 2) long
  unfolding pad_after
  next_place h = by (eqb (size % 2) 0) (eqb end long) refl refl
    where
      by : (a b : Bool) → eqb (size % 2) 0 ≡ a → eqb end long ≡ b
          → end + pad_size (cond a NotNeeded (cond b Absent There)) ≡ min (end + size % 2) long
      by true b e f = omega (arith, eqb-true (size % 2) 0 e)
      by false true e f = omega (arith, eqb-true end long f)
      by false false e f =
          let odd = eqb-false (size % 2) 0 e in
          let before = eqb-false end long f in
          omega arith

-- ---- what the pad of a chunk says

says : (s : List ℕ) (at : ℕ) → end_at s at ≤ length s → PadSays s (placed s at) (pad_at s at)
unfolding pad_after
says s at fits = by (eqb (size_at s at % 2) 0) (eqb (end_at s at) (length s)) refl refl
  where
    by : (a b : Bool) → eqb (size_at s at % 2) 0 ≡ a → eqb (end_at s at) (length s) ≡ b
        → PadSays s (placed s at) (cond a NotNeeded (cond b Absent There))
    by true b e f = eqb-true (size_at s at % 2) 0 e
    by false true e f =
        let odd = eqb-false (size_at s at % 2) 0 e in
        let end = eqb-true (end_at s at) (length s) f in
        (omega arith, end, λ n d. none_left s (next_at s at) d n (omega arith))
    by false false e f =
        let odd = eqb-false (size_at s at % 2) 0 e in
        let before = eqb-false (end_at s at) (length s) f in
        (omega arith, omega arith)

pub pad-told : PadTold
unfolding PadTold
pad-told s at d p e =
    let m = met s at d p e in
    subst (λ (q : Place). PadSays s q q.pad × (q.next.0 ≡ q.start.0 + q.size.0 + pad_size q.pad)) m.same
    (says s at.0 m.fits, refl)
