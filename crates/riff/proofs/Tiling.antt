-- A file has room for all chunks that it is read by, if its last pad is counted where it is absent: where the walk stands, those met
-- so far have room before. Assumes nothing.
use mathlib.Core.Path.{◌≡◌, refl, sym, ap, ◌∙◌, subst}
use mathlib.Core.Bool.{Bool, true, false, cond}
use mathlib.Core.List.{List, []}
use Prim.Native.Nat.{ℕ, zero, suc, ◌+◌, ◌-◌, ◌%◌, ◌≤◌, ◌<◌}
use native.Mathlib.Omega.{arith}
use lib.Dec.{ltb}
use lib.ListN.{length}
use borrow.Author.Tests.{ltb-true}
use Rattle.little.proofs.Filling.{part-long}
use Rattle.units.specs.declared.BytePlace.{BytePlace}
use Rattle.riff.specs.declared.Kind.{Kind}
use Rattle.riff.specs.declared.Kind.TheVariants.{Format, Sound, Fact, Cues, Plays, Titles, Listing, Other}
use Rattle.riff.specs.declared.Place.{Place}
use Rattle.riff.specs.declared.Directory.{Directory}
use Rattle.riff.specs.Chunks.{head_verdict, size_at, end_at, next_at, placed, spot_of, is_there, keep, chunk_at, Spot, Step, Walked}
use Rattle.riff.specs.Walk.{nothing_yet, step_then, steps_from, steps_of, gather, walk_of, after_head, directory_of}
use Rattle.riff.specs.Laying.{extent}
use Rattle.riff.specs.Demands.{spot_extent}
use Rattle.riff.proofs.Padding.{next_place}
use Rattle.riff.proofs.Placing.{by-titles}
use Rattle.riff.proofs.Walking.{Met, met, whole_long}
use Rattle.units.specs.Refusals.{Verdict}
use Rattle.std.specs.Prelude.{Err, None, Ok, Some}

module _ (s : List ℕ) where
  -- the bytes of all chunks met so far
  abbrev taken : Directory → ℕ
  taken d =
      spot_extent s d.format + (spot_extent s d.fact + (spot_extent s d.cues
      + (spot_extent s d.plays + (spot_extent s d.titles + spot_extent s d.sound))))

  -- ---- one chunk more
  none : (x : Spot) → is_there x ≡ false → spot_extent s x ≡ 0
  none (Some p) e = let z : ◌≡◌ {A = ℕ} 0 1 = cc in absurd (omega arith)
  none None e = refl

  taken_more : (d : Directory) (p : Place) (k : Kind) → is_there (spot_of d k) ≡ false → taken (keep d p k) ≤ taken d + spot_extent s (Some p)
  taken_more d p Format e = omega (arith, none d.format e)
  taken_more d p Sound e = omega (arith, none d.sound e)
  taken_more d p Fact e = omega (arith, none d.fact e)
  taken_more d p Cues e = omega (arith, none d.cues e)
  taken_more d p Plays e = omega (arith, none d.plays e)
  taken_more d p Titles e =
      by-titles (λ c. taken c ≤ taken d + spot_extent s (Some p)) d p (λ t. omega arith) (λ t. omega (arith, none d.titles t))
  taken_more d p Listing e = omega arith
  taken_more d p Other e = omega arith

  -- with its pad, also where that is absent
  extent-there : (at : ℕ) → end_at s at ≤ length s → spot_extent s (Some (placed s at)) ≡ extent (size_at s at)
  extent-there at h = ap extent (part-long s (at + 8) (size_at s at) (omega arith))

  -- the chunks have room before a place; at the end of the file there may be a pad more in them than in the file
  abbrev Room : Directory → ℕ → Type 0
  Room d at = 12 + taken d ≤ at + (1 - (length s - at))

  tiled : (at : ℕ) (d : Directory) (p : Place) → Met s at d p → at < length s → Room d at → Room (keep d p p.kind) (next_at s at)
  tiled at d p m l h =
      let e : spot_extent s (Some p) ≡ extent (size_at s at) =
      ap (λ (q : Place). spot_extent s (Some q)) (sym m.same) ∙ extent-there at m.fits in
      omega (arith, taken_more d p p.kind m.new, next_place (size_at s at) (end_at s at) (length s) m.fits)

  -- ---- the walk
  abbrev taken_in : Walked → ℕ
  taken_in (Ok d) = taken d
  taken_in (Err r) = 0

  -- n steps lead from the directory d at a place to e: where the chunks of d have room before the place, those of e have it in the file
  abbrev Leads : ℕ → Directory → BytePlace → Directory → Type 0
  Leads n e at d = gather d (steps_from n s at d) ≡ Ok e → Room d at.0 → at.0 ≤ length s → 12 + taken e ≤ length s + 1

  leads : (n : ℕ) (e : Directory) (at : BytePlace) (d : Directory) → Leads n e at d
  unfolding steps_from gather
  leads zero e at d w h g = let f : taken d ≡ taken e = ap taken_in w in omega arith
  leads (suc n) e at d w h g = turn (leads n e) (ltb at.0 (length s)) refl w
    where
      step : ((to : BytePlace) (c : Directory) → Leads n e to c) → at.0 < length s → (t : Step) → chunk_at s at d ≡ t
          → gather d (step_then (steps_from n s) d t) ≡ Ok e → 12 + taken e ≤ length s + 1
      step on l (Err r) c v = let z : ◌≡◌ {A = ℕ} 0 1 = cc in absurd (omega arith)
      step on l (Ok p) c v =
          let m = met s at d p c in
          let f : next_at s at.0 ≡ p.next.0 = ap (λ (q : Place). q.next.0) m.same in
          let k = next_place (size_at s at.0) (end_at s at.0) (length s) m.fits in
          on p.next (keep d p p.kind) v (subst (Room (keep d p p.kind)) f (tiled at.0 d p m l h)) (omega arith)

      turn : ((to : BytePlace) (c : Directory) → Leads n e to c) → (b : Bool) → ltb at.0 (length s) ≡ b
          → gather d (cond b (step_then (steps_from n s) d (chunk_at s at d)) []) ≡ Ok e → 12 + taken e ≤ length s + 1
      turn on true t v = step on (ltb-true at.0 (length s) t) (chunk_at s at d) refl v
      turn on false t v = let f : taken d ≡ taken e = ap taken_in v in omega arith

-- ---- the header before it
unopened : (v : Verdict) (w : Walked) (d : Directory) → after_head v w ≡ Ok d → w ≡ Ok d
unopened (Ok _) w d e = e
unopened (Err r) w d e = let z : ◌≡◌ {A = ℕ} 0 1 = cc in absurd (omega arith)

-- a chunk with its pad is of even length, and so are all of them
even-extent : (s : List ℕ) (spot : Spot) → spot_extent s spot % 2 ≡ 0
even-extent s (Some p) = omega arith
even-extent s None = refl

even_sum : (m n : ℕ) → m % 2 ≡ 0 → n % 2 ≡ 0 → (m + n) % 2 ≡ 0
even_sum m n g h = omega arith

even-taken : (s : List ℕ) (d : Directory) → taken s d % 2 ≡ 0
even-taken s d = search (even_sum, even-extent) depth 8

rounded : (n long : ℕ) → n % 2 ≡ 0 → 12 + n ≤ long + 1 → 12 + n ≤ long + long % 2
rounded n long e h = omega arith

-- an even file has room for them as it is
pub room-for-all : (s : List ℕ) (d : Directory) → directory_of s ≡ Ok d
    → 12 + (spot_extent s d.format + (spot_extent s d.fact + (spot_extent s d.cues
    + (spot_extent s d.plays + (spot_extent s d.titles + spot_extent s d.sound)))))
    ≤ length s + length s % 2
unfolding directory_of walk_of steps_of
room-for-all s d e =
    rounded (taken s d) (length s) (even-taken s d)
    (leads s (length s) d (record { 0 = 12 }) nothing_yet (unopened (head_verdict s) (walk_of s) d e) (omega arith) (whole_long s refl e))
