-- Where the sound of a file stands: within it, wherever the walk met it. Assumes nothing.
use mathlib.Core.Path.{◌≡◌, refl, sym, ap, ◌∙◌, subst}
use mathlib.Core.Bool.{Bool, true, false, cond}
use mathlib.Core.List.{List, []}
use Prim.Native.Nat.{ℕ, zero, suc, ◌+◌, ◌≤◌, min}
use native.Mathlib.Omega.{arith}
use lib.Dec.{ltb}
use lib.ListN.{length}
use Rattle.units.specs.declared.BytePlace.{BytePlace}
use Rattle.riff.specs.declared.Kind.{Kind}
use Rattle.riff.specs.declared.Kind.TheVariants.{Format, Sound, Fact, Cues, Plays, Titles, Listing, Other}
use Rattle.riff.specs.declared.Place.{Place}
use Rattle.riff.specs.declared.Directory.{Directory}
use Rattle.riff.specs.Chunks.{head_verdict, keep, chunk_at, Spot, Step, Walked}
use Rattle.riff.specs.Walk.{nothing_yet, step_then, steps_from, steps_of, gather, walk_of, after_head, directory_of, by_spot, start_of}
use Rattle.riff.proofs.Placing.{by-titles}
use Rattle.riff.proofs.Walking.{met}
use Rattle.reader.specs.Content.{reading, spot_by, sound_place, sound_spot, sound_start}
use Rattle.units.specs.Refusals.{Verdict}
use Rattle.std.specs.Prelude.{Err, None, Ok, Some}
use Rattle.rules.specs.Rules.{reading_verdict}

module _ (s : List ℕ) where
  abbrev pub Inside : Spot → Type 0
  Inside (Some p) = p.start.0 + p.size.0 ≤ length s
  Inside None = Unit {0}

  abbrev sound_at : Walked → Spot
  sound_at (Ok d) = d.sound
  sound_at (Err r) = None

  kept : (d : Directory) (p : Place) (k : Kind) → Inside (Some p) → Inside d.sound → Inside (keep d p k).sound
  kept d p Format h g = g
  kept d p Sound h g = h
  kept d p Fact h g = g
  kept d p Cues h g = g
  kept d p Plays h g = g
  kept d p Titles h g = by-titles (λ c. Inside c.sound) d p (λ t. g) (λ t. g)
  kept d p Listing h g = g
  kept d p Other h g = g

  leads : (n : ℕ) (at : BytePlace) (d : Directory) → Inside d.sound → Inside (sound_at (gather d (steps_from n s at d)))
  unfolding steps_from gather
  leads zero at d h = h
  leads (suc n) at d h = turn (leads n) (ltb at.0 (length s))
    where
      step : ((to : BytePlace) (c : Directory) → Inside c.sound → Inside (sound_at (gather c (steps_from n s to c))))
          → (t : Step) → chunk_at s at d ≡ t → Inside (sound_at (gather d (step_then (steps_from n s) d t)))
      step on (Err r) c = tt
      step on (Ok p) c =
          let m = met s at d p c in
          let f : Inside (Some p) = subst (λ (q : Place). Inside (Some q)) m.same (omega (arith, m.fits)) in
          on p.next (keep d p p.kind) (kept d p p.kind f h)

      turn : ((to : BytePlace) (c : Directory) → Inside c.sound → Inside (sound_at (gather c (steps_from n s to c))))
          → (b : Bool) → Inside (sound_at (gather d (cond b (step_then (steps_from n s) d (chunk_at s at d)) [])))
      turn on true = step on (chunk_at s at d) refl
      turn on false = h

  walked : Inside (sound_at (directory_of s))
  unfolding directory_of walk_of steps_of
  walked = by (head_verdict s)
    where
      by : (v : Verdict) → Inside (sound_at (after_head v (gather nothing_yet (steps_from (length s) s (record { 0 = 12 }) nothing_yet))))
      by (Ok _) = leads (length s) (record { 0 = 12 }) nothing_yet tt
      by (Err r) = tt

  spot-inside : Inside (sound_spot s)
  unfolding sound_spot
  spot-inside = by (reading_verdict (reading s)) (directory_of s) walked
    where
      by : (v : Verdict) (w : Walked) → Inside (sound_at w) → Inside (spot_by sound_place v w)
      by (Ok _) (Ok d) h = h
      by (Ok _) (Err r) h = tt
      by (Err r) w h = tt

-- in the words of the code: the part that is lent is the file's, from where its sound starts; of a refused file, from its start
pub lent_same : {A : Type 0} (spot : Spot) {r x : A} → r ≡ by_spot spot x x → r ≡ x
unfolding by_spot
lent_same (Some p) e = e
lent_same None e = e

pub stands_at : (s : List ℕ) {spot : Spot} → spot ≡ sound_spot s → (o : ℕ) {x : ℕ}
    → x ≡ by_spot spot (o + min (start_of spot) (length s)) o → x ≡ o + sound_start s
unfolding by_spot sound_start
stands_at s {spot} e o f = f ∙ by spot (subst (Inside s) (sym e) (spot-inside s)) ∙ ap (λ (q : Spot). o + start_of q) e
  where
    by : (q : Spot) → Inside s q → by_spot q (o + min (start_of q) (length s)) o ≡ o + start_of q
    by (Some p) h = omega arith
    by None h = omega arith
