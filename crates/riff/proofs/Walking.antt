-- The walk: what is left of it at a place, and how a step goes on from there. Assumes nothing.
use mathlib.Core.Path.{◌≡◌, refl, sym, ap, ◌∙◌, subst}
use mathlib.Core.Bool.{Bool, true, false, cond, ◌||◌}
use mathlib.Core.List.{List, []}
use Prim.Native.Nat.{ℕ, zero, suc, ◌+◌, ◌-◌, ◌≤◌, ◌<◌}
use native.Mathlib.Omega.{arith}
use lib.Dec.{ltb}
use lib.ListN.{length}
use borrow.Author.Tests.{lt-ltb, le-ltb, ltb-true, ltb-false}
use Rattle.units.specs.Refusals.{file_limit, Verdict}
use Rattle.units.specs.declared.BytePlace.{BytePlace}
use Rattle.units.specs.declared.Refusal.{Refusal}
use Rattle.units.specs.declared.Refusal.TheVariants.{LengthOutOfRange, ChunkPastTheEnd, SecondOfItsKind, DataBeforeFormat, WaveList}
use Rattle.riff.specs.declared.Kind.{Kind}
use Rattle.riff.specs.declared.Kind.TheVariants.{Format, Sound, Fact, Cues, Plays, Titles, Listing, Other}
use Rattle.riff.specs.declared.Place.{Place}
use Rattle.riff.specs.declared.Directory.{Directory}
use Rattle.riff.specs.Chunks.{head_verdict, end_at, next_at, placed, passes, place_at, spot_of, is_there, is_kept, keep, early, wave_list, checked, chunk_at, Step, Walked}
use Rattle.riff.specs.Walk.{nothing_yet, step_then, steps_from, steps_of, gather, walk_of, after_head, directory_of, refusal_of}
use Rattle.riff.proofs.Heading.{head-short, head-long}
use Rattle.std.specs.Prelude.{Ok, Err}

-- ---- a chunk that was met: it stands there, its data fit the file, and none of its kind was met before
pub record Met (s : List ℕ) (at : ℕ) (d : Directory) (p : Place) : Type 0 where
  pub same : placed s at ≡ p
  pub fits : end_at s at ≤ length s
  pub new : is_there (spot_of d p.kind) ≡ false

-- of a test that refuses, a chunk came the other way
failed : (x : Bool) (r : Refusal) (t : Step) (p : Place) → cond x (Err r) t ≡ Ok p → x ≡ false
failed true r t p e = let z : ◌≡◌ {A = ℕ} 0 1 = cc in absurd (omega arith)
failed false r t p e = refl

through : (x : Bool) (r : Refusal) (t : Step) (p : Place) → cond x (Err r) t ≡ Ok p → t ≡ Ok p
through true r t p e = let z : ◌≡◌ {A = ℕ} 0 1 = cc in absurd (omega arith)
through false r t p e = e

abbrev place_in : Place → Step → Place
place_in q (Ok p) = p
place_in q (Err r) = q

module _ (s : List ℕ) (at : BytePlace) (d : Directory) (p : Place) where
  placed-there : place_at s at ≡ Ok p → placed s at.0 ≡ p
  unfolding place_at
  placed-there e = ap (place_in p) (through (passes s at.0) ChunkPastTheEnd (Ok (placed s at.0)) p e)

  placed-fits : place_at s at ≡ Ok p → end_at s at.0 ≤ length s
  unfolding place_at
  placed-fits e =
      ltb-false (length s) (end_at s at.0)
      (second (ltb (length s) (at.0 + 8)) _ (failed (passes s at.0) ChunkPastTheEnd (Ok (placed s at.0)) p e))
    where
      second : (x y : Bool) → (x || y) ≡ false → y ≡ false
      second true y f = let z : ◌≡◌ {A = ℕ} 0 1 = cc in absurd (omega arith)
      second false y f = f

  pub met : chunk_at s at d ≡ Ok p → Met s at.0 d p
  unfolding chunk_at
  met = by (place_at s at) refl
    where
      by : (t : Step) → place_at s at ≡ t → checked s d t ≡ Ok p → Met s at.0 d p
      by (Err r) f e = let z : ◌≡◌ {A = ℕ} 0 1 = cc in absurd (omega arith)
      by (Ok q) f e =
          let w = through (is_there (spot_of d q.kind)) SecondOfItsKind _ p e in
          let v = through (wave_list s q q.kind) WaveList (Ok q) p (through (early d q.kind) DataBeforeFormat _ p w) in
          let n = failed (is_there (spot_of d q.kind)) SecondOfItsKind _ p e in
          let c : q ≡ p = ap (place_in p) v in
          record { same = placed-there (f ∙ v); fits = placed-fits (f ∙ v); new = rw c at n }

  -- it starts before the next
  pub later : chunk_at s at d ≡ Ok p → at.0 < p.next.0
  later e =
      let n : next_at s at.0 ≡ p.next.0 = ap (λ (q : Place). q.next.0) (met e).same in
      omega arith

-- ---- the walk of s is what it keeps so far and the steps that are left
pub record Rest (s : List ℕ) (at : ℕ) (d : Directory) : Type 0 where
  pub turns : ℕ
  pub enough : length s ≤ at + turns
  pub same : gather d (steps_from turns s (record { 0 = at }) d) ≡ walk_of s

module _ (s : List ℕ) (at : ℕ) (d : Directory) where
  abbrev here : Step
  here = chunk_at s (record { 0 = at }) d

  -- with enough turns, the walk takes one
  one : (n : ℕ) → at < length s → steps_from (suc n) s (record { 0 = at }) d ≡ step_then (steps_from n s) d here
  unfolding steps_from
  one n h = simp (lt-ltb at (length s) h)

  stops : (n : ℕ) (r : Refusal) → at < length s → length s ≤ at + n → here ≡ Err r → Err r ≡ gather d (steps_from n s (record { 0 = at }) d)
  unfolding gather
  stops zero r h e t = absurd (omega arith)
  stops (suc n) r h e t = sym (ap (gather d) (one n h ∙ ap (step_then (steps_from n s) d) t))

  goes : (n : ℕ) (p : Place) → at < length s → length s ≤ at + n → at < p.next.0 → here ≡ Ok p
      → gather d (steps_from n s (record { 0 = at }) d) ≡ walk_of s → Rest s p.next.0 (keep d p p.kind)
  unfolding gather
  goes zero p h e m t w = absurd (omega arith)
  goes (suc n) p h e m t w =
      record { turns = n; enough = omega arith; same = sym (ap (gather d) (one n h ∙ ap (step_then (steps_from n s) d) t)) ∙ w }

  -- from the end of the file on there are no steps
  pub none_left : (n : ℕ) → length s ≤ at → steps_from n s (record { 0 = at }) d ≡ []
  unfolding steps_from
  none_left zero h = refl
  none_left (suc n) h = simp (le-ltb at (length s) h)

  ends : (n : ℕ) → length s ≤ at → Ok d ≡ gather d (steps_from n s (record { 0 = at }) d)
  unfolding gather
  ends n h = sym (ap (gather d) (none_left n h))

-- where the directory has no spot for a kind it stays as it is
stays : (d : Directory) (p : Place) (k : Kind) → keep d p k ≡ cond (is_kept k) (keep d p k) d
stays d p Format = refl
stays d p Sound = refl
stays d p Fact = refl
stays d p Cues = refl
stays d p Plays = refl
stays d p Titles = refl
stays d p Listing = refl
stays d p Other = refl

-- ---- in the words of the code
pub walk_begins : (s : List ℕ) {d : Directory} → d ≡ nothing_yet → Rest s 12 d
unfolding walk_of steps_of
walk_begins s e = rw e (record { turns = length s; enough = omega arith; same = refl })

module _ {s : List ℕ} {at : ℕ} {d : Directory} (w : Rest s at d) where
  pub walk_ends : length s ≤ at → Ok d ≡ walk_of s
  walk_ends h = ends s at d w.turns h ∙ w.same

  module _ (h : at < length s) {step : Step} (a : step ≡ chunk_at s (record { 0 = at }) d) where
    pub walk-stops : {r : Refusal} → step ≡ Err r → Err r ≡ walk_of s
    walk-stops {r} b = stops s at d w.turns r h w.enough (sym a ∙ b) ∙ w.same

    module _ {p : Place} (b : step ≡ Ok p) where
      pub walk-on : {e : Directory} → e ≡ keep d p p.kind → Rest s p.next.0 e
      walk-on f = rw f (goes s at d w.turns p h w.enough (later s (record { 0 = at }) d p (sym a ∙ b)) (sym a ∙ b) w.same)

      pub walk-past : {x : Bool} → x ≡ is_kept p.kind → x ≡ false → Rest s p.next.0 d
      walk-past f g =
          subst (Rest s p.next.0) (stays d p p.kind ∙ ap (λ (y : Bool). cond y (keep d p p.kind) d) (sym f ∙ g)) (walk-on refl)

      pub walk-less : length s - p.next.0 < length s - at
      walk-less = let k = later s (record { 0 = at }) d p (sym a ∙ b) in omega arith

pub ruleset walking = (walk_begins, walk_ends, walk-stops, walk-on, walk-past, walk-less)

-- ---- the header before the walk
module _ (s : List ℕ) {v : Verdict} (e : v ≡ head_verdict s) where
  pub open-walks : {w : Walked} → v ≡ Ok tt → w ≡ walk_of s → w ≡ directory_of s
  unfolding directory_of
  open-walks f g = g ∙ sym (ap (λ (u : Verdict). after_head u (walk_of s)) (sym e ∙ f))

  pub open-refused : {r : Refusal} → v ≡ Err r → Err r ≡ directory_of s
  unfolding directory_of
  open-refused f = sym (ap (λ (u : Verdict). after_head u (walk_of s)) (sym e ∙ f))

-- a file that is too short or too long has no directory
pub too_short : (s : List ℕ) → length s < 12 → directory_of s ≡ Err LengthOutOfRange
too_short s h = sym (open-refused s refl (sym (head-short s h)))

pub too_long : (s : List ℕ) → file_limit < length s → directory_of s ≡ Err LengthOutOfRange
too_long s h = sym (open-refused s refl (sym (head-long s (omega arith) h)))

module _ (s : List ℕ) {w : Walked} {d : Directory} (e : w ≡ directory_of s) (f : w ≡ Ok d) where
  not_stopped : (a b : ℕ) → (a < b → directory_of s ≡ Err LengthOutOfRange) → b ≤ a
  not_stopped a b stop = by (ltb a b) refl
    where
      by : (x : Bool) → ltb a b ≡ x → b ≤ a
      by true t =
          let r = stop (ltb-true a b t) in
          let z : ◌≡◌ {A = ℕ} 0 1 = cc in
          absurd (omega arith)
      by false t = ltb-false a b t

  pub whole_long : 12 ≤ length s
  whole_long = not_stopped (length s) 12 (too_short s)

  pub whole-limit : length s ≤ file_limit
  whole-limit = not_stopped file_limit (length s) (too_long s)
