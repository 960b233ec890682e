-- The chunk at a place, case by case in the order of the code's tests. Assumes nothing.
use mathlib.Core.Path.{◌≡◌, refl, sym, ap, ◌∙◌}
use mathlib.Core.Bool.{Bool, true, false, cond}
use mathlib.Core.List.{List}
use Prim.Native.Nat.{ℕ, ◌+◌, ◌-◌, ◌≤◌, ◌<◌}
use native.Mathlib.Omega.{arith}
use lib.ListN.{length}
use borrow.Author.Tests.{lt-ltb, le-ltb, lt-leb, le-leb}
use Rattle.little.specs.Numbers.{number_at}
use Rattle.little.proofs.Tests.{tests}
use Rattle.codes.specs.Codes.{is_at}
use Rattle.codes.specs.declared.Code.TheVariants as code
use Rattle.units.specs.declared.BytePlace.{BytePlace}
use Rattle.units.specs.declared.Refusal.{Refusal}
use Rattle.units.specs.declared.Refusal.TheVariants.{ChunkPastTheEnd, SecondOfItsKind, DataBeforeFormat, WaveList}
use Rattle.riff.specs.declared.Kind.{Kind}
use Rattle.riff.specs.declared.Kind.TheVariants.{Format, Sound, Fact, Cues, Plays, Titles, Listing, Other}
use Rattle.riff.specs.declared.Pad.{Pad}
use Rattle.riff.specs.declared.Place.{Place}
use Rattle.riff.specs.declared.Directory.{Directory}
use Rattle.riff.specs.Chunks.{size_at, end_at, list_kind, kind_at, pad_after, pad_size, place_at, spot_of, is_there, directory, keep_titles, keep, early, starts_as_waves, wave_list, checked, chunk_at, Spot, Step}
use Rattle.riff.specs.Walk.{refusal_of}
use Rattle.std.specs.Prelude.{Err, Ok, Some}

-- ---- a chunk fits the file, or does not
module _ (s : List ℕ) (at : BytePlace) where
  short : length s < at.0 + 8 → Err ChunkPastTheEnd ≡ place_at s at
  unfolding place_at
  short h = simp tests

  pub place_none : length s < 8 → Err ChunkPastTheEnd ≡ place_at s at
  place_none h = short (omega arith)

  pub place_short : 8 ≤ length s → length s - 8 < at.0 → Err ChunkPastTheEnd ≡ place_at s at
  place_short g h = short (omega arith)

  module _ (g : 8 ≤ length s) (h : at.0 ≤ length s - 8) {n : ℕ} (b : n ≡ number_at 4 s (at.0 + 4)) where
    pub place-cut : length s < at.0 + 8 + n → Err ChunkPastTheEnd ≡ place_at s at
    unfolding place_at
    place-cut k = simp (le-ltb (length s) (at.0 + 8) (omega arith), lt-ltb (length s) (end_at s at.0) (omega arith))

    pub place-whole : {k : Kind} {p : Pad} {m : ℕ} → at.0 + 8 + n ≤ length s → k ≡ kind_at s at.0
        → p ≡ pad_after n (at.0 + 8 + n) (length s) → m ≡ pad_size p
        → Ok (record { kind = k; pad = p; start = record { 0 = at.0 + 8 }; size = record { 0 = n }; next = record { 0 = at.0 + 8 + n + m } })
        ≡ place_at s at
    unfolding place_at
    place-whole k e f g =
        simp (le-ltb (length s) (at.0 + 8) (omega arith), le-ltb (length s) (end_at s at.0) (omega arith), g, f, b, e)

pub ruleset placing = (place_none, place_short, place-cut, place-whole)

-- ---- the directory by the kind of a chunk
pub kept_by : (d : Directory) (p : Place) {k : Kind} {e : Directory} → p.kind ≡ k → e ≡ keep d p k → e ≡ keep d p p.kind
kept_by d p {k} {e} q r = r ∙ ap (keep d p) (sym q)

-- with a list of titles, by whether one was met before
abbrev titles_again : Directory → Directory
titles_again d = directory d.format d.sound d.fact d.cues d.plays d.titles true

abbrev titles_first : Directory → Place → Directory
titles_first d p = directory d.format d.sound d.fact d.cues d.plays (Some p) d.second

module _ (d : Directory) (p : Place) {x : Bool} {r : Directory} (e : x ≡ is_there d.titles) where
  pub titles-again : x ≡ true → r ≡ titles_again d → r ≡ keep_titles d p
  unfolding keep_titles
  titles-again t f = simp (sym e ∙ t) f

  pub titles-first : x ≡ false → r ≡ titles_first d p → r ≡ keep_titles d p
  unfolding keep_titles
  titles-first t f = simp (sym e ∙ t) f

pub ruleset titles = (titles-again, titles-first)

pub by-titles : (P : Directory → Type 0) (d : Directory) (p : Place) → (is_there d.titles ≡ true → P (titles_again d))
    → (is_there d.titles ≡ false → P (titles_first d p)) → P (keep_titles d p)
unfolding keep_titles
by-titles P d p again first = by (is_there d.titles) refl
  where
    by : (b : Bool) → is_there d.titles ≡ b → P (cond b (titles_again d) (titles_first d p))
    by true t = again t
    by false t = first t

-- ---- a `LIST` of waves
module _ (s : List ℕ) (p : Place) where
  pub waves-short : p.size.0 < 4 → false ≡ starts_as_waves s p
  unfolding starts_as_waves
  waves-short h = simp tests

  pub waves-start : {r : Bool} → 4 ≤ p.size.0 → r ≡ is_at s p.start.0 code.WaveList → r ≡ starts_as_waves s p
  unfolding starts_as_waves
  waves-start h e = simp (tests, e)

pub ruleset waves = (waves-short, waves-start)

-- ---- a step: at one chunk 4, 5, 6, 7 in that order
module _ (s : List ℕ) (at : BytePlace) (d : Directory) {step : Step} (a : step ≡ place_at s at) where
  pub step_past : {r : Refusal} → step ≡ Err r → step ≡ chunk_at s at d
  unfolding chunk_at
  step_past e = e ∙ sym (ap (checked s d) (sym a ∙ e))

  module _ {p : Place} (b : step ≡ Ok p) {spot : Spot} (e : spot ≡ spot_of d p.kind) {x : Bool} (f : x ≡ is_there spot) where
    at-chunk : {r : Step} → r ≡ checked s d (Ok p) → r ≡ chunk_at s at d
    unfolding chunk_at
    at-chunk t = t ∙ sym (ap (checked s d) (sym a ∙ b))

    met : {y : Bool} → x ≡ y → is_there (spot_of d p.kind) ≡ y
    met t = sym (ap is_there e) ∙ sym f ∙ t

    module _ (t : x ≡ false) {y : Bool} (g : y ≡ early d p.kind) where
      module _ (u : y ≡ false) {z : Bool} (h : z ≡ wave_list s p p.kind) where
        pub step-on : z ≡ false → Ok p ≡ chunk_at s at d
        step-on v = at-chunk (simp (met t, sym g ∙ u, sym h ∙ v))
