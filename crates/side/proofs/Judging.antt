-- Whether a record is a side, and whether a song suits it and has place, in the words of the code. Assumes nothing.
use mathlib.Core.Path.{◌≡◌, refl, sym, ap, ◌∙◌}
use mathlib.Core.Bool.{Bool, true, false, not, ◌&&◌}
use mathlib.Core.List.{List}
use Prim.Native.Nat.{ℕ, ◌+◌, ◌*◌, ◌≤◌, ◌<◌}
use native.Mathlib.Omega.{arith}
use lib.Dec.{eqb}
use lib.ListN.{length, take, drop, get_or}
use mir.Syntax.{w32, w64}
use mir.Val.{Fits}
use borrow.Author.Tests.{not-true, not-false}
use Rattle.little.proofs.Filling.{drop-next}
use Rattle.std.proofs.lemmas.List.{drop_all}
use Rattle.tables.specs.declared.Cue.{Cue}
use Rattle.tables.specs.declared.Cues.{Cues}
use Rattle.tables.specs.declared.Play.{Play}
use Rattle.tables.specs.declared.Playlist.{Playlist}
use Rattle.tables.specs.Cues.{no_cue}
use Rattle.tables.specs.Plays.{no_play}
use Rattle.tables.proofs.Putting.{array_long}
use Rattle.side.specs.Side.{tiled}
use Rattle.side.proofs.Songs.{counts-agree}

-- ---- cues and entries that tile so many frames: those up to i end at a frame
abbrev next : Cue → Play → ℕ → Bool
next c p end = eqb c.place.0 end && eqb p.name.0 c.name.0 && eqb p.times 1

pub record Tiling (cs : List Cue) (ps : List Play) (frames i end : ℕ) : Type 0 where
  pub bound : end ≤ i * 4294967295
  pub same : tiled (drop i cs) (drop i ps) end frames ≡ tiled cs ps 0 frames

pub tile-begins : (cs : List Cue) (ps : List Play) (frames : ℕ) → Tiling cs ps frames 0 0
tile-begins cs ps frames = record { bound = omega arith; same = refl }

module _ {cs : List Cue} {ps : List Play} {frames i end : ℕ} (k : Tiling cs ps frames i end) (alike : length ps ≡ length cs) where
  pub tile-ends : length cs ≤ i → eqb end frames ≡ tiled cs ps 0 frames
  unfolding tiled
  tile-ends h = sym (λ j. tiled (drop_all i cs h j) (drop_all i ps (omega arith) j) end frames) ∙ k.same

  module _ (h : i < length cs) where
    abbrev rest : Bool
    rest = tiled (drop (i + 1) cs) (drop (i + 1) ps) (end + (get_or ps i no_play).length.0) frames

    step : (next (get_or cs i no_cue) (get_or ps i no_play) end && rest) ≡ tiled cs ps 0 frames
    unfolding tiled
    step = sym (λ j. tiled (drop-next cs i no_cue h j) (drop-next ps i no_play (omega arith) j) end frames) ∙ k.same

    pub tile-broken : {b : Bool} → b ≡ next (get_or cs i no_cue) (get_or ps i no_play) end → not b ≡ true → false ≡ tiled cs ps 0 frames
    tile-broken {b} e f = sym (ap (λ (x : Bool). x && rest) (sym e ∙ not-true b f)) ∙ step

    pub tile-next : {b : Bool} → b ≡ next (get_or cs i no_cue) (get_or ps i no_play) end → not b ≡ false → Fits w32 (get_or ps i no_play).length.0
        → Tiling cs ps frames (i + 1) (end + (get_or ps i no_play).length.0)
    tile-next {b} e f l =
        let a = k.bound in
        let c = l.fits in
        record { bound = omega arith; same = sym (ap (λ (x : Bool). x && rest) (sym e ∙ not-false b f)) ∙ step }

    pub end_fits : Fits w32 (get_or ps i no_play).length.0 → length cs ≤ 64 → Fits w64 (end + (get_or ps i no_play).length.0)
    end_fits l g = let a = k.bound in let c = l.fits in record { fits = omega arith }

pub ruleset tiling = (tile-begins, tile-ends, tile-broken, tile-next, end_fits)

-- ---- a side

module _ (c : Cues) (p : Playlist) (frames : ℕ) where
  pub counts-differ : c.count ≤ 64 → p.count ≤ 64 → length c.list ≡ 64 → length p.list ≡ 64 → (c.count ≡ p.count → ⊥)
      → false ≡ tiled (take c.count c.list) (take p.count p.list) 0 frames
  counts-differ h k a b g = by (tiled (take c.count c.list) (take p.count p.list) 0 frames) refl
    where
      by : (x : Bool) → tiled (take c.count c.list) (take p.count p.list) 0 frames ≡ x → false ≡ x
      by true e = absurd (g (counts-agree c p frames h k a b e))
      by false e = refl

  pub counts-alike : {r : Bool} → c.count ≡ p.count → r ≡ tiled (take c.count c.list) (take c.count p.list) 0 frames
      → r ≡ tiled (take c.count c.list) (take p.count p.list) 0 frames
  counts-alike g h = h ∙ simp g

pub ruleset judging = (array_long, counts-differ, counts-alike)
