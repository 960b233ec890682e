-- Laws of the rules on cues and on playlists, in the words of the code. Assumes nothing.
use mathlib.Core.Path.{◌≡◌, ap, ◌∙◌}
use mathlib.Core.Bool.{Bool, true, false, not, and-false}
use mathlib.Core.List.{List, map}
use Prim.Native.Nat.{ℕ, ◌+◌, ◌*◌, ◌≤◌, ◌<◌}
use native.Mathlib.Omega.{arith}
use lib.Dec.{leb}
use lib.ListN.{length, take, get_or, length-take, get_or-map}
use lib.Seq.{length-take-le, get_or-take}
use mir.Syntax.{w64}
use mir.Val.{Fits}
use borrow.Author.Tests.{le-leb, lt-leb, lt-ltb, not-true, not-false}
use Rattle.lists.specs.Among.{index_in, has, distinct}
use Rattle.lists.specs.Every.{every, all_below}
use Rattle.lists.proofs.Laws.{Holding, hold-begins, hold-ends, hold-fails, hold-next}
use Rattle.units.specs.declared.Frames.{Frames}
use Rattle.tables.specs.declared.Cues.{Cues}
use Rattle.tables.specs.declared.Play.{Play}
use Rattle.tables.specs.declared.Playlist.{Playlist}
use Rattle.tables.specs.Tables.{held}
use Rattle.tables.specs.Cues.{no_cue, name_of, place_of, names_in, places_in, cues_rule}
use Rattle.tables.specs.Plays.{no_play, is_cue, cue_place, plays_from, playable, all_playable, plays_rule}
use Rattle.tables.proofs.Entries.{held-room}
use Rattle.tables.proofs.Kept.{every-same}

-- ---- the first n numbers of arrays of m
module _ (n : ℕ) (xs : List ℕ) {m : ℕ} (e : length xs ≡ m) where
  pub part-long : n ≤ m → length (take n xs) ≡ n
  part-long h = length-take-le n xs (omega arith)

  pub parts-long : (ys : List ℕ) → length ys ≡ m → length (take n xs) ≡ length (take n ys)
  parts-long ys f = simp (length-take n xs, length-take n ys, e, f)

-- ---- the rule on cues
module _ (c : Cues) (f : Frames) where
  pub cues-too-many : {most : ℕ} → most < c.count → 64 ≤ most → false ≡ cues_rule c f
  unfolding cues_rule
  cues-too-many h g = simp (lt-leb c.count 64 (omega arith))

  module _ (n : ℕ) (e : n ≡ held c.count) (names : List ℕ) (g : names ≡ map name_of c.list) {b : Bool} (d : b ≡ distinct (take n names)) where
    pub cues-twice : b ≡ false → false ≡ cues_rule c f
    unfolding cues_rule names_in
    cues-twice k = simp (← e, ← g, ← d, k, and-false)

    pub cues-differ : b ≡ true → c.count ≤ 64 → (places : List ℕ) → places ≡ map place_of c.list
        → {r : Bool} → r ≡ all_below f.0 (take n places) → r ≡ cues_rule c f
    unfolding cues_rule names_in places_in
    cues-differ k h places m q = simp (le-leb c.count 64 h, ← e, ← g, ← d, k, ← m, q)

-- ---- one entry from a place
module _ (place f : Frames) (p : Play) where
  pub play-within : 1 ≤ p.length.0 → place.0 + p.length.0 ≤ f.0 → leb 1 p.times ≡ plays_from place f p
  unfolding plays_from
  play-within g k = simp (le-leb 1 p.length.0 g, le-leb (place.0 + p.length.0) f.0 k)

-- ---- one entry, whose name was looked for among the cues' and found or not
names-room : (c : Cues) → length (names_in c) ≤ 64
unfolding names_in
names-room c = omega (arith, length-take (held c.count) (map name_of c.list), held-room c.count)

pub found-room : (c : Cues) {names : List ℕ} {i : ℕ} → names ≡ names_in c → i < length names → i < 64
found-room c g h = omega (arith, names-room c, ap length g)

pub found-fits : (c : Cues) {names : List ℕ} (i : ℕ) → names ≡ names_in c → i < length names → Fits w64 (i * 12)
found-fits c i g h = record { fits = omega (arith, found-room c g h) }

place_read : (c : Cues) (i : ℕ) → i < length (names_in c) → get_or (places_in c) i 0 ≡ (get_or c.list i no_cue).place.0
unfolding places_in names_in
place_read c i h =
    let n : ℕ = held c.count in
    get_or-take n (map place_of c.list) i 0 (omega (arith, length-take n (map name_of c.list)))
    ∙ get_or-map place_of c.list i no_cue

module _ (c : Cues) (f : Frames) (p : Play) {names : List ℕ} (g : names ≡ names_in c) where
  pub play-unnamed : has p.name.0 names ≡ false → false ≡ playable c f p
  unfolding playable is_cue
  play-unnamed h = simp (rw g at h)

  pub play-named : (found : ℕ) {r : Bool} → found ≡ index_in p.name.0 names → found < length names
      → r ≡ plays_from (get_or c.list found no_cue).place f p → r ≡ playable c f p
  unfolding playable is_cue cue_place has
  play-named found e h q =
      let at : found ≡ index_in p.name.0 (names_in c) = e ∙ ap (index_in p.name.0) g in
      let l : found < length (names_in c) = rw g at h in
      q ∙ simp (← at, lt-ltb found (length (names_in c)) l, place_read c found l)

pub ruleset playing = (found-room, found-fits, play-unnamed, play-named)

-- ---- all entries, and the rule on a playlist
pub record Played (c : Cues) (f : Frames) (list : List Play) (n i : ℕ) : Type 0 where
  pub holding : Holding (λ k. playable c f (get_or list k no_play)) n i

module _ {c : Cues} {f : Frames} {list : List Play} {n : ℕ} where
  pub played-begins : Played c f list n 0
  played-begins = record { holding = hold-begins }

  module _ {i : ℕ} (w : Played c f list n i) where
    pub played-ends : n ≤ i → true ≡ all_playable c f list n
    unfolding all_playable
    played-ends h = hold-ends w.holding h

    module _ (h : i < n) {r : Bool} (q : r ≡ playable c f (get_or list i no_play)) where
      pub played-fails : not r ≡ true → false ≡ all_playable c f list n
      unfolding all_playable
      played-fails b = hold-fails w.holding h q (not-true r b)

      pub played-next : not r ≡ false → Played c f list n (i + 1)
      played-next b = record { holding = hold-next w.holding h q (not-false r b) }

pub ruleset played = (played-begins, played-ends, played-fails, played-next)

module _ (p : Playlist) (c : Cues) (f : Frames) where
  pub plays-too-many : {most : ℕ} → most < p.count → 64 ≤ most → false ≡ plays_rule p c f
  unfolding plays_rule
  plays-too-many h g = simp (lt-leb p.count 64 (omega arith))

  pub plays-all : {r : Bool} → p.count ≤ 64 → length p.list ≡ 64 → r ≡ all_playable c f (take p.count p.list) (length (take p.count p.list))
      → r ≡ plays_rule p c f
  unfolding plays_rule all_playable
  plays-all h l q =
      let n : length (take p.count p.list) ≡ p.count = length-take-le p.count p.list (omega arith) in
      q
      ∙ ap (every (λ i. playable c f (get_or (take p.count p.list) i no_play)) 0) n
      ∙ every-same (λ i. playable c f (get_or (take p.count p.list) i no_play)) (λ i. playable c f (get_or p.list i no_play)) 0 p.count
      (λ i k. ap (playable c f) (get_or-take p.count p.list i no_play (omega arith)))
      ∙ simp (le-leb p.count 64 h)

pub names-lent : (c : Cues) {n : ℕ} {names : List ℕ} → n ≡ held c.count → names ≡ map name_of c.list → take n names ≡ names_in c
unfolding names_in
names-lent c e g = λ i. take (e i) (g i)

pub ruleset ruling =
    (part-long, cues-too-many, cues-twice, cues-differ, plays-too-many, plays-all, names-lent, not-true, not-false)
