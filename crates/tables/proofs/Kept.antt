-- A table as it is read back keeps the rule where the table does: rules look only at the entries up to the count. Assumes nothing.
use mathlib.Core.Path.{◌≡◌, refl, sym, ap, ◌∙◌}
use mathlib.Core.Bool.{Bool, true, false, ◌&&◌}
use mathlib.Core.List.{List, [], ◌∷◌, map}
use Prim.Native.Nat.{ℕ, zero, suc, ◌+◌, ◌-◌, ◌<◌}
use native.Mathlib.Omega.{arith}
use lib.Dec.{leb}
use lib.ListN.{length, take, get_or, replicate, get_or-append}
use lib.Seq.{length-take-le, take_at, get_or-take}
use borrow.Author.Tests.{leb-true}
use Rattle.lists.specs.Among.{distinct, index_in, has}
use Rattle.lists.specs.Every.{every, all_below}
use Rattle.units.specs.declared.Frames.{Frames}
use Rattle.tables.specs.declared.Cues.{Cues}
use Rattle.tables.specs.declared.Play.{Play}
use Rattle.tables.specs.declared.Playlist.{Playlist}
use Rattle.tables.specs.Tables.{held}
use Rattle.tables.specs.Cues.{no_cue, name_of, place_of, names_in, places_in, cues_rule}
use Rattle.tables.specs.Plays.{no_play, is_cue, cue_place, plays_from, playable, all_playable, plays_rule}
use Rattle.tables.specs.Bytes.{zero_past, cues_kept, plays_kept}
use Rattle.tables.proofs.Entries.{held_all, held-room}

pub take-map : {A B : Type 0} (f : A → B) (n : ℕ) (l : List A) → take n (map f l) ≡ map f (take n l)
take-map f zero l = refl
take-map f (suc n) [] = refl
take-map {B = B} f (suc n) (x ∷ l) = ap (λ (m : List B). f x ∷ m) (take-map f n l)

pub every-same : (a b : ℕ → Bool) (i n : ℕ) → ((k : ℕ) → k < i + n → a k ≡ b k) → every a i n ≡ every b i n
unfolding every
every-same a b i zero f = refl
every-same a b i (suc n) f = λ j. f i (omega arith) j && every-same a b (suc i) n (λ k h. f k (omega arith)) j

-- ---- the entries up to the count
module _ {A : Type 0} (z : A) (count : ℕ) (list : List A) (h : length list ≡ 64) where
  first-long : length (take (held count) list) ≡ held count
  first-long = length-take-le (held count) list (omega (arith, held-room count))

  kept-first : take (held count) (zero_past z count list) ≡ take (held count) list
  unfolding zero_past
  kept-first = take_at (take (held count) list) (replicate (64 - held count) z) (held count) first-long

  kept-values : {B : Type 0} (f : A → B) → take (held count) (map f (zero_past z count list)) ≡ take (held count) (map f list)
  kept-values f = take-map f (held count) (zero_past z count list) ∙ ap (map f) kept-first ∙ sym (take-map f (held count) list)

  kept_at : (i : ℕ) → i < held count → get_or (zero_past z count list) i z ≡ get_or list i z
  unfolding zero_past
  kept_at i l =
      get_or-append (take (held count) list) (replicate (64 - held count) z) z i (omega (arith, first-long))
      ∙ get_or-take (held count) list i z l

-- ---- cues
module _ (c : Cues) (h : length c.list ≡ 64) where
  pub kept-names : names_in (cues_kept c) ≡ names_in c
  unfolding names_in cues_kept
  kept-names = kept-values no_cue c.count c.list h name_of

  kept-places : places_in (cues_kept c) ≡ places_in c
  unfolding places_in cues_kept
  kept-places = kept-values no_cue c.count c.list h place_of

pub cues-rule-kept : (c : Cues) (f : Frames) → length c.list ≡ 64 → cues_rule (cues_kept c) f ≡ cues_rule c f
unfolding cues_rule cues_kept
cues-rule-kept c f h = λ i. leb c.count 64 && distinct (kept-names c h i) && all_below f.0 (kept-places c h i)

-- ---- playlists
kept-plays : (c : Cues) (f : Frames) (p : Play) → length c.list ≡ 64 → playable (cues_kept c) f p ≡ playable c f p
unfolding playable is_cue cue_place
kept-plays c f p h =
    λ i.
    has p.name.0 (kept-names c h i)
    && plays_from (record { 0 = get_or (kept-places c h i) (index_in p.name.0 (kept-names c h i)) 0 }) f p

module _ (p : Playlist) (c : Cues) (f : Frames) (h : length p.list ≡ 64) (g : length c.list ≡ 64) where
  -- more than 64 are refused as they are
  kept-playable : (b : Bool) → leb p.count 64 ≡ b
      → (b && all_playable (cues_kept c) f (plays_kept p).list p.count) ≡ (b && all_playable c f p.list p.count)
  unfolding all_playable plays_kept
  kept-playable false e = refl
  kept-playable true e =
      let n = held_all p.count (leb-true p.count 64 e) in
      every-same
      (λ i. playable (cues_kept c) f (get_or (zero_past no_play p.count p.list) i no_play))
      (λ i. playable c f (get_or p.list i no_play))
      0
      p.count
      (λ i l.
      kept-plays c f (get_or (zero_past no_play p.count p.list) i no_play) g
      ∙ ap (playable c f) (kept_at no_play p.count p.list h i (omega arith)))

  pub plays-rule-kept : plays_rule (plays_kept p) (cues_kept c) f ≡ plays_rule p c f
  unfolding plays_rule plays_kept
  plays-rule-kept = kept-playable (leb p.count 64) refl
