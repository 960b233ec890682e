-- The rules on cues and on playlists with one entry more, whose cue has a new name: the old entries keep them, as their cues are where
-- they were. Assumes nothing.
use mathlib.Core.Path.{◌≡◌, sym, ap, ◌∙◌}
use mathlib.Core.Bool.{true, false, ◌&&◌}
use mathlib.Core.List.{List, [], ◌∷◌, ◌++◌}
use Prim.Native.Nat.{ℕ, ◌+◌, ◌≤◌, ◌<◌}
use native.Mathlib.Omega.{arith}
use lib.Dec.{leb, ltb}
use lib.ListN.{length, get_or, set, length-append, get_or-append}
use lib.Seq.{get_or-append_seam, get_or-set_same, get_or-set_other}
use borrow.Author.Tests.{le-leb, lt-ltb, leb-true, ltb-true}
use Rattle.lists.specs.Among.{index_in, has, distinct}
use Rattle.lists.specs.Every.{every, all_below}
use Rattle.lists.proofs.Laws.{and_both}
use Rattle.units.specs.declared.Donation.{Donation}
use Rattle.units.specs.declared.Frames.{Frames}
use Rattle.tables.specs.declared.Cue.{Cue}
use Rattle.tables.specs.declared.Cues.{Cues}
use Rattle.tables.specs.declared.Play.{Play}
use Rattle.tables.specs.declared.Playlist.{Playlist}
use Rattle.tables.specs.Cues.{name_of, place_of, names_in, places_in, cues_rule}
use Rattle.tables.specs.Plays.{no_play, is_cue, cue_place, plays_from, playable, all_playable, plays_rule}
use Rattle.tables.specs.More.{cues_with, plays_with}
use Rattle.tables.proofs.Rules.{play-within}
use Rattle.lists.proofs.Behind.{index_stays, index-last, distinct_more, every_more, below_more}
use Rattle.tables.proofs.Behind.{names-places, names_more, places-more}

-- ---- a cue looked up in a table that has one more: an old one stays where it is, and the new one is found
module _ (c : Cues) (x : Cue) (room : length c.list ≡ 64) (few : c.count < 64) (n : Donation) where
  abbrev names : List ℕ
  names = names_in c ++ (name_of x ∷ [])

  abbrev places : List ℕ
  places = places_in c ++ (place_of x ∷ [])

  -- by its index, in both lists
  looked : (i p : ℕ) → index_in n.0 names ≡ i → i < length names → get_or places i 0 ≡ p
      → (is_cue (cues_with c x) n ≡ true) × (cue_place (cues_with c x) n ≡ record { 0 = p })
  unfolding is_cue cue_place has
  looked i p e h g = (
    (λ k. ltb (index_in n.0 (names_more c x room few k)) (length (names_more c x room few k)))
        ∙ lt-ltb (index_in n.0 names) (length names) (omega arith),
    (λ k. record { 0 = get_or (places-more c x room few k) (index_in n.0 (names_more c x room few k)) 0 })
        ∙ (λ k. record { 0 = get_or places (e k) 0 })
        ∙ (λ k. record { 0 = g k }),
  )

  cue-stays : is_cue c n ≡ true → (is_cue (cues_with c x) n ≡ true) × (cue_place (cues_with c x) n ≡ cue_place c n)
  unfolding is_cue cue_place has
  cue-stays e =
      let i : ℕ = index_in n.0 (names_in c) in
      let h : i < length (names_in c) = ltb-true i (length (names_in c)) e in
      looked i (get_or (places_in c) i 0) (index_stays n.0 (name_of x) (names_in c) e)
      (omega (arith, length-append (names_in c) (name_of x ∷ [])))
      (get_or-append (places_in c) (place_of x ∷ []) 0 i (omega (arith, names-places c)))

  cue-last : n.0 ≡ name_of x → has (name_of x) (names_in c) ≡ false
      → (is_cue (cues_with c x) n ≡ true) × (cue_place (cues_with c x) n ≡ x.place)
  cue-last e new =
      looked (length (names_in c)) (place_of x)
      (ap (λ (k : ℕ). index_in k names) e ∙ index-last (name_of x) (names_in c) new)
      (omega (arith, length-append (names_in c) (name_of x ∷ [])))
      (ap (λ (k : ℕ). get_or places k 0) (names-places c) ∙ get_or-append_seam (places_in c) (place_of x) [] 0)

-- an entry that plays within F plays within more
plays-longer : (place f g : Frames) (p : Play) → f.0 ≤ g.0 → plays_from place f p ≡ true → plays_from place g p ≡ true
unfolding plays_from
plays-longer place f g p l e =
    let x = and_both (leb 1 p.length.0 && leb (place.0 + p.length.0) f.0) (leb 1 p.times) e in
    let y = and_both (leb 1 p.length.0) (leb (place.0 + p.length.0) f.0) x.0 in
    sym (play-within place g p (leb-true 1 p.length.0 y.0)
    (omega (arith, leb-true (place.0 + p.length.0) f.0 y.1)))
    ∙ x.1

-- ---- the rules
pub cues-few : (c : Cues) (f : Frames) → cues_rule c f ≡ true → c.count ≤ 64
unfolding cues_rule
cues-few c f e =
    let p = and_both (leb c.count 64 && distinct (names_in c)) (all_below f.0 (places_in c)) e in
    leb-true c.count 64 (and_both (leb c.count 64) (distinct (names_in c)) p.0).0

pub plays-few : (p : Playlist) (c : Cues) (f : Frames) → plays_rule p c f ≡ true → p.count ≤ 64
unfolding plays_rule
plays-few p c f e =
    leb-true p.count 64 (and_both (leb p.count 64) (all_playable c f p.list p.count) e).0

-- with one more
module _ (c : Cues) (x : Cue) (room : length c.list ≡ 64) (few : c.count < 64) (f g : Frames) (more : f.0 ≤ g.0)
    (new : has (name_of x) (names_in c) ≡ false) where
  pub cues-rule-more : cues_rule c f ≡ true → place_of x < g.0 → cues_rule (cues_with c x) g ≡ true
  unfolding cues_rule cues_with
  cues-rule-more e h =
      let p = and_both (leb c.count 64 && distinct (names_in c)) (all_below f.0 (places_in c)) e in
      let q = and_both (leb c.count 64) (distinct (names_in c)) p.0 in
      simp (
        le-leb (c.count + 1) 64 (omega arith),
        names_more c x room few,
        places-more c x room few,
        distinct_more (name_of x) (names_in c) q.1 new,
        below_more (place_of x) f.0 g.0 (places_in c) p.1 more h,
      )

  pub plays-rule-more : (p : Playlist) (y : Play) → length p.list ≡ 64 → p.count < 64 → plays_rule p c f ≡ true
      → y.name.0 ≡ name_of x → 1 ≤ y.length.0 → place_of x + y.length.0 ≤ g.0 → 1 ≤ y.times
      → plays_rule (plays_with p y) (cues_with c x) g ≡ true
  unfolding plays_rule all_playable plays_with playable
  plays-rule-more p y long less e n h l t =
      let list : List Play = set p.list p.count y in
      let q = and_both (leb p.count 64) (all_playable c f p.list p.count) e in
      let both : (z : Play) (place : Frames) → (is_cue (cues_with c x) z.name ≡ true) × (cue_place (cues_with c x) z.name ≡ place)
      → plays_from place g z ≡ true → playable (cues_with c x) g z ≡ true =
      λ z place w d. (λ i. w.0 i && plays_from (w.1 i) g z) ∙ d in
      let last : playable (cues_with c x) g (get_or list p.count no_play) ≡ true =
      ap (playable (cues_with c x) g) (get_or-set_same p.list p.count y no_play (omega arith))
      ∙ both y x.place (cue-last c x room few y.name n new) (sym (play-within x.place g y h l) ∙ le-leb 1 y.times t) in
      let all : every (λ i. playable (cues_with c x) g (get_or list i no_play)) 0 (p.count + 1) ≡ true =
      every_more (λ i. playable c f (get_or p.list i no_play)) (λ i. playable (cues_with c x) g (get_or list i no_play))
      p.count q.1
      (λ k b d.
      let z : Play = get_or p.list k no_play in
      let r = and_both (is_cue c z.name) (plays_from (cue_place c z.name) f z) d in
      ap (playable (cues_with c x) g) (get_or-set_other p.list p.count k y no_play (λ (r : k ≡ p.count). omega arith))
      ∙ both z (cue_place c z.name) (cue-stays c x room few z.name r.0) (plays-longer (cue_place c z.name) f g z more r.1))
      last in
      simp (le-leb (p.count + 1) 64 (omega arith), all)
