-- A table with one entry more, once for both tables: its entries are the old ones and the new one behind them. Assumes nothing.
use mathlib.Core.Path.{◌≡◌, sym, ap, ◌∙◌, subst}
use mathlib.Core.List.{List, [], ◌∷◌, ◌++◌, map, map-append}
use Prim.Native.Nat.{ℕ, suc, ◌+◌, ◌-◌, ◌≤◌, ◌<◌}
use native.Mathlib.Numerals.{add-one}
use native.Mathlib.Omega.{arith}
use lib.ListN.{length, take, get_or, set, replicate, length-map, length-set}
use lib.Seq.{append_snoc, take-suc-set, set_at, length-take-le, get_or-set_same, get_or-set_other}
use Rattle.lists.proofs.Laws.{by_eqb}
use Rattle.tables.specs.declared.Cue.{Cue}
use Rattle.tables.specs.declared.Cues.{Cues}
use Rattle.tables.specs.declared.Play.{Play}
use Rattle.tables.specs.declared.Playlist.{Playlist}
use Rattle.tables.specs.Tables.{held}
use Rattle.tables.specs.Cues.{no_cue, name_of, place_of, names_in, places_in}
use Rattle.tables.specs.Plays.{no_play}
use Rattle.tables.specs.Bytes.{zero_past, cues_kept, plays_kept, CuesFit, PlaysFit}
use Rattle.tables.specs.More.{cues_with, plays_with}
use Rattle.tables.proofs.Entries.{held_all}
use Rattle.tables.proofs.Rules.{parts-long}
use Rattle.tables.proofs.Kept.{take-map}

module _ {A : Type 0} (list : List A) (n : ℕ) (x : A) (room : length list ≡ 64) (few : n < 64) where
  pub first_more : take (n + 1) (set list n x) ≡ take n list ++ (x ∷ [])
  first_more = ap (λ (k : ℕ). take k (set list n x)) (add-one n) ∙ take-suc-set list n x (omega arith)

  -- what holds of every entry, also past the count
  each_more : (z : A) (P : A → Type 0) → P x → ((i : ℕ) → P (get_or list i z)) → (i : ℕ) → P (get_or (set list n x) i z)
  each_more z P p q i =
      by_eqb i n (λ _. P (get_or (set list n x) i z))
      (λ (e : i ≡ n). subst P (sym (ap (λ (k : ℕ). get_or (set list n x) k z) e ∙ get_or-set_same list n x z (omega arith))) p)
      (λ e. subst P (sym (get_or-set_other list n i x z e)) (q i))

  -- the room past the count stays zero
  zero_more : (z : A) → zero_past z n list ≡ list → zero_past z (n + 1) (set list n x) ≡ set list n x
  unfolding zero_past
  zero_more z e =
      let r : ℕ = 64 - (n + 1) in
      let h : suc r ≡ 64 - n = omega arith in
      let old : take n list ++ (z ∷ replicate r z) ≡ list =
      ap (λ (k : ℕ). take n list ++ replicate k z) h ∙ ap (λ (k : ℕ). take k list ++ replicate (64 - k) z) (held_all n (omega arith)) ∙ e in
      ap (λ (k : ℕ). take k (set list n x) ++ replicate (64 - k) z) (sym (held_all (n + 1) (omega arith)))
      ∙ ap (λ (l : List A). l ++ replicate r z) first_more
      ∙ append_snoc (take n list) x (replicate r z)
      ∙ sym (set_at (take n list) z (replicate r z) x n (length-take-le n list (omega arith)))
      ∙ ap (λ (l : List A). set l n x) old

-- ---- the names of the cues, and their places
values-first : (c : Cues) → c.count ≤ 64 → (f : Cue → ℕ) → take (held c.count) (map f c.list) ≡ map f (take c.count c.list)
values-first c h f = ap (λ (k : ℕ). take k (map f c.list)) (sym (held_all c.count h)) ∙ take-map f c.count c.list

pub names-first : (c : Cues) → c.count ≤ 64 → names_in c ≡ map name_of (take c.count c.list)
unfolding names_in
names-first c h = values-first c h name_of

pub names-places : (c : Cues) → length (names_in c) ≡ length (places_in c)
unfolding names_in places_in
names-places c =
    parts-long (held c.count) (map name_of c.list) (length-map c.list name_of) (map place_of c.list) (length-map c.list place_of)

module _ (c : Cues) (x : Cue) (room : length c.list ≡ 64) (few : c.count < 64) where
  values-more : (f : Cue → ℕ)
      → take (held (cues_with c x).count) (map f (cues_with c x).list) ≡ take (held c.count) (map f c.list) ++ (f x ∷ [])
  unfolding cues_with
  values-more f =
      values-first (cues_with c x) (omega arith) f
      ∙ ap (map f) (first_more c.list c.count x room few)
      ∙ map-append f (take c.count c.list) (x ∷ [])
      ∙ ap (λ (l : List ℕ). l ++ (f x ∷ [])) (sym (values-first c (omega arith) f))

  pub names_more : names_in (cues_with c x) ≡ names_in c ++ (name_of x ∷ [])
  unfolding names_in
  names_more = values-more name_of

  pub places-more : places_in (cues_with c x) ≡ places_in c ++ (place_of x ∷ [])
  unfolding places_in
  places-more = values-more place_of

-- ---- the table that is read back is the same
pub cues-kept-more : (c : Cues) (x : Cue) → length c.list ≡ 64 → c.count < 64 → cues_kept c ≡ c → cues_kept (cues_with c x) ≡ cues_with c x
unfolding cues_kept cues_with
cues-kept-more c x room few e =
    let z = zero_more c.list c.count x room few no_cue (ap (λ (d : Cues). d.list) e) in
    λ i. record { count = c.count + 1; list = z i }

pub plays-kept-more : (p : Playlist) (x : Play) → length p.list ≡ 64 → p.count < 64 → plays_kept p ≡ p
    → plays_kept (plays_with p x) ≡ plays_with p x
unfolding plays_kept plays_with
plays-kept-more p x room few e =
    let z = zero_more p.list p.count x room few no_play (ap (λ (q : Playlist). q.list) e) in
    λ i. record { count = p.count + 1; list = z i }

-- ---- the numbers of a table fit their fields
pub cues-fit-more : (c : Cues) (x : Cue) → CuesFit c → c.count < 64
    → x.name.0 < 4294967296 → x.position.0 < 4294967296 → x.place.0 < 4294967296 → CuesFit (cues_with c x)
unfolding cues_with
cues-fit-more c x h few a b d =
    let each = each_more c.list c.count x h.room few no_cue in
    record {
      count = omega arith;
      room = length-set c.list c.count x ∙ h.room;
      name = each (λ e. e.name.0 < 4294967296) a h.name;
      position = each (λ e. e.position.0 < 4294967296) b h.position;
      place = each (λ e. e.place.0 < 4294967296) d h.place;
    }

pub plays-fit-more : (p : Playlist) (x : Play) → PlaysFit p → p.count < 64
    → x.name.0 < 4294967296 → x.length.0 < 4294967296 → x.times < 4294967296 → PlaysFit (plays_with p x)
unfolding plays_with
plays-fit-more p x h few a b d =
    let each = each_more p.list p.count x h.room few no_play in
    record {
      count = omega arith;
      room = length-set p.list p.count x ∙ h.room;
      name = each (λ e. e.name.0 < 4294967296) a h.name;
      long = each (λ e. e.length.0 < 4294967296) b h.long;
      times = each (λ e. e.times < 4294967296) d h.times;
    }
