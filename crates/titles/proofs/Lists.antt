-- A list of a file in the words of the code: whether it is valid, its titles, and what is known of those of a list that is; and whether
-- titles may be written. Assumes nothing.
use mathlib.Core.Path.{◌≡◌, sym, ap, ◌∙◌, subst}
use mathlib.Core.Bool.{Bool, true, false, not, ◌&&◌, and-false}
use mathlib.Core.List.{List, ◌++◌, map}
use Rattle.std.proofs.Common.{None, Some}
use Prim.Native.Nat.{ℕ, ◌+◌, ◌-◌, ◌≤◌, ◌<◌}
use native.Mathlib.Omega.{arith}
use lib.Dec.{ltb, leb, eqb}
use lib.ListN.{length, take, get_or, replicate}
use lib.Seq.{length-take-le, get_or-take}
use borrow.Author.Tests.{not-true, not-false, ltb-true, leb-true, lt-leb, le-leb, eqb-true}
use Rattle.lists.specs.Among.{index_in, has, distinct}
use Rattle.lists.proofs.Laws.{and_both, every-at}
use Rattle.little.specs.Writing.{front}
use Rattle.tables.specs.declared.Cues.{Cues}
use Rattle.tables.specs.Cues.{names_in}
use Rattle.titles.specs.declared.Title.{Title}
use Rattle.titles.specs.declared.Titles.{Titles}
use Rattle.titles.specs.Titles.{Entry, no_entry, entry_in, first_entries, closed, entry_rule, each_rule, names_by, entries_rule, texts_of, placed_from, no_title, table_of, moved_in_turn}
use Rattle.titles.specs.Lists.{entries_in, tiles, list_form, list_valid, list_read, Stands, Formed}
use Rattle.titles.specs.Writing.{texts_in_row, titles_right}
use Rattle.titles.proofs.Entries.{entry_at}
use Rattle.titles.proofs.Texts.{turn-placed, placed-long}

-- ---- what keeping the rule says of each entry
module _ (names : List ℕ) (es : List Entry) (e : entries_rule names es ≡ true) where
  pub each-kept : each_rule names es ≡ true
  unfolding entries_rule
  each-kept = (and_both (each_rule names es) (distinct (names_by 0 es)) (and_both (each_rule names es && distinct (names_by 0 es)) (distinct (names_by 1 es)) e).0).0

  pub entry_kept : (i : ℕ) → i < length es → entry_rule names (get_or es i no_entry) ≡ true
  unfolding each_rule
  entry_kept i h = every-at (λ k. entry_rule names (get_or es k no_entry)) 0 (length es) i each-kept (omega arith) (omega arith)

-- a label or a note, 1 to 256 bytes of text, and the name of a cue
pub record Kept (names : List ℕ) (x : Entry) : Type 0 where
  pub kind : x.kind < 2
  pub some : 1 ≤ length x.text
  pub short : length x.text ≤ 256
  pub named : has x.name names ≡ true

pub rule-kept : (names : List ℕ) (x : Entry) → entry_rule names x ≡ true → Kept names x
unfolding entry_rule closed
rule-kept names x e =
    let k : Bool = ltb x.kind 2 in
    let l : Bool = leb (length x.text) 256 in
    let c : Bool = eqb (index_in 0 x.text + 1) (length x.text) in
    let a = and_both (k && l && c) (has x.name names) e in
    let b = and_both (k && l) c a.0 in
    let d = and_both k l b.0 in
    record {
      kind = ltb-true x.kind 2 d.0;
      some = omega (arith, eqb-true (index_in 0 x.text + 1) (length x.text) b.1);
      short = leb-true (length x.text) 256 d.1;
      named = a.1;
    }

-- ---- the titles that were found in a list of that form
module _ {lost : Bool} {l : List ℕ} {t : Titles} (formed : Formed lost l t) where
  f : list_form lost l ≡ true
  f = formed.form

  w : Stands l t
  w = formed.stands

  pub valid-few : t.count ≤ 128
  unfolding list_form
  valid-few = omega (arith, w.many, leb-true (length (entries_in l)) 128 (and_both (tiles lost l) (leb (length (entries_in l)) 128) f).1)

  module _ {ts : List Title} (q : ts ≡ take t.count t.list) where
    first-long : length ts ≡ t.count
    first-long = ap length q ∙ length-take-le t.count t.list (omega (arith, w.room, valid-few))

    first-at : (i : ℕ) → i < t.count → get_or ts i no_title ≡ get_or t.list i no_title
    first-at i h = ap (λ (xs : List Title). get_or xs i no_title) q ∙ get_or-take t.count t.list i no_title h

    pub first-few : length ts ≤ 128
    first-few = omega (arith, first-long, valid-few)

    said : map (entry_in l) ts ≡ entries_in l
    unfolding first_entries
    said = ap (map (entry_in l)) q ∙ w.entries

    -- their texts
    pub texts-room : {n : ℕ} → length (texts_of (entries_in l)) ≤ n → length (texts_of (map (entry_in l) ts)) ≤ n
    texts-room h = omega (arith, ap (λ (es : List Entry). length (texts_of es)) said)

    pub texts-all : (d : List ℕ) {g : List ℕ} → g ≡ front (texts_of (map (entry_in l) ts)) d → g ≡ front (texts_of (entries_in l)) d
    texts-all d h = h ∙ ap (λ (es : List Entry). front (texts_of es) d) said

    -- and whether they keep the rule
    module _ (names : List ℕ) {b : Bool} (e : b ≡ entries_rule names (map (entry_in l) ts)) where
      ruled : b ≡ entries_rule names (entries_in l)
      ruled = e ∙ ap (entries_rule names) said

      pub valid-broken : not b ≡ true → None ≡ list_read lost l names
      unfolding list_valid list_read
      valid-broken k = simp (sym ruled ∙ not-true b k, and-false)

      module _ (k : not b ≡ false) where
        kept : (i : ℕ) → i < t.count → Kept names (entry_in l (get_or t.list i no_title))
        kept i o =
            subst (Kept names)
            (ap (λ (es : List Entry). get_or es i no_entry) (sym w.entries) ∙ entry_at l t.list t.count (omega (arith, w.room, valid-few)) i o)
            (rule-kept names (get_or (entries_in l) i no_entry) (entry_kept names (entries_in l) (sym ruled ∙ not-false b k) i (omega (arith, w.many))))

        pub valid-short : (i : ℕ) → i < length ts → (get_or ts i no_title).length.0 ≤ 255
        valid-short i o =
            let h : i < t.count = omega (arith, first-long) in
            subst (λ (x : Title). x.length.0 ≤ 255) (sym (first-at i h)) (omega (arith, w.long i h, (kept i h).short))

        pub valid-made : {places : List Title} → places ≡ moved_in_turn 0 ts ++ replicate (128 - length ts) no_title
            → Some (record { count = t.count; list = places }) ≡ list_read lost l names
        unfolding list_read list_valid table_of
        valid-made {places} g =
            let p : moved_in_turn 0 ts ≡ placed_from 0 (entries_in l) =
            turn-placed 0 l ts
            (λ i o. subst (λ (x : Title). length (entry_in l x).text ≡ x.length.0 + 1) (sym (first-at i (omega (arith, first-long)))) (w.long i (omega (arith, first-long))))
            ∙ ap (placed_from 0) said in
            let m : t.count ≡ length (placed_from 0 (entries_in l)) = w.many ∙ sym (placed-long 0 (entries_in l)) in
            let r : places ≡ placed_from 0 (entries_in l) ++ replicate (128 - length (placed_from 0 (entries_in l))) no_title =
            g ∙ (λ j. p j ++ replicate (128 - (first-long ∙ m) j) no_title) in
            (λ i. Some (record { count = m i; list = r i })) ∙ sym (simp (f, sym ruled ∙ not-false b k))

pub unformed : (lost : Bool) (l names : List ℕ) → list_form lost l ≡ false → None ≡ list_read lost l names
unfolding list_read list_valid
unformed lost l names e = simp e

pub ruleset valid_list = (valid-few, first-few, valid-broken, valid-short, valid-made, unformed)

pub ruleset list_texts = (valid-few, first-few, texts-room, texts-all)

-- ---- titles that may be written
module _ (s : List ℕ) (t : Titles) (c : Cues) where
  pub right-many : 128 < t.count → false ≡ titles_right (names_in c) s t
  unfolding titles_right
  right-many h = simp (lt-leb t.count 128 h)

  pub right_few : t.count ≤ 128 → {ts : List Title} → ts ≡ take t.count t.list
      → titles_right (names_in c) s t ≡ (texts_in_row (length s) 0 ts && entries_rule (names_in c) (map (entry_in s) ts))
  unfolding titles_right first_entries
  right_few h q = simp (le-leb t.count 128 h, q)

pub ruleset right = (right-many, right_few)
