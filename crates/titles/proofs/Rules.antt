-- The rule on titles in the words of the code: a text, a title, all titles, and the cues that those of a kind name. Assumes nothing.
use Rattle.std.proofs.Common.{◌≡◌, refl, sym, ap, ◌∙◌, Bool, true, false, cond, ◌&&◌, List, [], ◌∷◌, ◌++◌, map, append-nil, ℕ, suc, ◌+◌, ◌-◌, ◌≤◌, ◌<◌, ◌↔◌, add-one, arith, eqb, length, take, drop, get_or, set, replicate, drop_of_length-le, length-append, drop-cons, take_at, Option, None, Some, position}
use lib.ListN.{length-map, length-replicate}
use lib.Seq.{set_at, append_snoc}
use borrow.Author.Tests.{eq-eqb, ne_eqb, ltb-false}
use Rattle.lists.specs.Among.{index_in, has, place_in, distinct}
use Rattle.lists.proofs.Laws.{place-some, every-is, position-place, place-found}
use Rattle.tables.specs.declared.Cues.{Cues}
use Rattle.tables.specs.Tables.{held}
use Rattle.tables.specs.Cues.{name_of, names_in}
use Rattle.titles.specs.declared.Title.{Title}
use Rattle.titles.specs.Titles.{Entry, no_entry, entry_in, closed, entry_rule, each_rule, names_by, entries_rule, no_title, no_titles}
use Rattle.titles.proofs.Entries.{said_at}

-- ---- a text: where its first zero is found, and where none is
module _ (text : List ℕ) where
  first-zero : {r : Option ℕ} → r ≡ position (λ y. eqb y 0) text → r ≡ place_in 0 text
  first-zero e = e ∙ position-place 0 text

  pub is-closed : {z : ℕ} → Some z ≡ position (λ y. eqb y 0) text → eqb (z + 1) (length text) ≡ closed text
  unfolding closed
  is-closed {z} e =
      let p : (z ≡ index_in 0 text) × (z < length text) = place-found 0 text (first-zero e) in
      ap (λ (k : ℕ). eqb (k + 1) (length text)) p.0

  pub is-open : None ≡ position (λ y. eqb y 0) text → false ≡ closed text
  unfolding closed has
  is-open e =
      let l : length text ≤ index_in 0 text = ltb-false (index_in 0 text) (length text) (place-found 0 text (first-zero e)) in
      simp (ne_eqb (index_in 0 text + 1) (length text) (λ (k : index_in 0 text + 1 ≡ length text). omega arith))

-- ---- a title that names a cue
pub ruleset named = (place-some)

-- ---- all titles
module _ (names s : List ℕ) (list : List Title) (r : Bool) where
  pub each-is : (r ≡ true ↔ ((k : ℕ) → k < length list → entry_rule names (entry_in s (get_or list k no_title)) ≡ true))
      → r ≡ each_rule names (map (entry_in s) list)
  unfolding each_rule
  each-is e =
      let es : List Entry = map (entry_in s) list in
      let n : length es ≡ length list = length-map list (entry_in s) in
      every-is (λ k. entry_rule names (get_or es k no_entry)) (length es) r (
        λ t k g. ap (entry_rule names) (said_at s list k (omega arith)) ∙ e.0 t k (omega arith),
        λ f. e.1 (λ k g. sym (ap (entry_rule names) (said_at s list k g)) ∙ f k (omega arith)),
      )

-- ---- the cues that titles of a kind name, of which count are in the array
pub record Naming (kind : ℕ) (list : List Title) (count i : ℕ) (names : List ℕ) : Type 0 where
  pub few : length list ≤ 128
  pub upto : count ≤ i
  pub within : i ≤ length list
  pub before : List ℕ
  pub many : length before ≡ count
  pub same : before ++ names_by kind (drop i (map (entry_in []) list)) ≡ names_by kind (map (entry_in []) list)
  pub held : names ≡ before ++ replicate (128 - count) 0

module _ {kind : ℕ} {list : List Title} where
  pub name-begins : length list ≤ 128 → Naming kind list 0 0 (replicate 128 0)
  name-begins h = record { few = h; upto = omega arith; within = omega arith; before = []; many = refl; same = refl; held = refl }

  module _ {count i : ℕ} {names : List ℕ} (w : Naming kind list count i names) where
    abbrev ones : List Entry
    ones = map (entry_in []) list

    all-long : length (map (entry_in []) list) ≡ length list
    all-long = length-map list (entry_in [])

    names-all : length list ≤ i → take count names ≡ names_by kind (map (entry_in []) list)
    unfolding names_by
    names-all h =
        ap (take count) w.held
        ∙ take_at w.before (replicate (128 - count) 0) count w.many
        ∙ sym (append-nil w.before)
        ∙ sym (ap (λ (l : List Entry). w.before ++ names_by kind l) (drop_of_length-le ones {i = i} (omega (arith, all-long))))
        ∙ w.same

    pub name-ends : {r : Bool} → length list ≤ i → r ≡ distinct (take count names) → r ≡ distinct (names_by kind (map (entry_in []) list))
    name-ends h e = e ∙ ap distinct (names-all h)

    pub name-bound : count ≤ 128
    name-bound = omega (arith, w.upto, w.within, w.few)

    pub name-long : length names ≡ 128
    name-long = ap length w.held ∙ length-append w.before _ ∙ omega (arith, w.many, name-bound, length-replicate {A = ℕ} (128 - count) 0)

    pub name-within : count ≤ length names
    name-within = omega (arith, name-bound, name-long)

    module _ (h : i < length list) where
      first : drop i ones ≡ entry_in [] (get_or list i no_title) ∷ drop (i + 1) ones
      first =
          drop-cons ones i no_entry (omega (arith, all-long))
          ∙ (λ j. said_at [] list i h j ∷ drop (sym (add-one i) j) ones)

      pub name-other : ((get_or list i no_title).kind ≡ kind → ⊥) → Naming kind list count (i + 1) names
      unfolding names_by
      name-other f =
          record {
            few = w.few;
            upto = omega (arith, w.upto);
            within = omega arith;
            before = w.before;
            many = w.many;
            same =
                sym (ap (λ (l : List Entry). w.before ++ names_by kind l) first ∙ simp (ne_eqb (get_or list i no_title).kind kind f))
                ∙ w.same;
            held = w.held;
          }

      pub name-room : count < 128
      name-room = omega (arith, w.upto, w.few)

      pub name-next : {x : ℕ} → (get_or list i no_title).kind ≡ kind → x ≡ (get_or list i no_title).name.0 → Naming kind list (count + 1) (i + 1) (set names count x)
      unfolding names_by
      name-next {x} f g =
          let m : 128 - count ≡ suc (128 - (count + 1)) = omega (arith, name-room) in
          let rest : List ℕ = replicate (128 - (count + 1)) 0 in
          let later : List ℕ = names_by kind (drop (i + 1) ones) in
          record {
            few = w.few;
            upto = omega (arith, w.upto);
            within = omega arith;
            before = w.before ++ (x ∷ []);
            many = length-append w.before (x ∷ []) ∙ omega (arith, w.many);
            same =
                append_snoc w.before x later
                ∙ ap (λ (y : ℕ). w.before ++ (y ∷ later)) g
                ∙ sym (ap (λ (l : List Entry). w.before ++ names_by kind l) first ∙ simp (eq-eqb (get_or list i no_title).kind kind f))
                ∙ w.same;
            held =
                ap (λ (l : List ℕ). set l count x) w.held
                ∙ ap (λ (k : ℕ). set (w.before ++ replicate k 0) count x) m
                ∙ set_at w.before 0 rest x count w.many
                ∙ sym (append_snoc w.before x rest);
          }

pub ruleset naming = (name-begins, name-ends, name-long, name-bound, name-within, name-other, name-room, name-next)

-- ---- a table of titles: each keeps its rule, and those of a kind differ. Names do not go by the texts
same_names : (kind : ℕ) (s : List ℕ) (ts : List Title) → names_by kind (map (entry_in s) ts) ≡ names_by kind (map (entry_in []) ts)
unfolding names_by
same_names kind s [] = refl
same_names kind s (t ∷ ts) =
    ap (λ (l : List ℕ). cond (eqb t.kind kind) (t.name.0 ∷ l) l) (same_names kind s ts)

pub rule_three : (names s : List ℕ) (list : List Title)
    → entries_rule names (map (entry_in s) list)
    ≡ (each_rule names (map (entry_in s) list) && distinct (names_by 0 (map (entry_in []) list)) && distinct (names_by 1 (map (entry_in []) list)))
unfolding entries_rule
rule_three names s list =
    λ i. each_rule names (map (entry_in s) list) && distinct (same_names 0 s list i) && distinct (same_names 1 s list i)

-- names that are those of cues
pub rule_for_cues : (c : Cues) {n : ℕ} {names : List ℕ} {r : Bool} (es : List Entry) → n ≡ held c.count → names ≡ map name_of c.list
    → r ≡ entries_rule (take n names) es → r ≡ entries_rule (names_in c) es
unfolding names_in
rule_for_cues c es e f g = g ∙ (λ i. entries_rule (take (e i) (f i)) es)

pub none_made : {list : List Title} → list ≡ replicate 128 no_title → record { count = 0; list = list } ≡ no_titles
none_made e = ap (λ (l : List Title). record { count = 0; list = l }) e
