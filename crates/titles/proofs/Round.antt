-- There and back: titles that may be written are read back of their list, with their texts; and the titles of a list that is valid may be
-- written again, in a list that is not longer, also with one cue more. Assumes nothing.
use mathlib.Core.Path.{◌≡◌, refl, sym, ap, ◌∙◌, subst}
use mathlib.Core.Bool.{Bool, true, false, cond, ◌&&◌, and-false}
use mathlib.Core.List.{List, [], ◌∷◌, ◌++◌, map, append-nil}
use Prim.Native.Nat.{ℕ, zero, suc, ◌+◌, ◌-◌, ◌*◌, ◌%◌, ◌≤◌, ◌<◌, min}
use native.Mathlib.Omega.{arith}
use lib.Dec.{T, ltb, leb, lit<}
use lib.Pow.{are_bytes}
use lib.ListN.{length, take, drop, get_or, replicate, length-append, length-replicate, length-drop, drop_of_length-le}
use lib.Seq.{take_at, length-take-le, get_or-take}
use borrow.Author.Tests.{lt-ltb, le-leb, leb-true, leb-false, ltb-true}
use Rattle.lists.specs.Among.{index_in, has, distinct}
use Rattle.lists.specs.Every.{every}
use Rattle.lists.proofs.Laws.{and_both, every-all}
use Rattle.lists.proofs.Behind.{index_stays}
use Rattle.little.specs.Numbers.{number_at, bytes_of}
use Rattle.little.proofs.Reading.{length-bytes, number_fits, taken-bytes, dropped-bytes, both_bytes, number-bytes}
use Rattle.codes.specs.Codes.{code_bytes}
use Rattle.codes.specs.declared.Code.TheVariants as code
use Rattle.codes.proofs.Bytes.{length-code, code-bytes}
use Rattle.tables.specs.Bytes.{entry_bytes}
use Rattle.riff.specs.Chunks.{size_at, next_at, passes}
use Rattle.riff.specs.Laying.{piece, body_bytes}
use Rattle.riff.proofs.Laying.{length-body}
use Rattle.riff.proofs.Bytes.{body_bytes_lem}
use Rattle.riff.proofs.Padding.{next_place}
use Rattle.titles.specs.declared.Title.{Title}
use Rattle.titles.specs.declared.Titles.{Titles}
use Rattle.titles.specs.Titles.{Entry, no_entry, entry_in, first_entries, entries_of, closed, entry_rule, each_rule, names_by, entries_rule, text_of, texts_of, placed_from, no_title, no_titles, table_of, table_for, texts_end}
use Rattle.titles.specs.Lists.{front_kind, front_entry, front_rest, entries_by, entries_in, front_fits, tiles_by, tiles, list_form, list_valid, titles_of, Stands}
use Rattle.titles.specs.Writing.{title_code, piece_of, list_bytes, texts_in_row, titles_right, titles_kept, TitlesFit, Short, list_part, Sayable}
use Rattle.titles.proofs.Entries.{entries-long, entry_at}
use Rattle.titles.proofs.Walking.{title-size, fits_all, within, entries_none}
use Rattle.titles.proofs.Lists.{entry_kept, Kept, rule-kept}
use Rattle.titles.proofs.Texts.{NoneEmpty, row-long, placed-long, placed_row, row-placed, row-texts, ends-placed, texts-back}
use Rattle.titles.proofs.Back.{EntryFits, AllFit, AllShort, entries-back, list_written}

-- ---- titles that may be written
module _ (names s : List ℕ) (t : Titles) (fit : TitlesFit t) (e : titles_right names s t ≡ true) where
  abbrev es : List Entry
  es = entries_of s t

  right-both : ((leb t.count 128 && texts_in_row (length s) 0 (take t.count t.list)) ≡ true) × (entries_rule names (entries_of s t) ≡ true)
  unfolding titles_right
  right-both = and_both (leb t.count 128 && texts_in_row (length s) 0 (take t.count t.list)) (entries_rule names (entries_of s t)) e

  right-first : (leb t.count 128 ≡ true) × (texts_in_row (length s) 0 (take t.count t.list) ≡ true)
  right-first = and_both (leb t.count 128) (texts_in_row (length s) 0 (take t.count t.list)) right-both.0

  few : t.count ≤ 128
  few = leb-true t.count 128 right-first.0

  many : length es ≡ t.count
  many = entries-long s t.list t.count (omega (arith, few, fit.room))

  kept : (i : ℕ) → i < length es → Kept names (get_or es i no_entry)
  kept i h = rule-kept names (get_or es i no_entry) (entry_kept names es right-both.1 i h)

  at_place : (i : ℕ) → i < t.count → get_or es i no_entry ≡ entry_in s (get_or t.list i no_title)
  at_place i h = entry_at s t.list t.count (omega (arith, few, fit.room)) i h

  fits : AllFit es
  fits i h =
      let k = kept i h in
      let n : (get_or es i no_entry).name ≡ (get_or t.list i no_title).name.0 = ap (λ (x : Entry). x.name) (at_place i (omega (arith, many))) in
      record { kind = k.kind; name = omega (arith, fit.name i); some = k.some; long = omega (arith, k.short) }

  pub right-short : Short s t.list t.count
  right-short =
      record {
        few = few;
        texts = λ i h. subst (λ (x : Entry). length x.text ≤ 256) (at_place i h) (kept i (omega (arith, many))).short;
      }

  -- of their list the same titles are read
  pub round-entries : entries_in (list_bytes es) ≡ es
  round-entries = entries-back es fits

  pub round-titles : titles_of (list_bytes es) ≡ titles_kept t
  unfolding titles_kept first_entries
  round-titles = ap table_for round-entries ∙ ap table_of (row-placed 0 s (take t.count t.list) right-first.1)

  -- and the texts that are read are what was lent, from its start
  pub round-texts : texts_of es ≡ take (length (texts_of es)) s
  unfolding first_entries
  round-texts = row-texts 0 s (take t.count t.list) right-first.1

  pub round-valid : (lost : Bool) → list_valid lost (list_bytes es) names ≡ true
  unfolding list_valid
  round-valid lost =
      let r : entries_rule names (entries_in (list_bytes es)) ≡ true = ap (entries_rule names) round-entries ∙ right-both.1 in
      simp (list_written es fits lost (λ i h. (kept i h).short) (omega (arith, many, few)), r)

-- ---- titles that stand in a list whose titles keep the rule are short
pub rule-of : (names s : List ℕ) (t : Titles) → titles_right names s t ≡ true → entries_rule names (entries_of s t) ≡ true
unfolding titles_right
rule-of names s t e = (and_both (leb t.count 128 && texts_in_row (length s) 0 (take t.count t.list)) (entries_rule names (entries_of s t)) e).1

-- ---- no list is one without titles
pub none_in : entries_in [] ≡ []
unfolding entries_in entries_by
none_in = refl

pub none-texts : texts_of (entries_in []) ≡ []
unfolding texts_of entry_bytes
none-texts = ap texts_of none_in

pub none-titles : titles_of [] ≡ no_titles
unfolding table_of placed_from
none-titles = ap table_for none_in

pub none-valid : (lost : Bool) (names : List ℕ) → list_valid lost [] names ≡ true
unfolding list_valid list_form tiles tiles_by entries_rule each_rule every names_by distinct
none-valid lost names = simp none_in

-- a table without titles is read back of no list
pub no-entries : (s : List ℕ) (t : Titles) → t.count < 1 → entries_of s t ≡ []
unfolding first_entries
no-entries s t h = let e : t.count ≡ 0 = omega arith in ap (λ (n : ℕ). map (entry_in s) (take n t.list)) e

pub none_kept : (t : Titles) → t.count < 1 → titles_kept t ≡ no_titles
unfolding titles_kept table_of
none_kept t h = let e : t.count ≡ 0 = omega arith in ap (λ (n : ℕ). table_of (take n t.list)) e

pub no-list : length (list_bytes []) ≡ 4
unfolding list_bytes body_bytes code_bytes
no-list = refl

-- how many titles a table has that is read
pub titles-many : (l : List ℕ) → (titles_of l).count ≡ length (entries_in l)
unfolding table_of
titles-many l = placed-long 0 (entries_in l)

-- no title names a cue where there is none
pub no_names : (es : List Entry) → entries_rule [] es ≡ true → es ≡ []
unfolding has index_in
no_names [] e = refl
no_names (x ∷ es) e = absurd (omega (arith, ltb-true 0 0 (rule-kept [] x (entry_kept [] (x ∷ es) e 0 (omega arith))).named))

-- ---- a table that is read is as it would be read back
pub titles-kept : (l : List ℕ) → titles_kept (titles_of l) ≡ titles_of l
unfolding titles_kept table_of
titles-kept l =
    let ts : List Title = placed_from 0 (entries_in l) in
    ap table_of (take_at ts (replicate (128 - length ts) no_title) (length ts) refl)

-- past its count a table is zero
past-none : (ts : List Title) (n i : ℕ) → get_or (ts ++ replicate n no_title) i no_title ≡ get_or ts i no_title
past-none [] zero i = refl
past-none [] (suc n) zero = refl
past-none [] (suc n) (suc i) = past-none [] n i
past-none (t ∷ ts) n zero = refl
past-none (t ∷ ts) n (suc i) = past-none ts n i

pub titles-zero : (l : List ℕ) (i : ℕ) → (titles_of l).count ≤ i → get_or (titles_of l).list i no_title ≡ no_title
unfolding table_of
titles-zero l i h = let ts : List Title = placed_from 0 (entries_in l) in past-none ts (128 - length ts) i ∙ past ts i h
  where
    past : (ts : List Title) (k : ℕ) → length ts ≤ k → get_or ts k no_title ≡ no_title
    past [] k g = refl
    past (t ∷ ts) zero g = absurd (omega arith)
    past (t ∷ ts) (suc k) g = past ts k (omega arith)

-- ---- a list that is valid
module _ (lost : Bool) (l names : List ℕ) (e : list_valid lost l names ≡ true) where
  valid-both : (list_form lost l ≡ true) × (entries_rule names (entries_in l) ≡ true)
  unfolding list_valid
  valid-both = and_both (list_form lost l) (entries_rule names (entries_in l)) e

  pub valid-form : list_form lost l ≡ true
  valid-form = valid-both.0

  pub valid-rule : entries_rule names (entries_in l) ≡ true
  valid-rule = valid-both.1

  form_both : (tiles lost l ≡ true) × (leb (length (entries_in l)) 128 ≡ true)
  unfolding list_form
  form_both = and_both (tiles lost l) (leb (length (entries_in l)) 128) valid-form

  pub valid-few : length (entries_in l) ≤ 128
  valid-few = leb-true (length (entries_in l)) 128 form_both.1

  pub valid-count : (titles_of l).count ≤ 128
  unfolding table_of
  valid-count = omega (arith, placed-long 0 (entries_in l), valid-few)

  valid-some : NoneEmpty (entries_in l)
  valid-some i h = (rule-kept names (get_or (entries_in l) i no_entry) (entry_kept names (entries_in l) valid-rule i h)).some

  -- its texts end where the record says
  pub valid-ends : texts_end (titles_of l) ≡ length (texts_of (entries_in l))
  valid-ends = ends-placed (entries_in l) valid-some

  pub valid-there : (rest : List ℕ) → entries_of (texts_of (entries_in l) ++ rest) (titles_of l) ≡ entries_in l
  valid-there rest = texts-back (entries_in l) rest valid-some

  pub valid-whole : entries_of (texts_of (entries_in l)) (titles_of l) ≡ entries_in l
  valid-whole = ap (λ (s : List ℕ). entries_of s (titles_of l)) (sym (append-nil (texts_of (entries_in l)))) ∙ valid-there []

  -- its titles may be written with its texts, whatever the cues, where they keep the rule
  pub valid-right : (cues : List ℕ) → entries_rule cues (entries_in l) ≡ true → titles_right cues (texts_of (entries_in l)) (titles_of l) ≡ true
  unfolding titles_right table_of
  valid-right cues r =
      let ts : List Title = placed_from 0 (entries_in l) in
      let n : length ts ≤ 128 = omega (arith, placed-long 0 (entries_in l), valid-few) in
      let row : texts_in_row (length (texts_of (entries_in l))) 0 (take (length ts) (ts ++ replicate (128 - length ts) no_title)) ≡ true =
      ap (texts_in_row (length (texts_of (entries_in l))) 0) (take_at ts (replicate (128 - length ts) no_title) (length ts) refl)
      ∙ placed_row (length (texts_of (entries_in l))) 0 (entries_in l) valid-some (omega arith) in
      let rule = ap (entries_rule cues) valid-whole ∙ r in
      simp (le-leb (length ts) 128 n, row, rule)

-- ---- with one cue more the rule is kept too
has_more : (y x : ℕ) (ys : List ℕ) → has y ys ≡ true → has y (ys ++ (x ∷ [])) ≡ true
unfolding has
has_more y x ys e =
    lt-ltb (index_in y (ys ++ (x ∷ []))) (length (ys ++ (x ∷ [])))
    (omega (arith, index_stays y x ys e, ltb-true (index_in y ys) (length ys) e, length-append ys (x ∷ [])))

module _ (names : List ℕ) (x : ℕ) where
  entry_more : (y : Entry) → entry_rule names y ≡ true → entry_rule (names ++ (x ∷ [])) y ≡ true
  unfolding entry_rule
  entry_more y e =
      let a = and_both (ltb y.kind 2 && leb (length y.text) 256 && closed y.text) (has y.name names) e in
      simp (a.0, has_more y.name x names a.1)

  pub rule-more : (es : List Entry) → entries_rule names es ≡ true → entries_rule (names ++ (x ∷ [])) es ≡ true
  unfolding entries_rule each_rule
  rule-more es e =
      let a = and_both (each_rule names es && distinct (names_by 0 es)) (distinct (names_by 1 es)) e in
      let b = and_both (each_rule names es) (distinct (names_by 0 es)) a.0 in
      let c : every (λ i. entry_rule (names ++ (x ∷ [])) (get_or es i no_entry)) 0 (length es) ≡ true =
      every-all (λ i. entry_rule (names ++ (x ∷ [])) (get_or es i no_entry)) 0 (length es)
      (λ i _ h. entry_more (get_or es i no_entry) (entry_kept names es e i (omega arith))) in
      simp (c, b.1, a.1)

-- ---- a table that is read of bytes fits the fields that it is written to
names-fit : (n : ℕ) (l : List ℕ) → T (are_bytes l) → (i : ℕ) → (get_or (entries_by n l) i no_entry).name < 4294967296
unfolding entries_by front_entry
names-fit zero l b i = lit< tt
names-fit (suc n) l b i = by (names-fit n (front_rest l) (dropped-bytes (next_at l 0) l b)) (passes l 0) (ltb (front_kind l) 2) i
  where
    by : ((j : ℕ) → (get_or (entries_by n (front_rest l)) j no_entry).name < 4294967296) → (p k : Bool) (j : ℕ)
        → (get_or (cond p [] (cond k (front_entry l ∷ entries_by n (front_rest l)) (entries_by n (front_rest l)))) j no_entry).name < 4294967296
    by rest true k j = lit< tt
    by rest false true zero = number_fits 4 l 8 b
    by rest false true (suc j) = rest j
    by rest false false j = rest j

placed-name : (es : List Entry) (at i : ℕ) → (get_or (placed_from at es) i no_title).name.0 ≡ (get_or es i no_entry).name
unfolding placed_from
placed-name [] at i = refl
placed-name (e ∷ es) at zero = refl
placed-name (e ∷ es) at (suc i) = placed-name es (at + length e.text) i

pub titles-fit : (l : List ℕ) → T (are_bytes l) → length (entries_in l) ≤ 128 → TitlesFit (titles_of l)
unfolding table_of entries_in
titles-fit l b h =
    let es : List Entry = entries_by (length l) (drop 4 l) in
    let ts : List Title = placed_from 0 es in
    record {
      room = length-append ts (replicate (128 - length ts) no_title) ∙ omega (arith, placed-long 0 es, length-replicate (128 - length ts) no_title);
      name =
          λ i.
          subst (λ (n : ℕ). n < 4294967296)
          (sym (ap (λ (t : Title). t.name.0) (past-none ts (128 - length ts) i) ∙ placed-name es 0 i))
          (names-fit (length l) (drop 4 l) (dropped-bytes 4 l b) i);
    }

-- ---- a list that is valid, written again, is not longer than it was with its pad
-- the first chunk and what is left, of which the titles take no more than it has with its last pad
module _ (lost : Bool) (n : ℕ) (l : List ℕ) (t : tiles_by lost (suc n) l ≡ true)
    (rest : tiles_by lost n (front_rest l) ≡ true → length (body_bytes (map piece_of (entries_by n (front_rest l)))) ≤ length (front_rest l) + length (front_rest l) % 2) where
  module _ (w : passes l 0 ≡ false) where
    tiled-both : (front_fits lost l ≡ true) × (tiles_by lost n (front_rest l) ≡ true)
    unfolding tiles_by
    tiled-both =
        let some = lt-ltb 0 (length l) (omega (arith, within l w)) in
        and_both (front_fits lost l) (tiles_by lost n (front_rest l)) (sym (simp some) ∙ t)

    after : length (front_rest l) ≡ length l - min (8 + size_at l 0 + size_at l 0 % 2) (length l)
    after = length-drop (next_at l 0) l ∙ ap (λ (k : ℕ). length l - k) (next_place (size_at l 0) (8 + size_at l 0) (length l) (within l w))

    left : length (body_bytes (map piece_of (entries_by n (front_rest l)))) ≤ length (front_rest l) + length (front_rest l) % 2
    left = rest tiled-both.1

    one : ltb (front_kind l) 2 ≡ true → length (piece_of (front_entry l)).bytes ≡ size_at l 0
    unfolding piece_of front_entry
    one k =
        let z = title-size (front_kind l) (size_at l 0) (ltb-true (front_kind l) 2 k) (fits_all lost l tiled-both.0).1 in
        length-append (bytes_of 4 (number_at 4 l 8)) (take (size_at l 0 - 4) (drop 12 l))
        ∙ omega (arith, length-bytes 4 (number_at 4 l 8), length-take-le (size_at l 0 - 4) (drop 12 l) (omega (arith, length-drop 12 l, within l w)), z.0)

  shorter : length (body_bytes (map piece_of (entries_by (suc n) l))) ≤ length l + length l % 2
  unfolding entries_by body_bytes
  shorter = by (passes l 0) (ltb (front_kind l) 2) refl refl
    where
      by : (p k : Bool) → passes l 0 ≡ p → ltb (front_kind l) 2 ≡ k
          → length (body_bytes (map piece_of (cond p [] (cond k (front_entry l ∷ entries_by n (front_rest l)) (entries_by n (front_rest l)))))) ≤ length l + length l % 2
      by true k e f = omega arith
      by false true e f =
          omega (arith, length-body (piece_of (front_entry l)) (map piece_of (entries_by n (front_rest l))), ap (λ (i : ℕ). 8 + (i + i % 2)) (one e f), left e, after e, within l e)
      by false false e f = omega (arith, left e, after e, within l e)

chunks-shorter : (lost : Bool) (n : ℕ) (l : List ℕ) → tiles_by lost n l ≡ true
    → length (body_bytes (map piece_of (entries_by n l))) ≤ length l + length l % 2
unfolding entries_by body_bytes
chunks-shorter lost zero l t = omega arith
chunks-shorter lost (suc n) l t = shorter lost n l t (chunks-shorter lost n (front_rest l))

not-longer : (lost : Bool) (l : List ℕ) → tiles lost l ≡ true → 4 ≤ length l → length (list_bytes (entries_in l)) ≤ length l + length l % 2
unfolding tiles entries_in list_bytes
not-longer lost l t h =
    let body : List ℕ = body_bytes (map piece_of (entries_by (length l) (drop 4 l))) in
    let m : (length l - 4) % 2 ≡ length l % 2 = omega arith in
    omega (
      arith,
      length-append (code_bytes code.Titles) body,
      length-code code.Titles,
      chunks-shorter lost (length l) (drop 4 l) t,
      length-drop 4 l,
      ap (λ (k : ℕ). k % 2) (length-drop 4 l),
    )

-- a list with a title has more than its four letters
some-long : (l : List ℕ) → 1 ≤ length (entries_in l) → 4 ≤ length l
unfolding entries_in
some-long l h = by (leb 4 (length l)) refl
  where
    by : (b : Bool) → leb 4 (length l) ≡ b → 4 ≤ length l
    by true e = leb-true 4 (length l) e
    by false e =
        let n : drop 4 l ≡ [] = drop_of_length-le l {i = 4} (omega (arith, leb-false 4 (length l) e)) in
        absurd (omega (arith, ap length (ap (entries_by (length l)) n ∙ entries_none (length l))))

pub valid-shorter : (lost : Bool) (l names : List ℕ) → list_valid lost l names ≡ true → 1 ≤ (titles_of l).count
    → length (list_bytes (entries_in l)) ≤ length l + length l % 2
unfolding table_of
valid-shorter lost l names e h =
    not-longer lost l (form_both lost l names e).0 (some-long l (omega (arith, placed-long 0 (entries_in l))))

-- a list that is written is even, as each of its chunks is
even_body : (es : List Entry) → length (body_bytes (map piece_of es)) % 2 ≡ 0
unfolding body_bytes
even_body [] = refl
even_body (e ∷ es) = omega (arith, length-body (piece_of e) (map piece_of es), even_body es)

pub list-even : (es : List Entry) → length (list_bytes es) % 2 ≡ 0
unfolding list_bytes
list-even es =
    omega (arith, length-append (code_bytes code.Titles) (body_bytes (map piece_of es)), length-code code.Titles, even_body es)

-- ---- a list that is written of bytes is bytes
titles-bytes : (s : List ℕ) → T (are_bytes s) → (ts : List Title) → T (are_bytes (body_bytes (map piece_of (map (entry_in s) ts))))
unfolding body_bytes piece_of
titles-bytes s b [] = tt
titles-bytes s b (t ∷ ts) =
    body_bytes_lem (piece (title_code t.kind) (bytes_of 4 t.name.0 ++ (entry_in s t).text)) (map piece_of (map (entry_in s) ts))
    (both_bytes (bytes_of 4 t.name.0) (entry_in s t).text (number-bytes 4 t.name.0)
    (taken-bytes (t.length.0 + 1) (drop t.start.0 s) (dropped-bytes t.start.0 s b)))
    (titles-bytes s b ts)

pub list-bytes : (s : List ℕ) (t : Titles) → T (are_bytes s) → T (are_bytes (list_bytes (entries_of s t)))
unfolding list_bytes first_entries
list-bytes s t b = both_bytes (code_bytes code.Titles) _ (code-bytes code.Titles) (titles-bytes s b (take t.count t.list))

-- so are the texts of a list of bytes
texts-of-bytes : (n : ℕ) (l : List ℕ) → T (are_bytes l) → T (are_bytes (texts_of (entries_by n l)))
unfolding entries_by front_entry texts_of entry_bytes
texts-of-bytes zero l b = tt
texts-of-bytes (suc n) l b = by (texts-of-bytes n (front_rest l) (dropped-bytes (next_at l 0) l b)) (passes l 0) (ltb (front_kind l) 2)
  where
    by : T (are_bytes (entry_bytes text_of (entries_by n (front_rest l)))) → (p k : Bool)
        → T (are_bytes (entry_bytes text_of (cond p [] (cond k (front_entry l ∷ entries_by n (front_rest l)) (entries_by n (front_rest l))))))
    by rest true k = tt
    by rest false true =
        both_bytes (front_entry l).text (entry_bytes text_of (entries_by n (front_rest l)))
        (taken-bytes (size_at l 0 - 4) (drop 12 l) (dropped-bytes 12 l b)) rest
    by rest false false = rest

pub texts-bytes : (l : List ℕ) → T (are_bytes l) → T (are_bytes (texts_of (entries_in l)))
unfolding entries_in
texts-bytes l b = texts-of-bytes (length l) (drop 4 l) (dropped-bytes 4 l b)

-- ---- titles that stand in a list, and keep the rule as some others do, have no text that is too long
pub stands-short : (names l : List ℕ) (t : Titles) → Stands l t → {es : List Entry} → entries_rule names es ≡ true → entries_in l ≡ es
    → t.count ≤ 128 → Short l t.list t.count
stands-short names l t k {es} r e few =
    record {
      few = few;
      texts = λ i h.
          subst (λ (x : Entry). length x.text ≤ 256)
          (ap (λ (xs : List Entry). get_or xs i no_entry) (sym (k.entries ∙ e)) ∙ entry_at l t.list t.count (omega (arith, k.room)) i h)
          (rule-kept names (get_or es i no_entry) (entry_kept names es r i (omega (arith, k.many, ap length e)))).short;
    }

-- ---- titles that may not be written: a list says their fault where it is one of a text, a name or a title too many of a cue. It does
-- not say where their texts stood, what it has no room for, and a kind that is neither of the two
text-within : (es : List Entry) (i : ℕ) → i < length es → length (get_or es i no_entry).text ≤ length (body_bytes (map piece_of es))
unfolding body_bytes piece_of
text-within [] i h = absurd (omega arith)
text-within (e ∷ es) zero h =
    omega (arith, length-body (piece_of e) (map piece_of es), length-append (bytes_of 4 e.name) e.text)
text-within (e ∷ es) (suc i) h = omega (arith, length-body (piece_of e) (map piece_of es), text-within es i (omega arith))

module _ (names s : List ℕ) (t : Titles) (fit : TitlesFit t) (k : Sayable s t) (limit : length (list_bytes (entries_of s t)) ≤ 1073741824)
    (e : titles_right names s t ≡ false) where
  abbrev said : List Entry
  said = entries_of s t

  said-many : length (entries_of s t) ≡ t.count
  said-many = entries-long s t.list t.count (omega (arith, k.few, fit.room))

  broken : entries_rule names (entries_of s t) ≡ false
  unfolding titles_right
  broken = sym (simp (le-leb t.count 128 k.few, k.row)) ∙ e

  said-fit : AllFit (entries_of s t)
  unfolding list_bytes
  said-fit i h =
      let j : i < t.count = omega (arith, said-many) in
      let x : Title = get_or t.list i no_title in
      let n = get_or-take t.count t.list i no_title j in
      let long =
      row-long 0 s (take t.count t.list) k.row i (omega (arith, length-take-le t.count t.list (omega (arith, k.few, fit.room)))) in
      let text : length (entry_in s x).text ≡ x.length.0 + 1 = subst (λ (y : Title). length (entry_in s y).text ≡ y.length.0 + 1) n long in
      let within = text-within (entries_of s t) i h in
      let a = entry_at s t.list t.count (omega (arith, k.few, fit.room)) i j in
      subst EntryFits (sym a)
      (record {
        kind = k.kinds i j;
        name = fit.name i;
        some = omega arith;
        long =
            omega (arith, ap (λ (y : Entry). length y.text) a, length-append (code_bytes code.Titles) (body_bytes (map piece_of (entries_of s t))), within);
      })

  pub fault-said : (lost : Bool) → list_valid lost (list_part s t) names ≡ false
  unfolding list_valid first_entries entries_rule each_rule every names_by distinct
  fault-said lost = by (leb 1 t.count) refl
    where
      clash : ◌≡◌ {A = Bool} true false → ⊥
      clash c = subst (λ (z : Bool). cond z (Unit {0}) ⊥) c tt

      by : (x : Bool) → leb 1 t.count ≡ x → list_valid lost (cond x (list_bytes (entries_of s t)) []) names ≡ false
      by true g = simp (entries-back (entries_of s t) said-fit, broken, and-false)
      by false g = absurd (clash (sym (ap (entries_rule names) (no-entries s t (leb-false 1 t.count g))) ∙ broken))

-- ---- texts that keep the rule are not long
texts-shorter : (es : List Entry) → AllShort es → length (texts_of es) ≤ 256 * length es
unfolding texts_of entry_bytes
texts-shorter [] o = omega arith
texts-shorter (e ∷ es) o =
    omega (arith, length-append e.text (entry_bytes text_of es), o 0 (omega arith), texts-shorter es (λ i h. o (suc i) (omega arith)))

pub texts-most : (names : List ℕ) (es : List Entry) → entries_rule names es ≡ true → length es ≤ 128 → length (texts_of es) ≤ 32768
texts-most names es e h =
    omega (arith, texts-shorter es (λ i g. (rule-kept names (get_or es i no_entry) (entry_kept names es e i g)).short))
