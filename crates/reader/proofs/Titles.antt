-- The titles of a file in the words of the code: what their list adds to the other chunks; and where it stands, its texts, which are
-- as long as the record says. Assumes nothing.
use mathlib.Core.Path.{◌≡◌, refl, sym, ap, ◌∙◌, subst}
use mathlib.Core.Bool.{Bool, true, false, not, cond}
use mathlib.Core.List.{List, [], ◌∷◌, ◌++◌}
use Prim.Native.Nat.{ℕ, ◌≤◌, ◌<◌}
use native.Mathlib.Omega.{arith}
use lib.Dec.{T, leb}
use lib.Pow.{are_bytes}
use lib.ListN.{length}
use borrow.Author.Tests.{not-true, not-false, lt-leb, le-leb}
use Rattle.lists.specs.Among.{distinct}
use Rattle.lists.specs.Every.{every}
use Rattle.little.specs.Writing.{front, holding}
use Rattle.units.specs.Refusals.{file_limit, Verdict}
use Rattle.units.specs.declared.Refusal.{Refusal}
use Rattle.units.specs.declared.Refusal.TheVariants.{TitlesWrong, OutputTooSmall}
use Rattle.units.specs.Checks.{check, decided, and_then}
use Rattle.units.proofs.Checks.{then-decided}
use Rattle.riff.specs.declared.Directory.{Directory}
use Rattle.riff.specs.Chunks.{is_there, pad_lost, Spot}
use Rattle.riff.specs.Walk.{part_of}
use Rattle.riff.proofs.Walking.{whole-limit}
use Rattle.riff.proofs.Parting.{part-within, part_bytes_lem}
use Rattle.tables.specs.Cues.{names_in}
use Rattle.tables.specs.Bytes.{entry_bytes}
use Rattle.titles.specs.declared.Titles.{Titles}
use Rattle.titles.specs.Titles.{Entry, first_entries, entries_of, each_rule, names_by, entries_rule, texts_of, texts_end, no_titles}
use Rattle.titles.specs.Lists.{entries_in, list_form, list_valid, titles_of}
use Rattle.titles.specs.Writing.{texts_in_row, titles_right}
use Rattle.titles.proofs.Round.{none_in, none-texts, none-titles, none-valid, valid-form, valid-rule, valid-count, valid-ends, valid-there, valid-whole, valid-right, titles-many, texts-bytes as list-texts-bytes, texts-most as list-texts-most}
use Rattle.rules.specs.declared.Record.{Record}
use Rattle.rules.specs.Rules.{ChunkBytes, record_of, with_titles, chunk_checks, verdict_of, reading_by, judged, record_in, reading_verdict, Reading}
use Rattle.reader.specs.Content.{content_by, sound_part, titles_part, chunks_at, record_at, titles_valid, chunks_checks, titled, judged_at, content_in, content_of, reading_of, reading, spot_by, titles_place, titles_spot, titles_in, texts_in, reading_in}
use Rattle.reader.specs.Demands.{Refusing, TextsMost, TitlesTold}
use Rattle.reader.proofs.Demands.{by-file, refusing}
use Rattle.reader.proofs.Kept.{Held, formed, titles-valid}
use Rattle.std.specs.Prelude.{Err, None, Ok, Some, is_err}

-- ---- what chunks say, with the list of titles
-- a chunk that is not there has no data
absent : (s : List ℕ) (spot : Spot) → is_there spot ≡ false → part_of s spot [] ≡ []
absent s (Some p) e = let z : ◌≡◌ {A = ℕ} 0 1 = cc in absurd (omega arith)
absent s None e = refl

module _ (s : List ℕ) (d : Directory) where
  abbrev b : ChunkBytes
  b = chunks_at s d

  -- the verdict on the others, and where that accepts, the one on the list
  both-verdicts : (v : Verdict) → verdict_of (chunks_at s d) (record_of (chunks_at s d)) ≡ v
      → judged_at s d ≡ reading_by (and_then v (cond (titles_valid s d) (Ok tt) (Err TitlesWrong))) (record_at s d)
  unfolding judged_at chunks_checks chunk_checks decided
  both-verdicts v e =
      ap (λ (u : Verdict). reading_by u (record_at s d))
      (then-decided (chunk_checks b (record_at s d)) (check (titles_valid s d) TitlesWrong ∷ [])
      ∙ ap (λ (u : Verdict). and_then u (cond (titles_valid s d) (Ok tt) (Err TitlesWrong))) e)

  pub untitled-refused : is_err (judged (chunks_at s d)) ≡ true → judged_at s d ≡ judged (chunks_at s d)
  unfolding judged
  untitled-refused e = by (verdict_of b (record_of b)) refl e
    where
      by : (v : Verdict) → verdict_of b (record_of b) ≡ v → is_err (reading_by v (record_of b)) ≡ true
          → judged_at s d ≡ reading_by (verdict_of b (record_of b)) (record_of b)
      by (Ok _) f e = let z : ◌≡◌ {A = ℕ} 0 1 = cc in absurd (omega arith)
      by (Err r) f e = both-verdicts (Err r) f ∙ ap (λ (v : Verdict). reading_by v (record_of b)) (sym f)

  module _ {m : Record} (e : judged (chunks_at s d) ≡ Ok m) where
    takes : (v : Verdict) → reading_by v (record_of b) ≡ Ok m → (v ≡ Ok tt) × (record_of b ≡ m)
    takes (Ok _) e = (refl, ap record_in e)
    takes (Err r) e = let z : ◌≡◌ {A = ℕ} 0 1 = cc in absurd (omega arith)

    taken : (verdict_of b (record_of b) ≡ Ok tt) × (record_of b ≡ m)
    unfolding judged
    taken = takes (verdict_of b (record_of b)) e

    by-list : (y : Bool) → titles_valid s d ≡ y → judged_at s d ≡ reading_by (cond y (Ok tt) (Err TitlesWrong)) (record_at s d)
    by-list y f =
        both-verdicts (Ok tt) taken.0 ∙ ap (λ (y : Bool). reading_by (cond y (Ok tt) (Err TitlesWrong)) (record_at s d)) f

    pub titled-twice : d.second ≡ true → judged_at s d ≡ Err TitlesWrong
    titled-twice f = by-list false (simp f)

    pub titled-none : d.second ≡ false → is_there d.titles ≡ false → judged_at s d ≡ Ok m
    unfolding record_of
    titled-none f k =
        let missing : titles_part s d ≡ [] = absent s d.titles k in
        by-list true (simp (f, missing, none-valid))
        ∙ ap (λ (t : Titles). Ok (with_titles (record_of b) t)) (ap titles_of missing ∙ none-titles)
        ∙ ap (λ (x : Record). Ok x) taken.1

    pub titled-list : d.second ≡ false → judged_at s d ≡ titled m (pad_lost d.titles) (titles_part s d)
    unfolding titled
    titled-list f =
        by (list_valid (pad_lost d.titles) (titles_part s d) (names_in (record_of b).cues)) refl
        ∙ ap (λ (x : Record). titled x (pad_lost d.titles) (titles_part s d)) taken.1
      where
        by : (y : Bool) → list_valid (pad_lost d.titles) (titles_part s d) (names_in (record_of b).cues) ≡ y
            → judged_at s d ≡ titled (record_of b) (pad_lost d.titles) (titles_part s d)
        by true v = by-list true (simp (f, v)) ∙ sym (simp v)
        by false v = by-list false (simp (f, v)) ∙ sym (simp v)

pub part_limit : (s : List ℕ) (spot : Spot) → length s ≤ file_limit → length (part_of s spot []) ≤ file_limit
part_limit s spot h = omega (arith, part-within s spot)

pub ruleset titling = (untitled-refused, titled-twice, titled-none, titled-list, part_limit)

-- ---- what is known of the texts of every file, as it was read
pub record TextsKnown (s : List ℕ) (r : Reading) (spot : Spot) : Type 0 where
  pub few : (record_in r).titles.count ≤ 128
  pub ends : texts_end (record_in r).titles ≡ length (texts_of (entries_in (part_of s spot [])))
  pub short : length (part_of s spot []) ≤ file_limit
  pub form : list_form (pad_lost spot) (part_of s spot []) ≡ true
  pub none : is_there spot ≡ false → (record_in r).titles ≡ no_titles

texts-known : (s : List ℕ) → TextsKnown s (reading s) (titles_spot s)
unfolding texts_end
texts-known s =
    by-file s (λ r a t. TextsKnown s r t)
    (λ r.
    record {
      few = omega arith;
      ends = sym (ap length none-texts);
      short = omega arith;
      form = valid-form false [] [] (none-valid false []);
      none = λ e. refl;
    })
    (λ d w v.
    let e = titles-valid s d (formed s d v) in
    let names : List ℕ = names_in (record_at s d).cues in
    record {
      few = valid-count (pad_lost d.titles) (titles_part s d) names e;
      ends = valid-ends (pad_lost d.titles) (titles_part s d) names e;
      short = omega (arith, part-within s d.titles, whole-limit s refl w);
      form = valid-form (pad_lost d.titles) (titles_part s d) names e;
      none = λ f. ap titles_of (absent s d.titles f) ∙ none-titles;
    })

module _ (s : List ℕ) {m : Record} (a : reading s ≡ Ok m) where
  told : TextsKnown s (Ok m) (titles_spot s)
  told = subst (λ (x : Reading). TextsKnown s x (titles_spot s)) a (texts-known s)

  pub few-titles : m.titles.count ≤ 128
  few-titles = told.few

  pub texts-end : texts_end m.titles ≡ length (texts_in s)
  unfolding titles_in
  texts-end = told.ends

module _ (s : List ℕ) {spot : Spot} (t : spot ≡ titles_spot s) where
  known : TextsKnown s (reading s) spot
  known = subst (TextsKnown s (reading s)) (sym t) (texts-known s)

  pub texts-there : texts_of (entries_in (part_of s spot [])) ≡ texts_in s
  unfolding titles_in
  texts-there = ap (λ (x : Spot). texts_of (entries_in (part_of s x []))) t

  -- without a list there is nothing to put
  pub texts-absent : (d : List ℕ) → is_there spot ≡ false → front (texts_in s) d ≡ d
  unfolding front
  texts-absent d h =
      ap (λ (ys : List ℕ). front ys d) (sym texts-there ∙ ap (λ (l : List ℕ). texts_of (entries_in l)) (absent s spot h) ∙ none-texts)

  -- and the record has no titles, of a file that is refused too
  pub titles-absent : {r : Reading} {b : Bool} → r ≡ reading s → b ≡ is_there spot → b ≡ false → (record_in r).titles ≡ no_titles
  titles-absent a e h = ap (λ (x : Reading). (record_in x).titles) a ∙ known.none (sym e ∙ h)

  -- the same of the record of a file that is taken
  pub untitled-taken : {m : Record} → reading s ≡ Ok m → is_there spot ≡ false → m.titles ≡ no_titles
  untitled-taken a h = titles-absent (sym a) refl h

  pub list-short : length (part_of s spot []) ≤ file_limit
  list-short = known.short

  pub list-formed : list_form (pad_lost spot) (part_of s spot []) ≡ true
  list-formed = known.form

-- ---- reading, with the texts
module _ (s : List ℕ) (room : ℕ) where
  pub read-refused : is_err (reading s) ≡ true → reading_in s room ≡ reading s
  unfolding reading_in Refusing texts_of entry_bytes
  read-refused e = by (reading s) refl e
    where
      by : (x : Reading) → reading s ≡ x → is_err x ≡ true → reading_in s room ≡ reading s
      by (Ok m) f e = let z : ◌≡◌ {A = ℕ} 0 1 = cc in absurd (omega arith)
      by (Err r) f e =
          let n : texts_in s ≡ [] = ap texts_of (refusing s r (ap (λ (x : Reading). reading_verdict x) f)).titles in
          let fits : leb (length (texts_in s)) room ≡ true = le-leb (length (texts_in s)) room (omega (arith, ap length n)) in
          ap (λ (b : Bool). cond b (reading s) (Err OutputTooSmall)) fits

  pub read_short : leb (length (texts_in s)) room ≡ false → reading_in s room ≡ Err OutputTooSmall
  unfolding reading_in
  read_short e = simp e

  pub read_taken : leb (length (texts_in s)) room ≡ true → reading_in s room ≡ reading s
  unfolding reading_in
  read_taken e = simp e

pub ruleset texting = (few-titles, texts-end, texts-there, texts-absent, list-short, list-formed, read-refused, read_short, read_taken)

-- ---- the record's titles say what the list does, where the texts stand from the start of a buffer
pub titles-told : TitlesTold
unfolding TitlesTold titles_in first_entries
titles-told s rest =
    by-file s (λ r a t. entries_of (texts_of (entries_in (part_of s t [])) ++ rest) (record_in r).titles ≡ entries_in (part_of s t []))
    (λ r. sym none_in)
    (λ d w v.
    valid-there (pad_lost d.titles) (titles_part s d) (names_in (record_at s d).cues) (titles-valid s d (formed s d v)) rest)

-- ---- the titles of a file that is taken, by where its list stands
module _ (s : List ℕ) {m : Record} {w : List ℕ} (h : Held s m w) where
  abbrev list : List ℕ
  list = titles_part s h.places

  pub titles-held : titles_in s ≡ entries_in (titles_part s h.places)
  unfolding titles_in titles_spot reading content_of
  titles-held =
      let d : Directory = h.places in
      ap (λ (x : Spot). entries_in (part_of s x []))
      ((λ i. spot_by titles_place (reading_verdict (reading_of (content_in s (h.walked i)))) (h.walked i))
      ∙ (λ i. spot_by titles_place (reading_verdict (reading_of (content_by (h.verdict i) (record_at s d) (sound_part s d)))) (Ok d)))

  held-valid : list_valid (pad_lost h.places.titles) (titles_part s h.places) (names_in (record_at s h.places).cues) ≡ true
  held-valid = titles-valid s h.places (formed s h.places h.verdict)

  pub texts-held : entries_of (texts_in s) (titles_of (titles_part s h.places)) ≡ entries_in (titles_part s h.places)
  texts-held =
      ap (λ (es : List Entry). entries_of (texts_of es) (titles_of list)) titles-held
      ∙ valid-whole (pad_lost h.places.titles) list (names_in (record_at s h.places).cues) held-valid

-- ---- every record that is read has its titles as they may be written, with any cues that they keep the rule with
pub read-rule : (s : List ℕ) → entries_rule (names_in (record_in (reading s)).cues) (titles_in s) ≡ true
unfolding titles_in entries_rule each_rule every names_by distinct
read-rule s =
    by-file s (λ r a t. entries_rule (names_in (record_in r).cues) (entries_in (part_of s t [])) ≡ true)
    (λ r. ap (entries_rule (names_in (record_in (Err r)).cues)) none_in)
    (λ d w v. valid-rule (pad_lost d.titles) (titles_part s d) (names_in (record_at s d).cues) (titles-valid s d (formed s d v)))

pub read-right-for : (s cues : List ℕ) → entries_rule cues (titles_in s) ≡ true → titles_right cues (texts_in s) (record_in (reading s)).titles ≡ true
unfolding titles_in titles_right texts_in_row first_entries
read-right-for s cues =
    by-file s (λ r a t. entries_rule cues (entries_in (part_of s t [])) ≡ true → titles_right cues (texts_of (entries_in (part_of s t []))) (record_in r).titles ≡ true)
    (λ r e. sym (ap (entries_rule cues) none_in) ∙ e)
    (λ d w v e. valid-right (pad_lost d.titles) (titles_part s d) (names_in (record_at s d).cues) (titles-valid s d (formed s d v)) cues e)

pub read_right : (s : List ℕ) → titles_right (names_in (record_in (reading s)).cues) (texts_in s) (record_in (reading s)).titles ≡ true
read_right s = read-right-for s (names_in (record_in (reading s)).cues) (read-rule s)

-- ---- what every file's record has of titles: those of its list, as many as there are, whose texts are bytes where the file is
pub titles-made : (s : List ℕ) → (record_in (reading s)).titles ≡ titles_of (part_of s (titles_spot s) [])
titles-made s = by-file s (λ r a t. (record_in r).titles ≡ titles_of (part_of s t [])) (λ r. sym none-titles) (λ d w v. refl)

pub titles-count : (s : List ℕ) → (record_in (reading s)).titles.count ≡ length (titles_in s)
unfolding titles_in
titles-count s = ap (λ (t : Titles). t.count) (titles-made s) ∙ titles-many (part_of s (titles_spot s) [])

pub texts-bytes : (s : List ℕ) → T (are_bytes s) → T (are_bytes (texts_in s))
unfolding titles_in
texts-bytes s b = list-texts-bytes (part_of s (titles_spot s) []) (part_bytes_lem s (titles_spot s) [] b tt)

pub texts-within : TextsMost
unfolding TextsMost
texts-within s =
    list-texts-most (names_in (record_in (reading s)).cues) (titles_in s) (read-rule s)
    (omega (arith, (texts-known s).few, titles-count s))
