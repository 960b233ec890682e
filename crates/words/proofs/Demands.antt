-- The words of a record say it again: each number stands where it is taken from, whatever follows. Assumes nothing.
use mathlib.Core.Path.{◌≡◌, refl, sym, ap, ◌∙◌}
use mathlib.Core.List.{List, [], ◌∷◌, ◌++◌, append_assoc}
use Prim.Native.Nat.{ℕ, suc, ◌+◌, ◌*◌, ◌≤◌, ◌<◌}
use native.Mathlib.Nat.{add-zero, mul-le-mul_left}
use native.Mathlib.Omega.{arith}
use lib.ListN.{length, drop, get_or, set, replicate, length-append}
use lib.Seq.{drop_at, drop-append-add, drop-append-le, get_or-drop}
use Rattle.tables.specs.Bytes.{entry_bytes}
use Rattle.tables.specs.Cues.{no_cue}
use Rattle.tables.specs.Plays.{no_play}
use Rattle.std.proofs.lemmas.List.{get_or_default}
use Rattle.tables.proofs.Lengths.{entries-long, entry-from}
use Rattle.titles.specs.Titles.{no_title}
use Rattle.rules.specs.declared.Record.{Record}
use Rattle.words.specs.Words.{head_words, cue_words, play_words, title_words, titles_words, table_words, record_words}
use Rattle.words.specs.Words.{word, format_from, cue_from, cues_from, play_from, entries_from, title_from, titles_from, record_from}
use Rattle.words.specs.Demands.{Roomy, Long, WordsBack}
use Rattle.words.proofs.Laws.{many_said, cue-long, play-long, title-long, tables-long, titles-long}

pub long : Long
unfolding Long record_words
long m r =
    omega (
      arith,
      tables-long m.cues.list m.playlist.list r.cues r.plays,
      titles-long m.titles r.titles,
      length-append (table_words m) (titles_words m.titles),
    )

-- ---- a table of entries of so many words each, behind other words
module _ {A : Type 0} (none : A) (size : ℕ) (words : A → List ℕ) (read : List ℕ → ℕ → A) (fixed : (a : A) → length (words a) ≡ size)
    (here : (w : List ℕ) (at : ℕ) → read w at ≡ read (drop at w) 0) (said : (a : A) (rest : List ℕ) → read (words a ++ rest) 0 ≡ a) where
  entry-back : (before rest : List ℕ) (list : List A) (k : ℕ) → k < length list
      → read (before ++ (entry_bytes words list ++ rest)) (length before + size * k) ≡ get_or list k none
  entry-back before rest list k h =
      let s : List ℕ = entry_bytes words list in
      let m : size * k ≤ size * length list = mul-le-mul_left size (omega arith) in
      let l : size * k ≤ length s = omega (arith, entries-long words size fixed list) in
      let behind : List ℕ = drop (size * (k + 1)) s in
      here (before ++ (s ++ rest)) (length before + size * k)
      ∙ ap (λ (w : List ℕ). read w 0) (drop-append-add before (s ++ rest) (size * k))
      ∙ ap (λ (w : List ℕ). read w 0) (drop-append-le (size * k) s rest l)
      ∙ ap (λ (w : List ℕ). read (w ++ rest) 0) (entry-from words size fixed list k none h)
      ∙ ap (λ (w : List ℕ). read w 0) (append_assoc (words (get_or list k none)) behind rest)
      ∙ said (get_or list k none) (behind ++ rest)

  -- the whole table, where w is what stands before it, the table and the rest
  list_back : {n : ℕ} (many : ℕ → List A) (at : ℕ) (w before rest : List ℕ) (list : List A)
      → ((k : ℕ) → many (suc k) ≡ set (many k) k (read w (at + size * k))) → many 0 ≡ replicate n none → length list ≡ n
      → length before ≡ at → w ≡ before ++ (entry_bytes words list ++ rest) → many n ≡ list
  list_back {n} many at w before rest list more begin h b e =
      sym
      (many_said none n many (λ k. read w (at + size * k)) list more begin h
      (λ k g x.
      get_or_default list k x none (omega arith)
      ∙ sym
      (ap (λ (v : List ℕ). read v (at + size * k)) e
      ∙ ap (λ (l : ℕ). read (before ++ (entry_bytes words list ++ rest)) (l + size * k)) (sym b)
      ∙ entry-back before rest list k (omega arith))))

-- ---- one entry
cue-here : (w : List ℕ) (at : ℕ) → cue_from w at ≡ cue_from (drop at w) 0
cue-here w at =
    λ i. record {
      name = record { 0 = (ap (word w) (sym (add-zero at)) ∙ sym (get_or-drop at w 0 0)) i };
      position = record { 0 = sym (get_or-drop at w 1 0) i };
      place = record { 0 = sym (get_or-drop at w 2 0) i };
    }

play-here : (w : List ℕ) (at : ℕ) → play_from w at ≡ play_from (drop at w) 0
play-here w at =
    λ i. record {
      name = record { 0 = (ap (word w) (sym (add-zero at)) ∙ sym (get_or-drop at w 0 0)) i };
      length = record { 0 = sym (get_or-drop at w 1 0) i };
      times = sym (get_or-drop at w 2 0) i;
    }

title-here : (w : List ℕ) (at : ℕ) → title_from w at ≡ title_from (drop at w) 0
title-here w at =
    λ i. record {
      kind = (ap (word w) (sym (add-zero at)) ∙ sym (get_or-drop at w 0 0)) i;
      name = record { 0 = sym (get_or-drop at w 1 0) i };
      start = record { 0 = sym (get_or-drop at w 2 0) i };
      length = record { 0 = sym (get_or-drop at w 3 0) i };
    }

-- ---- the whole
module _ (m : Record) (rest : List ℕ) (r : Roomy m) where
  abbrev cues : List ℕ
  cues = entry_bytes cue_words m.cues.list

  abbrev plays : List ℕ
  plays = entry_bytes play_words m.playlist.list

  abbrev titles : List ℕ
  titles = entry_bytes title_words m.titles.list

  abbrev count : List ℕ
  count = m.titles.count ∷ []

  -- what stands before the titles' count
  abbrev before : List ℕ
  before = head_words m ++ (cues ++ plays)

  before-long : length before ≡ 393
  before-long = omega (arith, tables-long m.cues.list m.playlist.list r.cues r.plays)

  by_count : record_words m ++ rest ≡ before ++ (count ++ (titles ++ rest))
  unfolding record_words titles_words
  by_count =
      append_assoc (head_words m) ((cues ++ plays) ++ (count ++ titles)) rest
      ∙ ap (λ (w : List ℕ). head_words m ++ w) (append_assoc (cues ++ plays) (count ++ titles) rest)
      ∙ sym (append_assoc (head_words m) (cues ++ plays) (count ++ (titles ++ rest)))

  by-titles : record_words m ++ rest ≡ (before ++ count) ++ (titles ++ rest)
  by-titles = by_count ∙ sym (append_assoc before count (titles ++ rest))

  by-cues : record_words m ++ rest ≡ head_words m ++ (cues ++ (plays ++ (count ++ (titles ++ rest))))
  by-cues =
      by_count
      ∙ append_assoc (head_words m) (cues ++ plays) (count ++ (titles ++ rest))
      ∙ ap (λ (w : List ℕ). head_words m ++ w) (append_assoc cues plays (count ++ (titles ++ rest)))

  by-plays : record_words m ++ rest ≡ (head_words m ++ cues) ++ (plays ++ (count ++ (titles ++ rest)))
  by-plays = by-cues ∙ sym (append_assoc (head_words m) cues (plays ++ (count ++ (titles ++ rest))))

  cues-said : cues_from (record_words m ++ rest) 64 ≡ m.cues.list
  unfolding cues_from
  cues-said =
      list_back no_cue 3 cue_words cue_from cue-long cue-here (λ c u. refl) (cues_from (record_words m ++ rest)) 9 (record_words m ++ rest)
      (head_words m) (plays ++ (count ++ (titles ++ rest))) m.cues.list (λ k. refl) refl r.cues refl by-cues

  plays-said : entries_from (record_words m ++ rest) 64 ≡ m.playlist.list
  unfolding entries_from
  plays-said =
      let n : length (head_words m ++ cues) ≡ 201 = omega (arith, length-append (head_words m) cues, entries-long cue_words 3 cue-long m.cues.list, r.cues) in
      list_back no_play 3 play_words play_from play-long play-here (λ p u. refl) (entries_from (record_words m ++ rest)) 201 (record_words m ++ rest)
      (head_words m ++ cues) (count ++ (titles ++ rest)) m.playlist.list (λ k. refl) refl r.plays n by-plays

  count-said : word (record_words m ++ rest) 393 ≡ m.titles.count
  count-said =
      let behind : List ℕ = count ++ (titles ++ rest) in
      ap (λ (w : List ℕ). word w 393) by_count
      ∙ sym (get_or-drop 393 (before ++ behind) 0 0)
      ∙ ap (λ (w : List ℕ). word w 0) (drop_at before behind 393 before-long)

  titles-said : titles_from (record_words m ++ rest) 128 ≡ m.titles.list
  unfolding titles_from
  titles-said =
      let n : length (before ++ count) ≡ 394 = omega (arith, length-append before count, before-long) in
      list_back no_title 4 title_words title_from title-long title-here (λ t u. refl) (titles_from (record_words m ++ rest)) 394 (record_words m ++ rest)
      (before ++ count) rest m.titles.list (λ k. refl) refl r.titles n by-titles

pub words_back : WordsBack
unfolding WordsBack record_from format_from record_words
words_back m rest r =
    λ i. record {
      format = m.format;
      frames = m.frames;
      cues = record { count = m.cues.count; list = cues-said m rest r i };
      playlist = record { count = m.playlist.count; list = plays-said m rest r i };
      titles = record { count = count-said m rest r i; list = titles-said m rest r i };
    }
