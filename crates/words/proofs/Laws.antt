-- Laws of a record's words, in the words of the code. Assumes nothing.
use mathlib.Core.Path.{◌≡◌, refl, sym, ap, ◌∙◌, subst}
use mathlib.Core.Bool.{Bool, true}
use mathlib.Core.List.{List, [], ◌∷◌, ◌++◌, append-nil}
use Prim.Native.Nat.{ℕ, zero, suc, ◌+◌, ◌-◌, ◌*◌, ◌≤◌, ◌<◌}
use native.Mathlib.Nat.{mul-zero, mul-le-mul_left}
use native.Mathlib.Omega.{arith}
use lib.ListN.{length, take, get_or, set, replicate, length-append, length-replicate}
use lib.Dec.{ltb}
use lib.Seq.{take_all}
use Rattle.formats.specs.declared.Format.{Format}
use borrow.Author.Tests.{ltb-true}
use Rattle.std.proofs.Common.{below_more, get_or-set_other, get_or-set_same, ◌≢◌}
use Rattle.little.specs.Writing.{Put, front}
use borrow.Rule.Slice.PartMut.{put_mid}
use Rattle.little.proofs.Filling.{Written, write-begins, write-piece, write-ends, put-long, put_next, put_front, put_part}
use Rattle.lists.specs.Every.{all_below}
use Rattle.lists.proofs.Laws.{every-at}
use Rattle.tables.specs.declared.Cue.{Cue}
use Rattle.tables.specs.declared.Play.{Play}
use Rattle.tables.specs.Bytes.{entry_bytes}
use Rattle.tables.specs.Cues.{no_cue}
use Rattle.tables.specs.Plays.{no_play}
use Rattle.tables.proofs.Putting.{array_long}
use Rattle.tables.proofs.Back.{entries-kept}
use Rattle.tables.proofs.Lengths.{entries-long, entry-from}
use Rattle.titles.specs.declared.Title.{Title}
use Rattle.titles.specs.declared.Titles.{Titles}
use Rattle.titles.specs.Titles.{no_title, no_titles}
use Rattle.rules.specs.declared.Record.{Record}
use Rattle.rules.specs.Written.{RecordFits}
use Rattle.rules.proofs.Typed.{record-typed}
use Rattle.words.specs.Words.{head_words, cue_words, play_words, title_words, titles_words, table_words, record_words}
use Rattle.words.specs.Words.{word, fields_fit, cue_from, cues_from, play_from, entries_from, title_from, titles_from, format_from, record_from}

-- ---- the fields of 16 bits
abbrev fields : List ℕ → List ℕ
fields w = word w 0 ∷ word w 1 ∷ word w 3 ∷ word w 4 ∷ word w 5 ∷ []

pub fields-asked : (w : List ℕ) {b : Bool} → b ≡ all_below 65536 (fields w) → b ≡ fields_fit w
unfolding fields_fit
fields-asked w e = e

module _ (w : List ℕ) (f : fields_fit w ≡ true) where
  field : (k : ℕ) → k < 5 → get_or (fields w) k 0 < 65536
  unfolding fields_fit all_below
  field k h = ltb-true (get_or (fields w) k 0) 65536 (every-at (λ i. ltb (get_or (fields w) i 0) 65536) 0 5 k f (omega arith) (omega arith))

  pub tag_fits : word w 0 < 65536
  tag_fits = field 0 (omega arith)

  pub channels-fit : word w 1 < 65536
  channels-fit = field 1 (omega arith)

  pub bits_fit : word w 3 < 65536
  bits_fit = field 2 (omega arith)

  pub align_fits : word w 4 < 65536
  align_fits = field 3 (omega arith)

  pub samples-fit : word w 5 < 65536
  samples-fit = field 4 (omega arith)

pub ruleset fitting = (fields-asked, tag_fits, channels-fit, bits_fit, align_fits, samples-fit)

-- ---- a table taken from words: many k is the definition's list with its first k entries taken
pub many_said : {A : Type 0} (none : A) (n : ℕ) (many : ℕ → List A) (entry : ℕ → A) (list : List A)
    → ((k : ℕ) → many (suc k) ≡ set (many k) k (entry k)) → many 0 ≡ replicate n none → length list ≡ n
    → ((k : ℕ) → k < n → (x : A) → get_or list k x ≡ entry k) → list ≡ many n
many_said none n many entry list more begin h f =
    let z : n - n ≡ 0 = omega arith in
    sym
    (entries-kept none many entry list more begin h n (omega arith) (λ k g. sym (f k g none))
    ∙ ap (λ (k : ℕ). take n list ++ replicate k none) z
    ∙ append-nil (take n list)
    ∙ take_all n list (omega arith))

module _ (w : List ℕ) where
  pub cues_taken : (list : List Cue) → length list ≡ 64 → ((k : ℕ) → k < 64 → (x : Cue) → get_or list k x ≡ cue_from w (9 + 3 * k)) → list ≡ cues_from w 64
  unfolding cues_from
  cues_taken list = many_said no_cue 64 (cues_from w) (λ k. cue_from w (9 + 3 * k)) list (λ k. refl) refl

  pub plays_taken : (list : List Play) → length list ≡ 64 → ((k : ℕ) → k < 64 → (x : Play) → get_or list k x ≡ play_from w (201 + 3 * k)) → list ≡ entries_from w 64
  unfolding entries_from
  plays_taken list = many_said no_play 64 (entries_from w) (λ k. play_from w (201 + 3 * k)) list (λ k. refl) refl

  pub titles_taken : (list : List Title) → length list ≡ 128 → ((k : ℕ) → k < 128 → (x : Title) → get_or list k x ≡ title_from w (394 + 4 * k)) → list ≡ titles_from w 128
  unfolding titles_from
  titles_taken list = many_said no_title 128 (titles_from w) (λ k. title_from w (394 + 4 * k)) list (λ k. refl) refl

-- one entry more is taken, where f says each
pub entry_taken : {A : Type 0} (f : ℕ → A) (list : List A) (i : ℕ) {v : A} → ((k : ℕ) → k < i → (x : A) → get_or list k x ≡ f k) → i < length list → v ≡ f i
    → (k : ℕ) → k < i + 1 → (x : A) → get_or (set list i v) k x ≡ f k
entry_taken f list i {v} w h e =
    below_more (λ k. (x : _) → get_or (set list i v) k x ≡ f k) i
    (λ k g x. let ne : k ≢ i = omega arith in rw get_or-set_other (w k g x))
    (λ x. rw get_or-set_same e)

pub ruleset taking = (cues_taken, plays_taken, titles_taken)

-- ---- a table put into words, or taken from them: each entry has its own, as many as every other
pub entry_room : (size at : ℕ) {i n m : ℕ} → i < n → at + size * n ≤ m → at + size * i + size ≤ m
entry_room size at {i} {n} h k = let l : size * (i + 1) ≤ size * n = mul-le-mul_left size (omega arith) in omega arith

module _ {A : Type 0} (words : A → List ℕ) (size : ℕ) (fixed : (x : A) → length (words x) ≡ size) (list : List A) {at : ℕ} where
  pub list_begins : {d : List ℕ} → at + size * length list ≤ length d → Written (entry_bytes words list) at (size * 0) d d
  list_begins h = rw (mul-zero size) (write-begins (omega (arith, entries-long words size fixed list)))

  module _ {d d₀ : List ℕ} (i : ℕ) (w : Written (entry_bytes words list) at (size * i) d d₀) where
    pub list_room : i < length list → at + size * i + size ≤ length d
    list_room h = entry_room size at h (omega (arith, w.room, w.filled.long, entries-long words size fixed list))

    pub list_next : {e ys : List ℕ} {x : A} → i < length list → x ≡ get_or list i x → Put d (at + size * i) ys e → ys ≡ words x
        → Written (entry_bytes words list) at (size * (i + 1)) e d₀
    list_next {e} {ys} {x} h g p q =
        write-piece w (subst (λ (l : List ℕ). Put d (at + size * i) l e) (q ∙ ap words g) p) (entry-from words size fixed list i x h)
        (omega (arith, fixed (get_or list i x)))
        (let l : size * (i + 1) ≤ size * length list = mul-le-mul_left size (omega arith) in omega (arith, entries-long words size fixed list))

    pub list_ends : length list ≤ i → Put d₀ at (entry_bytes words list) d
    list_ends h = let l : size * length list ≤ size * i = mul-le-mul_left size h in write-ends w (omega (arith, entries-long words size fixed list))

pub ruleset listing = (list_begins, list_room, list_next, list_ends)

pub cue-long : (c : Cue) → length (cue_words c) ≡ 3
cue-long c = refl

pub play-long : (p : Play) → length (play_words p) ≡ 3
play-long p = refl

pub title-long : (t : Title) → length (title_words t) ≡ 4
title-long t = refl

-- ---- the whole record
module _ (cues : List Cue) (plays : List Play) (h : length cues ≡ 64) (l : length plays ≡ 64) where
  cues-long : length (entry_bytes cue_words cues) ≡ 192
  cues-long = omega (arith, entries-long cue_words 3 cue-long cues)

  plays-long : length (entry_bytes play_words plays) ≡ 192
  plays-long = omega (arith, entries-long play_words 3 play-long plays)

  pub tables-long : length (entry_bytes cue_words cues ++ entry_bytes play_words plays) ≡ 384
  tables-long = omega (arith, cues-long, plays-long, length-append (entry_bytes cue_words cues) (entry_bytes play_words plays))

  pub tables-put : {d e f : List ℕ} → 393 ≤ length d → Put d 9 (entry_bytes cue_words cues) e → Put e 201 (entry_bytes play_words plays) f
      → Put d 9 (entry_bytes cue_words cues ++ entry_bytes play_words plays) f
  tables-put r p q = put_next p q (omega (arith, cues-long)) (omega (arith, cues-long, plays-long))

module _ (t : Titles) where
  pub titles-long : length t.list ≡ 128 → length (titles_words t) ≡ 513
  unfolding titles_words
  titles-long h = omega (arith, entries-long title_words 4 title-long t.list)

  module _ {d e : List ℕ} (r : 906 ≤ length d) (p : Put d 393 (t.count ∷ []) e) where
    pub title-list-room : 394 + 4 * 128 ≤ length e
    title-list-room = omega (arith, put-long p (omega arith))

    pub titles-put : {f : List ℕ} → length t.list ≡ 128 → Put e 394 (entry_bytes title_words t.list) f → Put d 393 (titles_words t) f
    unfolding titles_words
    titles-put h q = put_next p q refl (omega (arith, entries-long title_words 4 title-long t.list))

pub ruleset titles_putting = (array_long, title-list-room, titles-put)

-- ---- a word again and again
pub same_put : {d ys : List ℕ} (at n k word : ℕ) → at + n ≤ length d → k ≡ n → ys ≡ replicate n word → Put d at (replicate n word) (put_mid at k d ys)
same_put {d} {ys} at n k word h g e =
    subst (λ (l : List ℕ). Put d at l (put_mid at k d ys)) e (put_part at k (ap length e ∙ length-replicate n word ∙ sym g))

-- ---- the record
pub before_put : (m : Record) {d e f g head : List ℕ} → 906 ≤ length d → head ≡ head_words m → Put d 0 head e
    → Put e 9 (entry_bytes cue_words m.cues.list) f → Put f 201 (entry_bytes play_words m.playlist.list) g
    → length m.cues.list ≡ 64 → length m.playlist.list ≡ 64 → Put d 0 (head_words m ++ table_words m) g
before_put m {d} {e} r t p q s h k =
    let headed : Put d 0 (head_words m) e = subst (λ (ys : List ℕ). Put d 0 ys e) t p in
    put_next headed (tables-put m.cues.list m.playlist.list h k (omega (arith, put-long headed (omega arith))) q s) refl
    (omega (arith, tables-long m.cues.list m.playlist.list h k))

-- no titles are 513 zeros, as many as their number
blank-titles : (n : ℕ) → entry_bytes title_words (replicate n no_title) ≡ replicate (4 * n) 0
unfolding entry_bytes
blank-titles zero = refl
blank-titles (suc n) = ap (λ (ys : List ℕ). 0 ∷ 0 ∷ 0 ∷ 0 ∷ ys) (blank-titles n) ∙ ap (λ (k : ℕ). replicate k 0) four-more
  where
    four-more : suc (suc (suc (suc (4 * n)))) ≡ 4 * suc n
    four-more = omega arith

module _ (m : Record) {d f : List ℕ} (r : 906 ≤ length d) (h : RecordFits m) (p : Put d 0 (head_words m ++ table_words m) f) where
  many : length (table_words m) ≡ 384
  many = tables-long m.cues.list m.playlist.list h.cues.room h.plays.room

  pub titles-room : 906 ≤ length f
  titles-room = omega (arith, put-long p (omega (arith, many)))

  pub record-put : {g : List ℕ} → Put f 393 (titles_words m.titles) g → g ≡ front (record_words m) d
  unfolding record_words
  record-put s = put_front (put_next p s (omega (arith, many)) (omega (arith, titles-long m.titles h.titles.room)))

  pub untitled-put : {g : List ℕ} → m.titles ≡ no_titles → Put f 393 (replicate 513 m.titles.count) g → g ≡ front (record_words m) d
  unfolding titles_words
  untitled-put {g} e s = record-put (subst (λ (ys : List ℕ). Put f 393 ys g) zeros s)
    where
      zeros : replicate 513 m.titles.count ≡ titles_words m.titles
      zeros = ap (λ (t : Titles). replicate 513 t.count) e ∙ sym (ap titles_words e ∙ ap (λ (ys : List ℕ). 0 ∷ ys) (blank-titles 128))

pub ruleset record_putting = (record-typed, titles-room, record-put, untitled-put)

-- ---- the record taken from words
pub format_said : (w : List ℕ) {a b c d e : ℕ} → a ≡ word w 0 → b ≡ word w 1 → c ≡ word w 3 → d ≡ word w 4 → e ≡ word w 5
    → record { tag = a; channels = b; rate = word w 2; bits = c; align = d; samples = e } ≡ format_from w
unfolding format_from
format_said w f g h i j = simp (f, g, h, i, j)

pub record_said : (w : List ℕ) {f : Format} {c : List Cue} {p : List Play} {t : List Title} → f ≡ format_from w → c ≡ cues_from w 64 → p ≡ entries_from w 64
    → t ≡ titles_from w 128
    → record {
      format = f;
      frames = record { 0 = word w 6 };
      cues = record { count = word w 7; list = c };
      playlist = record { count = word w 8; list = p };
      titles = record { count = word w 393; list = t };
    } ≡ record_from w
unfolding record_from
record_said w e g h j = simp (e, g, h, j)
