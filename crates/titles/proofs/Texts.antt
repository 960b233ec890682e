-- The texts of titles, one after the other: put so, placed so, and found again there. Assumes nothing.
use mathlib.Core.Path.{◌≡◌, refl, sym, ap, ◌∙◌, subst}
use mathlib.Core.Bool.{true, false, ◌&&◌}
use mathlib.Core.List.{List, [], ◌∷◌, ◌++◌, map, append_assoc}
use Prim.Native.Nat.{ℕ, zero, suc, ◌+◌, ◌-◌, ◌*◌, ◌≤◌, ◌<◌}
use native.Mathlib.Omega.{arith}
use lib.Dec.{ltb, leb, eqb}
use lib.ListN.{length, take, drop, get_or, set, replicate, length-append, length-replicate, drop_of_length-le, get_or-append}
use Rattle.std.proofs.lemmas.List.{drop-replicate, length-take-le, get_or-take}
use lib.Seq.{take-add, take_at, drop_at, drop-drop}
use mir.Syntax.{w32}
use mir.Val.{Fits}
use borrow.Author.Tests.{ltb-true, ltb-false, eqb-true, leb-true, eq-eqb, ne_eqb, le-leb, lt-leb}
use Rattle.little.specs.Writing.{front}
use Rattle.little.proofs.Filling.{Filled, filled-store, filled-all, put_front, part-long, drop-next}
use Rattle.lists.proofs.Laws.{and_both}
use Rattle.tables.specs.Bytes.{entry_bytes}
use Rattle.titles.specs.declared.Title.{Title}
use Rattle.titles.specs.declared.Titles.{Titles}
use Rattle.titles.specs.Titles.{Entry, no_entry, entry_in, first_entries, entries_of, text_of, texts_of, placed_from, no_title, table_of, table_for, moved_to, moved_in_turn, end_of, texts_end}
use Rattle.titles.specs.Writing.{texts_in_row}
use Rattle.titles.proofs.Entries.{there}
use Rattle.titles.proofs.Pouring.{Poured, pour-begins, pour-ends}

-- ---- put from the start of a buffer
module _ {s : List ℕ} {list : List Title} where
  pub texts-begin : {d : List ℕ} → length (texts_of (map (entry_in s) list)) ≤ length d → Poured text_of s list 0 0 0 d d
  unfolding texts_of
  texts-begin r = pour-begins (omega arith)

  pub texts-put : {i at : ℕ} {d d₀ : List ℕ} → Poured text_of s list i 0 at d d₀ → length list ≤ i → d ≡ front (texts_of (map (entry_in s) list)) d₀
  unfolding texts_of
  texts-put w h = put_front (pour-ends w h)

pub ruleset texting = (texts-begin, texts-put)

-- ---- titles in turn: i are placed in the room for them, and the text of the next is to start at a place
turn-long : (at : ℕ) (ts : List Title) → length (moved_in_turn at ts) ≡ length ts
unfolding moved_in_turn
turn-long at [] = refl
turn-long at (t ∷ ts) = ap suc (turn-long (at + (t.length.0 + 1)) ts)

pub record Turned (list : List Title) (i at : ℕ) (made : List Title) : Type 0 where
  pub few : length list ≤ 128
  pub upto : i ≤ length list
  pub short : (k : ℕ) → k < length list → (get_or list k no_title).length.0 ≤ 255
  pub small : at ≤ 256 * i
  pub filled : Filled (moved_in_turn 0 list) (moved_in_turn at (drop i list)) i made (replicate 128 no_title)

module _ {list : List Title} {i at : ℕ} {made : List Title} (w : Turned list i at made) where
  pub turn-ends : length list ≤ i → made ≡ moved_in_turn 0 list ++ replicate (128 - length list) no_title
  unfolding moved_in_turn front
  turn-ends h =
      let all : List Title = moved_in_turn 0 list in
      let e : drop i list ≡ [] = drop_of_length-le list h in
      filled-all (subst (λ (l : List Title). Filled all (moved_in_turn at l) i made (replicate 128 no_title)) e w.filled)
      ∙ ap (λ (k : ℕ). all ++ drop k (replicate 128 no_title)) (turn-long 0 list)
      ∙ ap (λ (l : List Title). all ++ l) (drop-replicate (length list) 128 no_title)

  module _ (h : i < length list) where
    pub turn-room : i < length made
    turn-room = omega (arith, w.few, w.filled.long, length-replicate 128 no_title)

    module _ (k : ℕ) (b : leb k 256 ≡ true) where
      pub step_fits : Fits w32 ((get_or list i no_title).length.0 + k)
      step_fits = record { fits = omega (arith, leb-true k 256 b, w.short i h) }

      pub place-fits : Fits w32 (at + ((get_or list i no_title).length.0 + k))
      place-fits = record { fits = omega (arith, leb-true k 256 b, w.small, w.few, w.short i h) }

    pub turn-next : {x : Title} → x ≡ moved_to at (get_or list i no_title)
        → Turned list (i + 1) (at + ((get_or list i no_title).length.0 + 1)) (set made i x)
    unfolding moved_in_turn
    turn-next {x} e =
        let next : ℕ = at + ((get_or list i no_title).length.0 + 1) in
        let g = ap (moved_in_turn at) (drop-next list i no_title h) in
        record {
          few = w.few;
          upto = omega arith;
          short = w.short;
          small = omega (arith, w.small, w.short i h);
          filled =
              filled-store w.filled
              (g ∙ ap (λ (t : Title). t ∷ moved_in_turn next (drop (i + 1) list)) (sym e))
              turn-room
              refl;
        }

pub ruleset turning = (turn-ends, turn-room, step_fits, place-fits, turn-next)

-- ---- titles tested for a row: i are in it, and the text of the next is to start at a place
pub record Rowed (room : ℕ) (list : List Title) (i at : ℕ) : Type 0 where
  pub few : length list ≤ 128
  pub upto : i ≤ length list
  pub small : at ≤ 4294967296 * i
  pub same : texts_in_row room at (drop i list) ≡ texts_in_row room 0 list

module _ {room : ℕ} {list : List Title} {i at : ℕ} (w : Rowed room list i at) where
  pub row_ends : length list ≤ i → true ≡ texts_in_row room 0 list
  unfolding texts_in_row
  row_ends h = sym (ap (texts_in_row room at) (drop_of_length-le list h)) ∙ w.same

  module _ (h : i < length list) where
    abbrev next : ℕ
    next = at + ((get_or list i no_title).length.0 + 1)

    left : (eqb (get_or list i no_title).start.0 at && leb next room && texts_in_row room next (drop (i + 1) list)) ≡ texts_in_row room 0 list
    unfolding texts_in_row
    left = sym (ap (texts_in_row room at) (drop-next list i no_title h)) ∙ w.same

    pub row-elsewhere : ((get_or list i no_title).start.0 ≡ at → ⊥) → false ≡ texts_in_row room 0 list
    row-elsewhere e = simp (← left, ne_eqb (get_or list i no_title).start.0 at e)

    module _ (e : (get_or list i no_title).start.0 ≡ at) where
      pub row-past : room < at + ((get_or list i no_title).length.0 + 1) → false ≡ texts_in_row room 0 list
      row-past l = simp (← left, eq-eqb (get_or list i no_title).start.0 at e, lt-leb next room l)

      pub row_next : at + ((get_or list i no_title).length.0 + 1) ≤ room → Fits w32 (get_or list i no_title).length.0
          → Rowed room list (i + 1) (at + ((get_or list i no_title).length.0 + 1))
      row_next l f =
          record {
            few = w.few;
            upto = omega arith;
            small = omega (arith, w.small, f.fits);
            same = sym (simp (eq-eqb (get_or list i no_title).start.0 at e, le-leb next room l)) ∙ left;
          }

pub ruleset rowing = (row_ends, row-elsewhere, row-past, row_next)

-- ---- where the last text of a table ends
module _ (t : Titles) where
  pub ends-none : t.count < 1 → 0 ≡ texts_end t
  unfolding texts_end
  ends-none h = simp (lt-leb 1 t.count h)

  pub ends_last : 1 ≤ t.count → end_of (get_or t.list (t.count - 1) no_title) ≡ texts_end t
  unfolding texts_end
  ends_last h = simp (le-leb 1 t.count h)

-- of the titles that it counts
module _ (t : Titles) (long : length t.list ≡ 128) (few : t.count ≤ 128) {ts : List Title} (q : ts ≡ take t.count t.list) where
  counted : length ts ≡ t.count
  counted = ap length q ∙ length-take-le t.count t.list (omega arith)

  pub end-none : false ≡ ltb 0 (length ts) → 0 ≡ texts_end t
  end-none e = let h = ltb-false 0 (length ts) (sym e) in ends-none t (omega (arith, counted))

  pub end-last : {x : Title} → true ≡ ltb 0 (length ts) → x ≡ get_or ts (length ts - 1) x → end_of x ≡ texts_end t
  end-last {x} e f =
      let h : 0 < length ts = ltb-true 0 (length ts) (sym e) in
      let n : length ts - 1 ≡ t.count - 1 = omega (arith, counted) in
      let g : x ≡ get_or t.list (t.count - 1) no_title =
      f
      ∙ there ts (length ts - 1) x no_title (omega arith)
      ∙ (λ i. get_or (q i) (n i) no_title)
      ∙ get_or-take t.count t.list (t.count - 1) no_title (omega (arith, counted)) in
      ap end_of g ∙ ends_last t (omega (arith, counted))

-- ---- titles whose texts are as long as they say: moved in turn, they are the titles for what they say
-- the title for an entry whose text starts at a place
abbrev title_for : ℕ → Entry → Title
title_for at e = record { kind = e.kind; name = record { 0 = e.name }; start = record { 0 = at }; length = record { 0 = length e.text - 1 } }

pub turn-placed : (at : ℕ) (s : List ℕ) (ts : List Title)
    → ((i : ℕ) → i < length ts → length (entry_in s (get_or ts i no_title)).text ≡ (get_or ts i no_title).length.0 + 1)
    → moved_in_turn at ts ≡ placed_from at (map (entry_in s) ts)
unfolding moved_in_turn placed_from
turn-placed at s [] h = refl
turn-placed at s (t ∷ ts) h =
    let n : ℕ = length (entry_in s t).text in
    let e : n ≡ t.length.0 + 1 = h 0 (omega arith) in
    let f : t.length.0 ≡ n - 1 = omega arith in
    (λ i.
    record { kind = t.kind; name = t.name; start = record { 0 = at }; length = record { 0 = f i } } ∷ moved_in_turn (at + sym e i) ts)
    ∙ ap (λ (l : List Title). title_for at (entry_in s t) ∷ l) (turn-placed (at + n) s ts (λ i k. h (suc i) (omega arith)))

-- ---- titles that are in a row: what the test says of the first
module _ (room at : ℕ) (t : Title) (ts : List Title) (h : texts_in_row room at (t ∷ ts) ≡ true) where
  row-both : ((eqb t.start.0 at && leb (at + (t.length.0 + 1)) room) ≡ true) × (texts_in_row room (at + (t.length.0 + 1)) ts ≡ true)
  unfolding texts_in_row
  row-both = and_both _ _ h

  row_first : (eqb t.start.0 at ≡ true) × (leb (at + (t.length.0 + 1)) room ≡ true)
  row_first = and_both (eqb t.start.0 at) (leb (at + (t.length.0 + 1)) room) row-both.0

  row-start : t.start.0 ≡ at
  row-start = eqb-true t.start.0 at row_first.0

  row_room : at + (t.length.0 + 1) ≤ room
  row_room = leb-true (at + (t.length.0 + 1)) room row_first.1

  row-rest : texts_in_row room (at + (t.length.0 + 1)) ts ≡ true
  row-rest = row-both.1

-- moved in turn, they stay
row-turn : (room at : ℕ) (ts : List Title) → texts_in_row room at ts ≡ true → moved_in_turn at ts ≡ ts
unfolding moved_in_turn
row-turn room at [] h = refl
row-turn room at (t ∷ ts) h =
    let e = row-start room at t ts h in
    let r = row-turn room (at + (t.length.0 + 1)) ts (row-rest room at t ts h) in
    λ i. record { kind = t.kind; name = t.name; start = record { 0 = sym e i }; length = t.length } ∷ r i

-- their texts are in the buffer, so each is as long as it says
pub row-long : (at : ℕ) (s : List ℕ) (ts : List Title) → texts_in_row (length s) at ts ≡ true
    → (i : ℕ) → i < length ts → length (entry_in s (get_or ts i no_title)).text ≡ (get_or ts i no_title).length.0 + 1
row-long at s [] h i g = absurd (omega arith)
row-long at s (t ∷ ts) h zero g =
    part-long s t.start.0 (t.length.0 + 1) (omega (arith, row-start (length s) at t ts h, row_room (length s) at t ts h))
row-long at s (t ∷ ts) h (suc i) g = row-long (at + (t.length.0 + 1)) s ts (row-rest (length s) at t ts h) i (omega arith)

pub row-placed : (at : ℕ) (s : List ℕ) (ts : List Title) → texts_in_row (length s) at ts ≡ true → placed_from at (map (entry_in s) ts) ≡ ts
row-placed at s ts h = sym (turn-placed at s ts (row-long at s ts h)) ∙ row-turn (length s) at ts h

pub row-texts : (at : ℕ) (s : List ℕ) (ts : List Title) → texts_in_row (length s) at ts ≡ true
    → texts_of (map (entry_in s) ts) ≡ take (length (texts_of (map (entry_in s) ts))) (drop at s)
unfolding texts_of entry_bytes
row-texts at s [] h = refl
row-texts at s (t ∷ ts) h =
    let n : ℕ = t.length.0 + 1 in
    let text : List ℕ = (entry_in s t).text in
    let rest : List ℕ = texts_of (map (entry_in s) ts) in
    let a : text ≡ take n (drop at s) = ap (λ (k : ℕ). take n (drop k s)) (row-start (length s) at t ts h) in
    let l : length text ≡ n = row-long at s (t ∷ ts) h 0 (omega arith) in
    let b : rest ≡ take (length rest) (drop n (drop at s)) =
    row-texts (at + n) s ts (row-rest (length s) at t ts h) ∙ ap (take (length rest)) (sym (drop-drop n at s)) in
    (λ i. a i ++ b i)
    ∙ sym (take-add n (length rest) (drop at s))
    ∙ ap (λ (k : ℕ). take k (drop at s)) (ap (λ (k : ℕ). k + length rest) (sym l) ∙ sym (length-append text rest))

-- ---- entries, none with an empty text, placed one after the other
abbrev pub NoneEmpty : List Entry → Type 0
NoneEmpty es = (i : ℕ) → i < length es → 1 ≤ length (get_or es i no_entry).text

texts-long : (e : Entry) (es : List Entry) → length (texts_of (e ∷ es)) ≡ length e.text + length (texts_of es)
unfolding texts_of entry_bytes
texts-long e es = length-append e.text (texts_of es)

pub placed-long : (at : ℕ) (es : List Entry) → length (placed_from at es) ≡ length es
unfolding placed_from
placed-long at [] = refl
placed-long at (e ∷ es) = ap suc (placed-long (at + length e.text) es)

-- they stand in a row
pub placed_row : (room at : ℕ) (es : List Entry) → NoneEmpty es → at + length (texts_of es) ≤ room → texts_in_row room at (placed_from at es) ≡ true
unfolding texts_in_row placed_from
placed_row room at [] h r = refl
placed_row room at (e ∷ es) h r =
    let k : length e.text - 1 + 1 ≡ length e.text = omega (arith, h 0 (omega arith)) in
    let l : at + length e.text ≤ room = omega (arith, texts-long e es) in
    let m = placed_row room (at + length e.text) es (λ i g. h (suc i) (omega arith)) (omega (arith, texts-long e es)) in
    simp (k, eq-eqb at at refl, le-leb (at + length e.text) room l, m)

-- the last text ends where all end
last_end : (at : ℕ) (e : Entry) (es : List Entry) → NoneEmpty (e ∷ es)
    → end_of (get_or (placed_from at (e ∷ es)) (length es) no_title) ≡ at + length (texts_of (e ∷ es))
unfolding placed_from texts_of entry_bytes
last_end at e [] h = omega (arith, h 0 (omega arith), texts-long e [])
last_end at e (f ∷ es) h =
    last_end (at + length e.text) f es (λ i g. h (suc i) (omega arith)) ∙ omega (arith, texts-long e (f ∷ es))

pub ends-placed : (es : List Entry) → NoneEmpty es → texts_end (table_for es) ≡ length (texts_of es)
unfolding table_of texts_of entry_bytes placed_from
ends-placed [] h = sym (ends-none (table_for []) (omega arith))
ends-placed (e ∷ es) h =
    let ts : List Title = placed_from 0 (e ∷ es) in
    let k : length ts - 1 ≡ length es = omega (arith, placed-long 0 (e ∷ es)) in
    sym (ends_last (table_for (e ∷ es)) (omega arith))
    ∙ ap end_of (get_or-append ts (replicate (128 - length ts) no_title) no_title (length ts - 1) (omega arith))
    ∙ ap (λ (i : ℕ). end_of (get_or ts i no_title)) k
    ∙ last_end 0 e es h
    ∙ omega arith

-- and where the bytes have their texts there, the titles say them
placed-back : (s : List ℕ) (at : ℕ) (es : List Entry) (rest : List ℕ) → NoneEmpty es → drop at s ≡ texts_of es ++ rest
    → map (entry_in s) (placed_from at es) ≡ es
unfolding placed_from texts_of entry_bytes
placed-back s at [] rest h d = refl
placed-back s at (e ∷ es) rest h d =
    let n : ℕ = length e.text in
    let k : n - 1 + 1 ≡ n = omega (arith, h 0 (omega arith)) in
    let c : drop at s ≡ e.text ++ (texts_of es ++ rest) = d ∙ append_assoc e.text (texts_of es) rest in
    let a : take (n - 1 + 1) (drop at s) ≡ e.text = (λ i. take (k i) (c i)) ∙ take_at e.text (texts_of es ++ rest) n refl in
    let b = sym (drop-drop n at s) ∙ ap (drop n) c ∙ drop_at e.text (texts_of es ++ rest) n refl in
    let r = placed-back s (at + n) es rest (λ i g. h (suc i) (omega arith)) b in
    λ i. record { kind = e.kind; name = e.name; text = a i } ∷ r i

pub texts-back : (es : List Entry) (rest : List ℕ) → NoneEmpty es → entries_of (texts_of es ++ rest) (table_for es) ≡ es
unfolding first_entries table_of
texts-back es rest h =
    let ts : List Title = placed_from 0 es in
    let s : List ℕ = texts_of es ++ rest in
    ap (map (entry_in s)) (take_at ts (replicate (128 - length ts) no_title) (length ts) refl) ∙ placed-back s 0 es rest h refl
