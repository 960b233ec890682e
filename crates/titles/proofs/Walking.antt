-- The walk over the chunks of a list: what is left of it from a place on says what its form is and which titles are still to come, and
-- a chunk at its front leads on to the rest. Assumes nothing.
use mathlib.Core.Path.{◌≡◌, refl, sym, ap, ◌∙◌, subst}
use mathlib.Core.Bool.{Bool, true, false, not, cond, ◌&&◌, ◌||◌, and-false}
use mathlib.Core.List.{List, [], ◌∷◌, ◌++◌, map, append-nil, map-append}
use Prim.Native.Nat.{ℕ, zero, suc, ◌+◌, ◌-◌, ◌≤◌, ◌<◌}
use native.Mathlib.Omega.{arith}
use Rattle.std.proofs.Common.{Option, None, Some, is_some}
use lib.Dec.{ltb, leb}
use lib.ListN.{length, take, drop, get_or, set, replicate, length-append, length-map, length-drop, length-replicate, drop_of_length-le}
use mir.Syntax.{w64}
use mir.Val.{Fits}
use lib.Seq.{set_at, append_snoc, drop-drop, take_all, take_at, get_or-take, length-take-le}
use borrow.Author.Tests.{lt-ltb, le-ltb, lt-leb, le-leb, leb-true, ltb-true, ltb-false, not-true, not-false}
use Rattle.little.specs.Numbers.{number_in, number_at}
use Rattle.lists.proofs.Laws.{and_both}
use Rattle.units.specs.Refusals.{file_limit}
use Rattle.riff.specs.declared.Pad.{Pad}
use Rattle.riff.specs.Chunks.{size_at, end_at, pad_after, pad_size, pad_at, next_at, passes}
use Rattle.riff.proofs.Padding.{next_place}
use Rattle.titles.specs.declared.Title.{Title}
use Rattle.titles.specs.declared.Front.{Front}
use Rattle.titles.specs.Titles.{Entry, entry_in, first_entries, no_title}
use Rattle.titles.specs.Lists.{front_kind, front_entry, front_rest, with_entry, entries_by, entries_in, title_kind, pad_fits, size_fits, front_fits, tiles_by, tiles, list_form, SaysAt, FoundIn, front_of}

-- ---- the size of a title
some-kind : (l : List ℕ) (b : Bool) → cond (is_some (title_kind l)) b true ≡ cond (ltb (front_kind l) 2) b true
some-kind l b = by (ltb (front_kind l) 2)
  where
    by : (x : Bool) → cond (is_some (cond x (Some (front_kind l)) None)) b true ≡ cond x b true
    by true = refl
    by false = refl

-- what it is, where it fits
pub title-size : (kind size : ℕ) → kind < 2 → size_fits kind size ≡ true → (5 ≤ size) × (size ≤ 260)
unfolding size_fits
title-size kind size h e =
    let b = and_both (leb 5 size) (leb size 260) (sym (simp (lt-ltb kind 2 h)) ∙ e) in
    (leb-true 5 size b.0, leb-true size 260 b.1)

-- a chunk that does not pass the end has its data before it
pub within : (l : List ℕ) → passes l 0 ≡ false → 8 + size_at l 0 ≤ length l
within l e = ltb-false (length l) (end_at l 0) (second (ltb (length l) 8) (ltb (length l) (end_at l 0)) e)
  where
    second : (x y : Bool) → (x || y) ≡ false → y ≡ false
    second true y f = let z : ◌≡◌ {A = ℕ} 0 1 = cc in absurd (omega arith)
    second false y f = f

-- and so has what there is of its pad
pub next-within : (l : List ℕ) → passes l 0 ≡ false → next_at l 0 ≤ length l
next-within l e = omega (arith, next_place (size_at l 0) (end_at l 0) (length l) (within l e))

-- ---- the chunk at the front fits, or does not
module _ (lost : Bool) (l : List ℕ) where
  unfit : front_fits lost l ≡ false → None ≡ front_of lost l
  unfolding front_of
  unfit e = simp e

  pub front-short : length l < 8 → None ≡ front_of lost l
  unfolding front_fits
  front-short h = unfit (simp (lt-ltb (length l) 8 h))

  module _ (h : 8 ≤ length l) {n : ℕ} (a : n ≡ size_at l 0) where
    pub front_cut : length l < 8 + n → None ≡ front_of lost l
    unfolding front_fits
    front_cut g = unfit (simp (le-ltb (length l) 8 h, lt-ltb (length l) (end_at l 0) (omega arith)))

    module _ (g : 8 + n ≤ length l) {p : Pad} (q : p ≡ pad_after n (8 + n) (length l)) {b : Bool} (f : b ≡ pad_fits lost p) where
      whole : passes l 0 ≡ false
      whole = simp (le-ltb (length l) 8 h, le-ltb (length l) (end_at l 0) (omega arith))

      pad-so : pad_fits lost (pad_at l 0) ≡ b
      pad-so = sym (f ∙ ap (pad_fits lost) q ∙ ap (λ (k : ℕ). pad_fits lost (pad_after k (8 + k) (length l))) a)

      pub front-unpadded : not b ≡ true → None ≡ front_of lost l
      unfolding front_fits
      front-unpadded e = unfit (simp (pad-so ∙ not-true b e, and-false))

      module _ (e : not b ≡ false) {k : Option ℕ} (u : k ≡ title_kind l) {d : Bool} (s : d ≡ cond (is_some k) (leb 5 n && leb n 260) true) where
        size-so : size_fits (front_kind l) (size_at l 0) ≡ d
        unfolding size_fits
        size-so =
            sym (some-kind l (leb 5 (size_at l 0) && leb (size_at l 0) 260))
            ∙ sym (s ∙ (λ i. cond (is_some (u i)) (leb 5 (a i) && leb (a i) 260) true))

        pub front-missized : not d ≡ true → None ≡ front_of lost l
        unfolding front_fits
        front-missized r = unfit (simp (size-so ∙ not-true d r, and-false))

        pub front_fits_lem : {m : ℕ} → not d ≡ false → m ≡ pad_size p
            → Some (record { kind = k; size = n; next = 8 + n + m }) ≡ front_of lost l
        unfolding front_fits front_of
        front_fits_lem r t =
            let v : front_fits lost l ≡ true = simp (whole, pad-so ∙ not-false b e, size-so ∙ not-false d r) in
            simp (v, t, q, a, u)

pub ruleset fronting = (front-short, front_cut, front-unpadded, front-missized, front_fits_lem)

-- ---- one chunk of what is left
module _ (l : List ℕ) where
  pub entries-one : (n : ℕ) → passes l 0 ≡ false
      → entries_by (suc n) l ≡ with_entry (front_kind l) (front_entry l) (entries_by n (front_rest l))
  unfolding entries_by
  entries-one n e = simp e

  pub tiles-one : (lost : Bool) (n : ℕ) → 0 < length l → front_fits lost l ≡ true → tiles_by lost (suc n) l ≡ tiles_by lost n (front_rest l)
  unfolding tiles_by
  tiles-one lost n h e = simp (lt-ltb 0 (length l) h, e)

  pub tiles-unfit : (lost : Bool) (n : ℕ) → 0 < length l → front_fits lost l ≡ false → tiles_by lost (suc n) l ≡ false
  unfolding tiles_by
  tiles-unfit lost n h e = simp (lt-ltb 0 (length l) h, e)

-- what the code is told of it
module _ (lost : Bool) (l : List ℕ) where
  pub fits_all : front_fits lost l ≡ true → (passes l 0 ≡ false) × (size_fits (front_kind l) (size_at l 0) ≡ true)
  unfolding front_fits
  fits_all e = by (passes l 0) (pad_fits lost (pad_at l 0)) (size_fits (front_kind l) (size_at l 0)) e
    where
      by : (a b c : Bool) → (not a && b && c) ≡ true → (a ≡ false) × (c ≡ true)
      by true b c f = let z : ◌≡◌ {A = ℕ} 0 1 = cc in absurd (omega arith)
      by false b c f = (refl, (and_both b c f).1)

  told-none : None ≡ front_of lost l → front_fits lost l ≡ false
  unfolding front_of
  told-none a = by (front_fits lost l) a
    where
      by : (b : Bool) → ◌≡◌ {A = Option Front} None (cond b (Some (record { kind = title_kind l; size = size_at l 0; next = next_at l 0 })) None) → b ≡ false
      by true f = let z : ◌≡◌ {A = ℕ} 0 1 = cc in absurd (omega arith)
      by false f = refl

  told-some : {c : Front} → Some c ≡ front_of lost l
      → (front_fits lost l ≡ true) × (c ≡ record { kind = title_kind l; size = size_at l 0; next = next_at l 0 })
  unfolding front_of
  told-some {c} a = by (front_fits lost l) a
    where
      by : (b : Bool) → ◌≡◌ {A = Option Front} (Some c) (cond b (Some (record { kind = title_kind l; size = size_at l 0; next = next_at l 0 })) None)
          → (b ≡ true) × (c ≡ record { kind = title_kind l; size = size_at l 0; next = next_at l 0 })
      by true f = (refl, cc)
      by false f = let z : ◌≡◌ {A = ℕ} 0 1 = cc in absurd (omega arith)

-- nothing is left
pub entries_none : (n : ℕ) → entries_by n [] ≡ []
unfolding entries_by
entries_none zero = refl
entries_none (suc n) = refl

pub tiles-none : (lost : Bool) (n : ℕ) → tiles_by lost n [] ≡ true
unfolding tiles_by
tiles-none lost zero = refl
tiles-none lost (suc n) = refl

-- ---- the titles: n are in the array, and what is left of the list from a place on has the others
pub record Finding (lost : Bool) (l : List ℕ) (at n : ℕ) (titles : List Title) : Type 0 where
  pub turns : ℕ
  pub enough : length l ≤ at + turns
  pub short : length l ≤ file_limit
  pub few : n ≤ 128
  pub tiled : tiles_by lost turns (drop at l) ≡ tiles lost l
  pub before : List Title
  pub many : length before ≡ n
  pub same : map (entry_in l) before ++ entries_by turns (drop at l) ≡ entries_in l
  pub long : (i : ℕ) → i < n → length (entry_in l (get_or before i no_title)).text ≡ (get_or before i no_title).length.0 + 1
  pub held : titles ≡ before ++ replicate (128 - n) no_title

pub find-begins : {lost : Bool} {l : List ℕ} {titles : List Title} → length l ≤ file_limit → titles ≡ replicate 128 no_title → Finding lost l 4 0 titles
unfolding tiles entries_in
find-begins {l = l} h e =
    record {
      turns = length l;
      enough = omega arith;
      short = h;
      few = omega arith;
      tiled = refl;
      before = [];
      many = refl;
      same = refl;
      long = λ i g. absurd (omega arith);
      held = e;
    }

-- what each of some elements keeps and one behind them, all keep
last-too : {A : Type 0} (P : A → Type 0) (xs : List A) (y z : A) (n : ℕ) → length xs ≡ n → ((i : ℕ) → i < n → P (get_or xs i z)) → P y
    → (i : ℕ) → i < n + 1 → P (get_or (xs ++ (y ∷ [])) i z)
last-too P [] y z n e f g zero h = g
last-too P [] y z n e f g (suc i) h = absurd (omega arith)
last-too P (x ∷ xs) y z n e f g zero h = f 0 (omega arith)
last-too P (x ∷ xs) y z n e f g (suc i) h = last-too P xs y z (length xs) refl (λ k l. f (suc k) (omega arith)) g i (omega arith)

-- one more behind others, in an array with room
put-behind : (ts : List Title) (n : ℕ) (x : Title) → length ts ≡ n → n < 128
    → set (ts ++ replicate (128 - n) no_title) n x ≡ (ts ++ (x ∷ [])) ++ replicate (128 - (n + 1)) no_title
put-behind ts n x e h =
    let m : 128 - n ≡ suc (128 - (n + 1)) = omega arith in
    let rest : List Title = replicate (128 - (n + 1)) no_title in
    ap (λ (k : ℕ). set (ts ++ replicate k no_title) n x) m
    ∙ set_at ts no_title rest x n e
    ∙ sym (append_snoc ts x rest)

module _ {lost : Bool} {l : List ℕ} {at n : ℕ} {titles : List Title} (w : Finding lost l at n titles) where
  -- the whole list is walked
  module _ (h : length l ≤ at) where
    nothing_left : drop at l ≡ []
    nothing_left = drop_of_length-le l h

    all_found : entries_in l ≡ map (entry_in l) w.before
    all_found =
        sym w.same
        ∙ ap (λ (r : List ℕ). map (entry_in l) w.before ++ entries_by w.turns r) nothing_left
        ∙ ap (λ (es : List Entry). map (entry_in l) w.before ++ es) (entries_none w.turns)
        ∙ append-nil (map (entry_in l) w.before)

    found-many : length (entries_in l) ≡ n
    found-many = ap length all_found ∙ length-map w.before (entry_in l) ∙ w.many

    formed : true ≡ list_form lost l
    unfolding list_form
    formed =
        let t : tiles lost l ≡ true = sym w.tiled ∙ ap (tiles_by lost w.turns) nothing_left ∙ tiles-none lost w.turns in
        let m : length (entries_in l) ≤ 128 = omega (arith, found-many, w.few) in
        simp (t, le-leb (length (entries_in l)) 128 m)

    first-ones : take n titles ≡ w.before
    first-ones = ap (take n) w.held ∙ take_at w.before (replicate (128 - n) no_title) n w.many

    title-there : (i : ℕ) → i < n → get_or titles i no_title ≡ get_or w.before i no_title
    title-there i g = sym (get_or-take n titles i no_title g) ∙ ap (λ (ts : List Title). get_or ts i no_title) first-ones

    pub find-ends : FoundIn lost l (Some (record { count = n; list = titles }))
    unfolding first_entries
    find-ends =
        record {
          form = sym formed;
          stands =
              record {
                room = ap length w.held ∙ length-append w.before _ ∙ omega (arith, w.many, w.few, length-replicate (128 - n) no_title);
                many = sym found-many;
                entries = ap (map (entry_in l)) first-ones ∙ sym all_found;
                long = λ i g. subst (λ (x : Title). length (entry_in l x).text ≡ x.length.0 + 1) (sym (title-there i g)) (w.long i g);
              };
        }

  -- a chunk is at the front of what is left
  module _ (h : at < length l) {rest : List ℕ} (x : rest ≡ drop at l) where
    some : 0 < length rest
    some = omega (arith, ap length x, length-drop at l)

    tiled-rest : (t : ℕ) → tiles_by lost t (drop at l) ≡ tiles lost l → tiles_by lost t rest ≡ tiles lost l
    tiled-rest t e = ap (tiles_by lost t) x ∙ e

    pub find-unfit : None ≡ front_of lost rest → list_form lost l ≡ false
    unfolding list_form
    find-unfit a = by w.turns w.enough w.tiled
      where
        by : (t : ℕ) → length l ≤ at + t → tiles_by lost t (drop at l) ≡ tiles lost l → (tiles lost l && leb (length (entries_in l)) 128) ≡ false
        by zero o e = absurd (omega arith)
        by (suc t) o e =
            sym
            (ap (λ (b : Bool). b && leb (length (entries_in l)) 128)
            (sym (tiles-unfit rest lost t some (told-none lost rest a)) ∙ tiled-rest (suc t) e))

    module _ {c : Front} (a : Some c ≡ front_of lost rest) where
      fit : front_fits lost rest ≡ true
      fit = (told-some lost rest a).0

      told : c ≡ record { kind = title_kind rest; size = size_at rest 0; next = next_at rest 0 }
      told = (told-some lost rest a).1

      here : passes rest 0 ≡ false
      here = (fits_all lost rest fit).0

      kind-told : c.kind ≡ title_kind rest
      kind-told = ap (λ (y : Front). y.kind) told

      -- a title, or none
      kind-some : {k : ℕ} → c.kind ≡ Some k → (front_kind rest ≡ k) × (k < 2)
      kind-some {k} e = by (ltb (front_kind rest) 2) refl (sym kind-told ∙ e)
        where
          by : (b : Bool) → ltb (front_kind rest) 2 ≡ b → cond b (Some (front_kind rest)) None ≡ Some k → (front_kind rest ≡ k) × (k < 2)
          by true t f = let g : front_kind rest ≡ k = cc in (g, omega (arith, ltb-true (front_kind rest) 2 t))
          by false t f = let z : ◌≡◌ {A = ℕ} 0 1 = cc in absurd (omega arith)

      kind-none : c.kind ≡ None → 2 ≤ front_kind rest
      kind-none e = by (ltb (front_kind rest) 2) refl (sym kind-told ∙ e)
        where
          by : (b : Bool) → ltb (front_kind rest) 2 ≡ b → cond b (Some (front_kind rest)) None ≡ None → 2 ≤ front_kind rest
          by true t f = let z : ◌≡◌ {A = ℕ} 0 1 = cc in absurd (omega arith)
          by false t f = ltb-false (front_kind rest) 2 t

      next-told : c.next ≡ next_at rest 0
      next-told = ap (λ (y : Front). y.next) told

      next-rest : front_rest rest ≡ drop (at + c.next) l
      next-rest = (λ i. drop (sym next-told i) (x i)) ∙ drop-drop c.next at l

      inside : at + c.next ≤ length l
      inside = omega (arith, next-told, next-within rest here, ap length x, length-drop at l)

      pub find-fits : Fits w64 (at + c.next)
      find-fits = record { fits = omega (arith, inside, w.short) }

      pub find-less : length l - (at + c.next) < length l - at
      find-less = omega (arith, next-told)

      tiled-next : (t : ℕ) → tiles_by lost (suc t) (drop at l) ≡ tiles lost l → tiles_by lost t (drop (at + c.next) l) ≡ tiles lost l
      tiled-next t q = ap (tiles_by lost t) (sym next-rest) ∙ sym (tiles-one rest lost t some fit) ∙ tiled-rest (suc t) q

      entries_next : (t : ℕ) → entries_by (suc t) (drop at l) ≡ with_entry (front_kind rest) (front_entry rest) (entries_by t (drop (at + c.next) l))
      entries_next t =
          ap (entries_by (suc t)) (sym x)
          ∙ entries-one rest t here
          ∙ (λ i. with_entry (front_kind rest) (front_entry rest) (entries_by t (next-rest i)))

      pub find-other : c.kind ≡ None → Finding lost l (at + c.next) n titles
      find-other o = by w.turns w.enough w.tiled w.same
        where
          by : (t : ℕ) → length l ≤ at + t → tiles_by lost t (drop at l) ≡ tiles lost l → map (entry_in l) w.before ++ entries_by t (drop at l) ≡ entries_in l
              → Finding lost l (at + c.next) n titles
          by zero i q m = absurd (omega arith)
          by (suc t) i q m =
              record {
                turns = t;
                enough = omega (arith, next-told);
                short = w.short;
                few = w.few;
                tiled = tiled-next t q;
                before = w.before;
                many = w.many;
                same = ap (λ (es : List Entry). map (entry_in l) w.before ++ es) (sym (entries_next t ∙ simp (le-ltb (front_kind rest) 2 (kind-none o)))) ∙ m;
                long = w.long;
                held = w.held;
              }

      module _ {k : ℕ} (o : c.kind ≡ Some k) where
        titled : front_kind rest < 2
        titled = omega (arith, (kind-some o).0, (kind-some o).1)

        one_found : (t : ℕ) → entries_by (suc t) (drop at l) ≡ front_entry rest ∷ entries_by t (drop (at + c.next) l)
        one_found t = entries_next t ∙ simp (lt-ltb (front_kind rest) 2 titled)

        pub find-many : {m : ℕ} → m ≤ n → leb 128 m ≡ true → list_form lost l ≡ false
        unfolding list_form
        find-many {m} q b = by w.turns w.enough w.same
          where
            by : (t : ℕ) → length l ≤ at + t → map (entry_in l) w.before ++ entries_by t (drop at l) ≡ entries_in l
                → (tiles lost l && leb (length (entries_in l)) 128) ≡ false
            by zero i e = absurd (omega arith)
            by (suc t) i e =
                let c = length-append (map (entry_in l) w.before) (entries_by (suc t) (drop at l)) in
                let d : 128 < length (entries_in l) =
                omega (
                  arith,
                  leb-true 128 m b,
                  c,
                  ap length e,
                  ap length (one_found t),
                  length-map w.before (entry_in l),
                  w.many,
                )
                in
                simp (lt-leb (length (entries_in l)) 128 d, and-false)

        size-told : c.size ≡ size_at rest 0
        size-told = ap (λ (y : Front). y.size) told

        pub find-kind : k ≡ front_kind (drop at l)
        find-kind = sym (kind-some o).0 ∙ ap front_kind x

        pub find-size : c.size ≡ size_at (drop at l) 0
        find-size = size-told ∙ ap (λ (r : List ℕ). size_at r 0) x

        pub find-least : 5 ≤ c.size
        find-least = omega (arith, size-told, (title-size (front_kind rest) (size_at rest 0) titled (fits_all lost rest fit).1).0)

        pub find-room : at + 8 + c.size ≤ length l
        find-room = omega (arith, size-told, within rest here, ap length x, length-drop at l)

        pub find-next : {y : Title} → n < 128 → SaysAt l at y → Finding lost l (at + c.next) (n + 1) (set titles n y)
        find-next {y} r z = by w.turns w.enough w.tiled w.same
          where
            more : length (w.before ++ (y ∷ [])) ≡ n + 1
            more = length-append w.before (y ∷ []) ∙ omega (arith, w.many)

            each_long : (i : ℕ) → i < n + 1
                → length (entry_in l (get_or (w.before ++ (y ∷ [])) i no_title)).text ≡ (get_or (w.before ++ (y ∷ [])) i no_title).length.0 + 1
            each_long = last-too Exact w.before y no_title n w.many w.long z.long
              where
                Exact : Title → Type 0
                Exact t = length (entry_in l t).text ≡ t.length.0 + 1

            by : (t : ℕ) → length l ≤ at + t → tiles_by lost t (drop at l) ≡ tiles lost l → map (entry_in l) w.before ++ entries_by t (drop at l) ≡ entries_in l
                → Finding lost l (at + c.next) (n + 1) (set titles n y)
            by zero i q m = absurd (omega arith)
            by (suc t) i q m =
                let later : List Entry = entries_by t (drop (at + c.next) l) in
                record {
                  turns = t;
                  enough = omega (arith, next-told);
                  short = w.short;
                  few = omega arith;
                  tiled = tiled-next t q;
                  before = w.before ++ (y ∷ []);
                  many = more;
                  same =
                      ap (λ (es : List Entry). es ++ later) (map-append (entry_in l) w.before (y ∷ []))
                      ∙ append_snoc (map (entry_in l) w.before) (entry_in l y) later
                      ∙ ap (λ (z : Entry). map (entry_in l) w.before ++ (z ∷ later)) (z.entry ∙ ap front_entry (sym x))
                      ∙ ap (λ (es : List Entry). map (entry_in l) w.before ++ es) (sym (one_found t))
                      ∙ m;
                  long = each_long;
                  held = ap (λ (ts : List Title). set ts n y) w.held ∙ put-behind w.before n y w.many r;
                }

pub ruleset finding = (
  find-begins,
  find-ends,
  find-unfit,
  find-fits,
  find-less,
  find-other,
  find-many,
  find-kind,
  find-size,
  find-least,
  find-room,
  find-next,
)

-- ---- one title
module _ (l : List ℕ) (at : ℕ) {k n size : ℕ} (e : k ≡ front_kind (drop at l)) (f : size ≡ size_at (drop at l) 0)
    (g : n ≡ number_at 4 l (at + 8)) (h : at + 8 + size ≤ length l) (i : 5 ≤ size) where
  pub title-said : SaysAt l at (record { kind = k; name = record { 0 = n }; start = record { 0 = at + 12 }; length = record { 0 = size - 5 } })
  unfolding front_entry number_at
  title-said =
      let name = g ∙ ap (λ (r : List ℕ). number_in (take 4 r)) (sym (drop-drop 8 at l)) in
      let long : size - 5 + 1 ≡ size_at (drop at l) 0 - 4 = omega arith in
      let text = ap (λ (r : List ℕ). take (size - 5 + 1) r) (sym (drop-drop 12 at l)) ∙ ap (λ (m : ℕ). take m (drop 12 (drop at l))) long in
      record {
        entry = λ j. record { kind = e j; name = name j; text = text j };
        long = length-take-le (size - 5 + 1) (drop (at + 12) l) (omega (arith, length-drop (at + 12) l));
      }

-- what is left is all that there is
pub left-all : (l : List ℕ) (at : ℕ) → take (length l - at) (drop at l) ≡ drop at l
left-all l at = take_all (length l - at) (drop at l) (omega (arith, length-drop at l))

pub ruleset title_ones = (title-said)
