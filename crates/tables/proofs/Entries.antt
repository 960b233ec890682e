-- Laws of reading a table and of taking one number of each entry, in the words of the code. Assumes nothing.
use mathlib.Core.Path.{◌≡◌, refl, sym, ap, ◌∙◌}
use mathlib.Core.Bool.{Bool, true, false, cond}
use mathlib.Core.List.{List, [], ◌∷◌, map, ◌++◌}
use native.Mathlib.Nat.{add-zero, zero-add}
use Rattle.lists.specs.Turns.{values}
use Prim.Native.Nat.{ℕ, zero, suc, ◌+◌, ◌*◌, ◌≤◌, ◌<◌}
use native.Mathlib.Numerals.{add-one}
use native.Mathlib.Omega.{arith}
use lib.ListN.{length, take, get_or, set, replicate, length-map, length-set, length-replicate, get_or-map}
use lib.Dec.{leb}
use lib.Seq.{get_or-set_other, ext_get_or, take_all, take-suc-set}
use borrow.Author.Tests.{le-leb, lt-leb, leb-true, leb-false}
use Rattle.little.specs.Numbers.{number_at}
use Rattle.tables.specs.Tables.{count_in, held}
use Rattle.tables.specs.Cues.{no_cue, cue_at, cues_in, cues_of}
use Rattle.tables.specs.Plays.{no_play, play_at, plays_in, plays_of}

-- ---- how many entries are kept
module _ (n : ℕ) where
  pub held_all : n ≤ 64 → n ≡ held n
  unfolding held
  held_all h = simp (le-leb n 64 h)

  pub held-most : 64 < n → 64 ≡ held n
  unfolding held
  held-most h = simp (lt-leb n 64 h)

  pub held-room : held n ≤ 64
  unfolding held
  held-room = by (leb n 64) refl
    where
      by : (b : Bool) → leb n 64 ≡ b → cond b n 64 ≤ 64
      by true e = leb-true n 64 e
      by false e = omega arith

-- ---- one entry
module _ (s : List ℕ) (at : ℕ) {x y z : ℕ} (e : x ≡ number_at 4 s at) (f : y ≡ number_at 4 s (at + 4)) where
  pub cue-read : z ≡ number_at 4 s (at + 20) → record { name = record { 0 = x }; position = record { 0 = y }; place = record { 0 = z } } ≡ cue_at s at
  unfolding cue_at
  cue-read g = simp (e, f, g)

  pub play-read : z ≡ number_at 4 s (at + 8) → record { name = record { 0 = x }; length = record { 0 = y }; times = z } ≡ play_at s at
  unfolding play_at
  play-read g = simp (e, f, g)

pub ruleset reading = (cue-read, play-read)

-- ---- the entries one after the other: many k holds the first k; of n entries the first i are read
pub record Listed {A : Type 0} (many : ℕ → List A) (entry : ℕ → A) (n i : ℕ) (list : List A) : Type 0 where
  pub upto : i ≤ n
  pub more : (k : ℕ) → many (suc k) ≡ set (many k) k (entry k)
  pub same : list ≡ many i

-- ---- the entries read into places: of a list the first i are the values of f
values-more : {A : Type 0} (f : ℕ → A) (i n : ℕ) → values f i (suc n) ≡ values f i n ++ (f (i + n) ∷ [])
unfolding values
values-more f i zero = ap (λ (k : ℕ). f k ∷ []) (sym (add-zero i))
values-more f i (suc n) =
    let e : suc i + n ≡ i + suc n = omega arith in
    ap (λ (l : List _). f i ∷ l) (values-more f (suc i) n ∙ ap (λ (k : ℕ). values f (suc i) n ++ (f k ∷ [])) e)

pub record Placed {A : Type 0} (f : ℕ → A) (list : List A) (i : ℕ) : Type 0 where
  pub upto : i ≤ length list
  pub same : take i list ≡ values f 0 i

module _ {A : Type 0} {f : ℕ → A} {list : List A} where
  pub place-begins : Placed f list 0
  unfolding values
  place-begins = record { upto = omega arith; same = refl }

  module _ {i : ℕ} (w : Placed f list i) where
    pub place-next : {x : A} → i < length list → x ≡ f i → Placed f (set list i x) (i + 1)
    place-next {x} h e =
        record {
          upto = omega (arith, length-set list i x);
          same =
              ap (λ (k : ℕ). take k (set list i x)) (add-one i)
              ∙ take-suc-set list i x h
              ∙ (λ j. w.same j ++ (e j ∷ []))
              ∙ ap (λ (k : ℕ). values f 0 i ++ (f k ∷ [])) (sym (zero-add i))
              ∙ sym (values-more f 0 i)
              ∙ ap (values f 0) (sym (add-one i));
        }

-- ---- one number of each of 64 entries
pub mapped : {A : Type 0} (f : A → ℕ) (z : A) (list : List A) (ys : List ℕ) → length list ≡ 64 → length ys ≡ 64
    → ((i : ℕ) → i < 64 → get_or ys i (f z) ≡ f (get_or list i z)) → ys ≡ map f list
mapped f z list ys e g h =
    ext_get_or (f z) ys (map f list) (g ∙ sym (length-map list f ∙ e)) (λ i l. h i (omega arith) ∙ sym (get_or-map f list i z))

-- ---- past its count a table reads as zero: nothing was put there
module _ {A : Type 0} (z : A) where
  pub all-zero : (n i : ℕ) → get_or (replicate n z) i z ≡ z
  all-zero zero i = refl
  all-zero (suc n) zero = refl
  all-zero (suc n) (suc i) = all-zero n i

  rest-zero : (many : ℕ → List A) (entry : ℕ → A) → ((k : ℕ) → many (suc k) ≡ set (many k) k (entry k)) → many 0 ≡ replicate 64 z
      → (n i : ℕ) → n ≤ i → get_or (many n) i z ≡ z
  rest-zero many entry more begin zero i h = ap (λ (l : List A). get_or l i z) begin ∙ all-zero 64 i
  rest-zero many entry more begin (suc n) i h =
      ap (λ (l : List A). get_or l i z) (more n)
      ∙ get_or-set_other (many n) n i (entry n) z (λ (e : i ≡ n). omega arith)
      ∙ rest-zero many entry more begin n i (omega arith)

held-within : (n : ℕ) → held n ≤ n
unfolding held
held-within n = by (leb n 64) refl
  where
    by : (b : Bool) → leb n 64 ≡ b → cond b n 64 ≤ n
    by true e = omega arith
    by false e = let h = leb-false n 64 e in omega arith

module _ (s : List ℕ) (i : ℕ) where
  pub cues-zero : (cues_of s).count ≤ i → get_or (cues_of s).list i no_cue ≡ no_cue
  unfolding cues_of cues_in
  cues-zero h =
      let g = held-within (count_in s) in
      rest-zero no_cue (cues_in s) (λ k. cue_at s (4 + 24 * k)) (λ k. refl) refl (held (count_in s)) i (omega arith)

  pub plays-zero : (plays_of s).count ≤ i → get_or (plays_of s).list i no_play ≡ no_play
  unfolding plays_of plays_in
  plays-zero h =
      let g = held-within (count_in s) in
      rest-zero no_play (plays_in s) (λ k. play_at s (4 + 12 * k)) (λ k. refl) refl (held (count_in s)) i (omega arith)

-- ---- and a table that was read has all its room
module _ {A : Type 0} (z : A) (many : ℕ → List A) (entry : ℕ → A) where
  all_room : ((k : ℕ) → many (suc k) ≡ set (many k) k (entry k)) → many 0 ≡ replicate 64 z → (n : ℕ) → length (many n) ≡ 64
  all_room more begin zero = ap length begin ∙ length-replicate 64 z
  all_room more begin (suc n) = ap length (more n) ∙ length-set (many n) n (entry n) ∙ all_room more begin n

module _ (s : List ℕ) where
  pub cues-whole : length (cues_of s).list ≡ 64
  unfolding cues_of cues_in
  cues-whole = all_room no_cue (cues_in s) (λ k. cue_at s (4 + 24 * k)) (λ k. refl) refl (held (count_in s))

  pub plays-whole : length (plays_of s).list ≡ 64
  unfolding plays_of plays_in
  plays-whole = all_room no_play (plays_in s) (λ k. play_at s (4 + 12 * k)) (λ k. refl) refl (held (count_in s))
