-- Laws of numbers among others and of tests over a range, in the words of the loops. Assumes nothing.
use Rattle.std.proofs.Common.{◌≡◌, refl, sym, ap, ◌∙◌, subst, Bool, true, false, cond, ◌&&◌, List, [], ◌∷◌, ℕ, zero, suc, ◌+◌, ◌-◌, ◌≤◌, ◌<◌, ◌↔◌, add-one, arith, eqb, ltb, length, get_or, Option, Some, None, MatchOption, is_some, position}
use Rattle.std.specs.List.{position_or_len}
use Rattle.std.proofs.lemmas.List.Recursion.{is_position_or_len}
use borrow.Author.Tests.{lt-ltb, ltb-true, eqb-true, eqb-false}
use Rattle.lists.specs.Among.{index_in, has, place_in, distinct}
use Rattle.lists.specs.Every.{every, all_below}

-- ---- where x is first, as a walk over a list finds it
index-position : (x : ℕ) (ys : List ℕ) → index_in x ys ≡ position_or_len (λ y. eqb y x) ys
unfolding index_in
index-position x =
    is_position_or_len (index_in x) (λ y. eqb y x) refl-nil step
  where
    refl-nil : index_in x [] ≡ 0
    refl-nil = refl

    step : (y : ℕ) (ys : List ℕ) → index_in x (y ∷ ys) ≡ cond (eqb y x) 0 (1 + index_in x ys)
    step y ys = let e : suc (index_in x ys) ≡ 1 + index_in x ys = omega arith in ap (cond (eqb y x) 0) e

pub position-place : (x : ℕ) (ys : List ℕ) → position (λ y. eqb y x) ys ≡ place_in x ys
unfolding place_in has
position-place x ys = simp (← index-position)

-- what the place says: x is none of them, or it is first there
pub place-found : (x : ℕ) (ys : List ℕ) {r : Option ℕ} → r ≡ place_in x ys
    → MatchOption r (has x ys ≡ false) (λ i. (i ≡ index_in x ys) × (i < length ys))
unfolding place_in has
place-found x ys e =
    subst (λ (r : Option ℕ). MatchOption r (has x ys ≡ false) (λ i. (i ≡ index_in x ys) × (i < length ys))) (sym e)
    (by (ltb (index_in x ys) (length ys)) refl)
  where
    by : (b : Bool) → ltb (index_in x ys) (length ys) ≡ b
        → MatchOption (cond b (Some (index_in x ys)) None) (ltb (index_in x ys) (length ys) ≡ false)
        (λ i. (i ≡ index_in x ys) × (i < length ys))
    by true t = (refl, ltb-true (index_in x ys) (length ys) t)
    by false t = t

-- ---- numbers that differ: the first of them stands again behind itself, or what is behind it decides
pub none-left : (ys : List ℕ) → length ys ≡ 0 → distinct ys ≡ true
unfolding distinct
none-left [] e = refl
none-left (y ∷ ys) e = absurd (omega arith)

pub place-some : (x : ℕ) (ys : List ℕ) → is_some (place_in x ys) ≡ has x ys
unfolding place_in
place-some x ys = by (has x ys)
  where
    by : (b : Bool) → is_some (cond b (Some (index_in x ys)) None) ≡ b
    by true = refl
    by false = refl

module _ {x : ℕ} {ys zs : List ℕ} {r : Option ℕ} (e : ys ≡ x ∷ zs) (f : r ≡ place_in x zs) where
  behind : {b : Bool} → b ≡ is_some r → has x zs ≡ b
  behind h = sym (h ∙ ap is_some f ∙ place-some x zs)

  pub again-behind : true ≡ is_some r → distinct ys ≡ false
  unfolding distinct
  again-behind h = ap distinct e ∙ simp (behind h)

  pub none-behind : false ≡ is_some r → distinct ys ≡ distinct zs
  unfolding distinct
  none-behind h = ap distinct e ∙ simp (behind h)

-- ---- the test holds at all places below i
pub record Holding (test : ℕ → Bool) (n i : ℕ) : Type 0 where
  pub room : i ≤ n
  pub same : every test i (n - i) ≡ every test 0 n

module _ {test : ℕ → Bool} {n : ℕ} where
  pub hold-begins : Holding test n 0
  hold-begins =
      let e : n - 0 ≡ n = omega arith in
      record { room = omega arith; same = ap (every test 0) e }

  module _ {i : ℕ} (w : Holding test n i) where
    pub hold-ends : n ≤ i → true ≡ every test 0 n
    unfolding every
    hold-ends h =
        let e : n - i ≡ 0 = omega arith in
        sym (ap (every test i) e) ∙ w.same

    module _ (h : i < n) {r : Bool} (e : r ≡ test i) where
      all_from : every test i (n - i) ≡ (test i && every test (i + 1) (n - (i + 1)))
      unfolding every
      all_from =
          let f : n - i ≡ suc (n - (i + 1)) = omega arith in
          ap (every test i) f ∙ simp (add-one i)

      pub hold-fails : r ≡ false → false ≡ every test 0 n
      hold-fails f = sym (all_from ∙ ap (λ (b : Bool). b && every test (i + 1) (n - (i + 1))) (sym e ∙ f)) ∙ w.same

      pub hold-next : r ≡ true → Holding test n (i + 1)
      hold-next f =
          record { room = omega arith; same = sym (all_from ∙ ap (λ (b : Bool). b && every test (i + 1) (n - (i + 1))) (sym e ∙ f)) ∙ w.same }

pub ruleset holding = (hold-begins, hold-ends, hold-fails, hold-next)

-- ---- a test that holds at every place holds at all of them
pub every-all : (test : ℕ → Bool) (i n : ℕ) → ((k : ℕ) → i ≤ k → k < i + n → test k ≡ true) → every test i n ≡ true
unfolding every
every-all test i zero f = refl
every-all test i (suc n) f =
    ap (λ (b : Bool). b && every test (suc i) n) (f i (omega arith) (omega arith)) ∙ every-all test (suc i) n (λ k h g. f k (omega arith) (omega arith))

-- a test alone; and both of two that hold together
pub and-true : (b : Bool) → (b && true) ≡ b
and-true true = refl
and-true false = refl

pub and_both : (a b : Bool) → (a && b) ≡ true → (a ≡ true) × (b ≡ true)
and_both true b e = (refl, e)
and_both false b e = (e, cc)

-- and where it holds at all of them, it holds at each
pub every-at : (test : ℕ → Bool) (i n k : ℕ) → every test i n ≡ true → i ≤ k → k < i + n → test k ≡ true
unfolding every
every-at test i zero k e h g = absurd (omega arith)
every-at test i (suc n) k e h g = at (eqb k i) refl (every-at test (suc i) n k)
  where
    both : (test i ≡ true) × (every test (suc i) n ≡ true)
    both = and_both (test i) (every test (suc i) n) e

    at : (q : Bool) → eqb k i ≡ q → (every test (suc i) n ≡ true → suc i ≤ k → k < suc i + n → test k ≡ true)
        → test k ≡ true
    at true t later = ap test (eqb-true k i t) ∙ both.0
    at false t later = let d = eqb-false k i t in later both.1 (omega arith) (omega arith)

-- two numbers are the same or not
pub by_eqb : (a b : ℕ) (P : Bool → Type 0) → (a ≡ b → P true) → ((a ≡ b → ⊥) → P false) → P (eqb a b)
by_eqb a b P f g = by (eqb a b) refl
  where
    by : (q : Bool) → eqb a b ≡ q → P q
    by true t = f (eqb-true a b t)
    by false t = g (eqb-false a b t)

-- ---- an answer that is true exactly where the test holds at every place
pub every-is : (test : ℕ → Bool) (n : ℕ) (r : Bool) → (r ≡ true ↔ ((k : ℕ) → k < n → test k ≡ true)) → r ≡ every test 0 n
every-is test n r e = by r (every test 0 n) forth back
  where
    forth : r ≡ true → every test 0 n ≡ true
    forth t = every-all test 0 n (λ k _ g. e.0 t k (omega arith))

    back : every test 0 n ≡ true → r ≡ true
    back t = e.1 (λ k g. every-at test 0 n k t (omega arith) (omega arith))

    by : (a b : Bool) → (a ≡ true → b ≡ true) → (b ≡ true → a ≡ true) → a ≡ b
    by true b f g = sym (f refl)
    by false true f g = g refl
    by false false f g = refl

pub below-all : (n : ℕ) (ys : List ℕ) (r : Bool) → (r ≡ true ↔ ((k : ℕ) → k < length ys → get_or ys k 0 < n)) → r ≡ all_below n ys
unfolding all_below
below-all n ys r e =
    every-is (λ i. ltb (get_or ys i 0) n) (length ys) r
    (λ t k g. lt-ltb (get_or ys k 0) n (e.0 t k g), λ f. e.1 (λ k g. ltb-true (get_or ys k 0) n (f k g)))
