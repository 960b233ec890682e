-- Numbers with one more behind them: where each is, that they differ, that they are below a bound. Assumes nothing.
use mathlib.Core.Path.{◌≡◌, refl, sym, ap, ◌∙◌, subst}
use mathlib.Core.Bool.{Bool, true, false, not, cond}
use mathlib.Core.List.{List, [], ◌∷◌, ◌++◌}
use Prim.Native.Nat.{ℕ, suc, ◌+◌, ◌≤◌, ◌<◌}
use native.Mathlib.Omega.{arith}
use lib.Dec.{T, eqb, ltb, leb-suc-suc}
use lib.ListN.{length, get_or, length-append, get_or-append}
use lib.Seq.{get_or-append_seam}
use borrow.Author.Tests.{eq-eqb, ne_eqb, lt-ltb, ltb-true, not-true}
use Rattle.lists.specs.Among.{index_in, has, distinct}
use Rattle.lists.specs.Every.{every, all_below}
use Rattle.lists.proofs.Laws.{by_eqb, every-all, every-at, and_both}

-- a number is the first of them or among the others
pub has_first : (x y : ℕ) (ys : List ℕ) → has x (y ∷ ys) ≡ cond (eqb y x) true (has x ys)
unfolding has index_in
has_first x y ys = by (eqb y x)
  where
    by : (b : Bool) → ltb (cond b 0 (suc (index_in x ys))) (suc (length ys)) ≡ cond b true (ltb (index_in x ys) (length ys))
    by true = lt-ltb 0 (suc (length ys)) (omega arith)
    by false = leb-suc-suc (suc (index_in x ys)) (length ys)

-- ---- where a number is, with y behind them
module _ (x y : ℕ) where
  -- one among them is where it was
  pub index_stays : (ys : List ℕ) → has x ys ≡ true → index_in x (ys ++ (y ∷ [])) ≡ index_in x ys
  unfolding has index_in
  index_stays [] e = absurd (omega (arith, ltb-true 0 0 e))
  index_stays (z ∷ ys) e =
      by_eqb z x
      (λ b. cond b true (has x ys) ≡ true → cond b 0 (suc (index_in x (ys ++ (y ∷ [])))) ≡ cond b 0 (suc (index_in x ys)))
      (λ _ _. refl) (λ _ h. ap suc (index_stays ys h)) (sym (has_first x z ys) ∙ e)

  -- one that is neither among them nor y is not among all
  has-none : (ys : List ℕ) → has x ys ≡ false → (y ≡ x → ⊥) → has x (ys ++ (y ∷ [])) ≡ false
  has-none [] e n = has_first x y [] ∙ ap (λ (b : Bool). cond b true (has x [])) (ne_eqb y x n) ∙ e
  has-none (z ∷ ys) e n =
      has_first x z (ys ++ (y ∷ []))
      ∙ by_eqb z x (λ b. cond b true (has x ys) ≡ false → cond b true (has x (ys ++ (y ∷ []))) ≡ false)
      (λ _ h. h) (λ _ h. has-none ys h n) (sym (has_first x z ys) ∙ e)

-- ---- and with a number x that is not among them
module _ (x : ℕ) where
  pub index-last : (ys : List ℕ) → has x ys ≡ false → index_in x (ys ++ (x ∷ [])) ≡ length ys
  unfolding index_in
  index-last [] e = simp (eq-eqb x x refl)
  index-last (z ∷ ys) e =
      by_eqb z x (λ b. cond b true (has x ys) ≡ false → cond b 0 (suc (index_in x (ys ++ (x ∷ [])))) ≡ suc (length ys))
      (λ _ h. absurd (subst T h tt)) (λ _ h. ap suc (index-last ys h)) (sym (has_first x z ys) ∙ e)

  pub distinct_more : (ys : List ℕ) → distinct ys ≡ true → has x ys ≡ false → distinct (ys ++ (x ∷ [])) ≡ true
  unfolding distinct has index_in
  distinct_more [] d e = refl
  distinct_more (z ∷ ys) d e =
      let p = and_both (not (has z ys)) (distinct ys) d in
      by_eqb z x (λ b. cond b true (has x ys) ≡ false → distinct (z ∷ (ys ++ (x ∷ []))) ≡ true)
      (λ _ h. absurd (subst T h tt))
      (λ n h. simp (has-none z x ys (not-true (has z ys) p.0) (λ g. n (sym g)), distinct_more ys p.1 h))
      (sym (has_first x z ys) ∙ e)

-- ---- tests over a range with one place more, where an old test that holds gives the new one
pub every_more : (test then : ℕ → Bool) (n : ℕ)
    → every test 0 n ≡ true → ((k : ℕ) → k < n → test k ≡ true → then k ≡ true) → then n ≡ true → every then 0 (n + 1) ≡ true
every_more test then n e f h =
    every-all then 0 (n + 1)
    (λ k _ g.
    by_eqb k n (λ _. then k ≡ true) (λ q. ap then q ∙ h)
    (λ d. f k (omega arith) (every-at test 0 n k e (omega arith) (omega arith))))

-- a bound, which may be raised
pub below_more : (x n m : ℕ) (ys : List ℕ) → all_below n ys ≡ true → n ≤ m → x < m → all_below m (ys ++ (x ∷ [])) ≡ true
unfolding all_below
below_more x n m ys e l h =
    let z : List ℕ = ys ++ (x ∷ []) in
    ap (every (λ i. ltb (get_or z i 0) m) 0) (length-append ys (x ∷ []))
    ∙ every_more (λ i. ltb (get_or ys i 0) n) (λ i. ltb (get_or z i 0) m) (length ys) e
    (λ k g t. lt-ltb (get_or z k 0) m (omega (arith, ltb-true (get_or ys k 0) n t, get_or-append ys (x ∷ []) 0 k g)))
    (lt-ltb (get_or z (length ys) 0) m (omega (arith, get_or-append_seam ys x [] 0)))
