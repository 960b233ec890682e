-- Looking for a number, two of a list in a turn: it is none of those that are passed. Assumes nothing.
use mathlib.Core.Path.{◌≡◌, sym, ap, ◌∙◌, subst}
use mathlib.Core.Bool.{Bool, true, false, cond}
use mathlib.Core.List.{List}
use Prim.Native.Nat.{ℕ, suc, ◌+◌, ◌*◌, ◌/◌, ◌≤◌, ◌<◌}
use native.Mathlib.Numerals.{add-one}
use native.Mathlib.Omega.{arith}
use lib.Dec.{eqb, ltb}
use lib.ListN.{length, drop, get_or, drop_of_length-le}
use lib.Seq.{drop-cons}
use borrow.Author.Tests.{eq-eqb, ne_eqb, lt-ltb, le-ltb}
use Rattle.std.specs.Prelude.{None, Some}
use Rattle.lists.specs.Among.{index_in, has, place_in}

-- x is none of the first i
pub record Seeking (x : ℕ) (ys : List ℕ) (i : ℕ) : Type 0 where
  pub room : i ≤ length ys
  pub same : i + index_in x (drop i ys) ≡ index_in x ys

module _ {x : ℕ} {ys : List ℕ} where
  pub seek-begins : Seeking x ys 0
  seek-begins = record { room = omega arith; same = omega arith }

  module _ {i : ℕ} (w : Seeking x ys i) where
    pub seek-ends : length ys ≤ i → i ≡ index_in x ys
    unfolding index_in
    seek-ends h =
        let e = ap (index_in x) (drop_of_length-le ys h) in
        let s = w.same in
        omega arith

    module _ (h : i < length ys) where
      found_at : index_in x (drop i ys) ≡ cond (eqb (get_or ys i 0) x) 0 (suc (index_in x (drop (suc i) ys)))
      unfolding index_in
      found_at = ap (index_in x) (drop-cons ys i 0 h)

      pub seek_found : get_or ys i 0 ≡ x → i ≡ index_in x ys
      seek_found e =
          let f : index_in x (drop i ys) ≡ 0 = found_at ∙ simp (eq-eqb (get_or ys i 0) x e) in
          let s = w.same in
          omega arith

      pub seek-next : (get_or ys i 0 ≡ x → ⊥) → Seeking x ys (i + 1)
      seek-next n =
          let f : index_in x (drop i ys) ≡ suc (index_in x (drop (suc i) ys)) = found_at ∙ simp (ne_eqb (get_or ys i 0) x n) in
          let s = w.same in
          let g = ap (λ (k : ℕ). index_in x (drop k ys)) (add-one i) in
          record { room = omega arith; same = omega arith }

  -- of the next two the number is the first, or the second, or neither; or one is left, or none
  module _ {k : ℕ} (w : Seeking x ys (2 * k)) where
    module _ (h : k < length ys / 2) where
      pub seek-first : get_or ys (2 * k) 0 ≡ x → 2 * k ≡ index_in x ys
      seek-first e = seek_found w (omega arith) e

      module _ (n : get_or ys (2 * k) 0 ≡ x → ⊥) where
        pub seek-second : get_or ys (2 * k + 1) 0 ≡ x → 2 * k + 1 ≡ index_in x ys
        seek-second e = seek_found (seek-next w (omega arith) n) (omega arith) e

        pub seek-neither : (get_or ys (2 * k + 1) 0 ≡ x → ⊥) → Seeking x ys (2 * (k + 1))
        seek-neither m =
            let e : 2 * k + 1 + 1 ≡ 2 * (k + 1) = omega arith in
            subst (Seeking x ys) e (seek-next (seek-next w (omega arith) n) (omega arith) m)

    pub seek-last : length ys / 2 ≤ k → 2 * k < length ys → (get_or ys (2 * k) 0 ≡ x → ⊥) → 2 * k + 1 ≡ index_in x ys
    seek-last l h n = seek-ends (seek-next w h n) (omega arith)

  -- all pairs are passed
  pub pairs-passed : {k n : ℕ} → Seeking x ys (2 * k) → k ≡ n → Seeking x ys (2 * n)
  pairs-passed w e = subst (λ (m : ℕ). Seeking x ys (2 * m)) e w

-- where x is first at index i, and where it is none of all
module _ (x : ℕ) (ys : List ℕ) {i : ℕ} (e : i ≡ index_in x ys) where
  pub found-place : i < length ys → Some i ≡ place_in x ys
  unfolding place_in has
  found-place h =
      let t : ltb (index_in x ys) (length ys) ≡ true = lt-ltb (index_in x ys) (length ys) (omega arith) in
      ap (λ (k : ℕ). Some k) e ∙ sym (ap (λ (b : Bool). cond b (Some (index_in x ys)) None) t)

  pub none-has : length ys ≤ i → has x ys ≡ false
  unfolding has
  none-has h = le-ltb (index_in x ys) (length ys) (omega arith)

  pub none-place : length ys ≤ i → None ≡ place_in x ys
  unfolding place_in
  none-place h = sym (ap (λ (b : Bool). cond b (Some (index_in x ys)) None) (none-has h))

pub ruleset seeking = (seek-begins, seek-ends, seek_found, seek-first, seek-second, seek-neither, seek-last)
