-- Laws of cutting a list: what is left of a part, a part of a part, the first elements of two lists. Assumes nothing.
use mathlib.Core.Path.{◌≡◌, refl, sym, ap, ◌∙◌}
use mathlib.Core.List.{List, [], ◌∷◌, ◌++◌}
use Prim.Native.Nat.{ℕ, zero, suc, ◌-◌}
use native.Mathlib.Nat.{sub-zero, zero-sub, suc-sub-suc}
use lib.ListN.{length, take, drop}
use lib.Seq.{take-nil}

module _ {A : Type 0} where
  -- what is left of the first n elements behind the first m
  pub drop-take : (m n : ℕ) (l : List A) → drop m (take n l) ≡ take (n - m) (drop m l)
  drop-take zero n l = ap (λ (k : ℕ). take k l) (sym (sub-zero n))
  drop-take (suc m) zero l = ap (λ (k : ℕ). take k (drop (suc m) l)) (sym (zero-sub (suc m)))
  drop-take (suc m) (suc n) [] = sym (take-nil (suc n - suc m))
  drop-take (suc m) (suc n) (x ∷ l) = drop-take m n l ∙ ap (λ (k : ℕ). take k (drop m l)) (sym (suc-sub-suc n m))

  -- the order of two cuts does not matter
  pub take-swap : (m n : ℕ) (l : List A) → take m (take n l) ≡ take n (take m l)
  take-swap zero n l = sym (take-nil n)
  take-swap (suc m) zero l = refl
  take-swap (suc m) (suc n) [] = refl
  take-swap (suc m) (suc n) (x ∷ l) = ap (λ (r : List A). x ∷ r) (take-swap m n l)

  -- the first n elements of two lists
  pub take-both : (n : ℕ) (xs ys : List A) → take n (xs ++ ys) ≡ take n xs ++ take (n - length xs) ys
  take-both n [] ys = (λ i. sym (take-nil n) i ++ take (sym (sub-zero n) i) ys)
  take-both zero (x ∷ xs) ys = ap (λ (k : ℕ). take k ys) (sym (zero-sub (length (x ∷ xs))))
  take-both (suc n) (x ∷ xs) ys =
      ap (λ (r : List A). x ∷ r)
      (take-both n xs ys ∙ ap (λ (k : ℕ). take n xs ++ take k ys) (sym (suc-sub-suc n (length xs))))
