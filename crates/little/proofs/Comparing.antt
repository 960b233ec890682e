-- Two runs of bytes are the same where they are one list, where the library says so, and where their parts are. Assumes nothing.
use mathlib.Core.Path.{◌≡◌, refl, sym, ap, ◌∙◌}
use mathlib.Core.Bool.{Bool, true, false, ◌&&◌}
use mathlib.Core.List.{List, [], ◌∷◌}
use Prim.Native.Nat.{ℕ, zero, suc, ◌+◌, ◌*◌}
use native.Mathlib.Omega.{arith}
use lib.Dec.{eqb}
use lib.ListN.{length, take, drop}
use Rattle.std.specs.Bool.{Decides}
use Rattle.std.specs.Cmp.Lexicographic.{pointwise}
use Rattle.std.proofs.lemmas.Slice.Eq.{compares_Decides}
use Rattle.little.specs.Numbers.{number_at}
use Rattle.little.specs.Same.{same_bytes}
use Rattle.little.proofs.Reading.{number_more, number-none}

same-decides : (xs ys : List ℕ) → Decides (same_bytes xs ys) (xs ≡ ys)
unfolding same_bytes
same-decides =
    compares_Decides same_bytes
    (record { empty = refl; shorter = λ y ys. refl; longer = λ x xs. refl; heads = λ x y xs ys. refl })

pub same-itself : (xs : List ℕ) → same_bytes xs xs ≡ true
same-itself xs = (same-decides xs xs).1 refl

pub same-says : (xs ys : List ℕ) → same_bytes xs ys ≡ true → xs ≡ ys
same-says xs ys = (same-decides xs ys).0

pub same_not : (xs ys : List ℕ) → (xs ≡ ys → ⊥) → false ≡ same_bytes xs ys
same_not xs ys h = by (same_bytes xs ys) refl
  where
    by : (b : Bool) → same_bytes xs ys ≡ b → false ≡ b
    by true e = absurd (h (same-says xs ys e))
    by false e = refl

-- the library's word for it
pub same_pointwise : (xs ys : List ℕ) → pointwise eqb xs ys ≡ same_bytes xs ys
unfolding same_bytes
same_pointwise [] [] = refl
same_pointwise [] (y ∷ ys) = refl
same_pointwise (x ∷ xs) [] = refl
same_pointwise (x ∷ xs) (y ∷ ys) = ap (λ (b : Bool). eqb x y && b) (same_pointwise xs ys)

pub same-long : (xs ys : List ℕ) → (length xs ≡ length ys → ⊥) → false ≡ same_bytes xs ys
same-long xs ys h = same_not xs ys (λ f. h (ap (λ (l : List ℕ). length l) f))

-- ---- part by part
and-all : (a b c : Bool) → (a && (b && c)) ≡ (a && b && c)
and-all true b c = refl
and-all false b c = refl

pub same-cut : (k : ℕ) (xs ys : List ℕ) → (same_bytes (take k xs) (take k ys) && same_bytes (drop k xs) (drop k ys)) ≡ same_bytes xs ys
unfolding same_bytes
same-cut zero xs ys = refl
same-cut (suc k) [] [] = refl
same-cut (suc k) [] (y ∷ ys) = refl
same-cut (suc k) (x ∷ xs) [] = refl
same-cut (suc k) (x ∷ xs) (y ∷ ys) =
    sym (and-all (eqb x y) (same_bytes (take k xs) (take k ys)) (same_bytes (drop k xs) (drop k ys)))
    ∙ ap (λ (b : Bool). eqb x y && b) (same-cut k xs ys)

-- ---- a number of eight bytes is those of its halves
pub eight-bytes : (s : List ℕ) (at : ℕ) {x y : ℕ} → x ≡ number_at 4 s at → y ≡ number_at 4 s (at + 4) → x + 4294967296 * y ≡ number_at 8 s at
eight-bytes s at e f =
    let q : at + 4 ≡ suc (suc (suc (suc at))) = omega arith in
    let f' = f ∙ ap (number_at 4 s) q in
    omega (
      arith,
      number_more 7 s at,
      number_more 6 s (suc at),
      number_more 5 s (suc (suc at)),
      number_more 4 s (suc (suc (suc at))),
      number_more 3 s at,
      number_more 2 s (suc at),
      number_more 1 s (suc (suc at)),
      number_more 0 s (suc (suc (suc at))),
      number-none s (suc (suc (suc (suc at)))),
    )
