-- A number among others. Assumes nothing.
use Rattle.std.specs.Prelude.{ℕ, suc, Bool, true, not, cond, ◌&&◌, List, [], ◌∷◌, eqb, ltb, length, Option, None, Some}

-- the first place of x in a list, or the list's length where x is not in it
unfoldable pub index_in : ℕ → List ℕ → ℕ
index_in x [] = 0
index_in x (y ∷ ys) = cond (eqb y x) 0 (suc (index_in x ys))

-- x is in a list
unfoldable pub has : ℕ → List ℕ → Bool
has x ys = ltb (index_in x ys) (length ys)

-- the first place of x in a list, and none where x is not in it
unfoldable pub place_in : ℕ → List ℕ → Option ℕ
place_in x ys = cond (has x ys) (Some (index_in x ys)) None

-- no number is in a list twice
unfoldable pub distinct : List ℕ → Bool
distinct [] = true
distinct (x ∷ xs) = not (has x xs) && distinct xs
