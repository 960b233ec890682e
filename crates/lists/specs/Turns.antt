-- Lists in turn, as the channels of a sound and of a block are. Assumes nothing.
use Rattle.std.specs.Prelude.{ℕ, zero, suc, ◌+◌, List, [], ◌∷◌, ◌++◌, map, take, drop}

-- the values of f at i, i + 1, .. , n in all
unfoldable pub values : {A : Type 0} → (ℕ → A) → ℕ → ℕ → List A
values f i zero = []
values f i (suc n) = f i ∷ values f (suc i) n

-- lists one after the other
unfoldable pub joined : {A : Type 0} → List (List A) → List A
joined [] = []
joined (l ∷ ls) = l ++ joined ls

-- n times w elements of each list in turn
unfoldable pub in_turn : {A : Type 0} → ℕ → ℕ → List (List A) → List A
in_turn w zero ls = []
in_turn w (suc n) ls = joined (map (take w) ls) ++ in_turn w n (map (drop w) ls)

-- n times w elements of a list, the first of them at index at and each of the others a stride further
unfoldable pub picked : {A : Type 0} → ℕ → ℕ → List A → ℕ → ℕ → List A
picked w stride s at zero = []
picked w stride s at (suc n) = take w (drop at s) ++ picked w stride s (at + stride) n
