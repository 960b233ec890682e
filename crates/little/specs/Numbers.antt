-- Little-endian numbers of any width. Assumes nothing.
use Rattle.std.specs.Prelude.{ℕ, zero, suc, ◌+◌, ◌*◌, ◌/◌, ◌%◌, List, [], ◌∷◌, take, drop}

-- the number that bytes say, the least significant byte first
unfoldable pub number_in : List ℕ → ℕ
number_in [] = 0
number_in (b ∷ bs) = b + 256 * number_in bs

-- the number of n bytes at a place of s; what lies past the end counts as 0
unfoldable pub number_at : ℕ → List ℕ → ℕ → ℕ
number_at n s at = number_in (take n (drop at s))

-- the n bytes of a number, the least significant first
unfoldable pub bytes_of : ℕ → ℕ → List ℕ
bytes_of zero v = []
bytes_of (suc n) v = v % 256 ∷ bytes_of n (v / 256)
