-- What the two tables share. Assumes nothing.
use Rattle.std.specs.Prelude.{ℕ, ◌+◌, ◌*◌, Bool, cond, ◌&&◌, List, leb, eqb, length}
use Rattle.little.specs.Numbers.{number_at}

-- the count of a table, its first four bytes
unfoldable pub count_in : List ℕ → ℕ
count_in s = number_at 4 s 0

-- the entries of a table that are kept: there is room for 64
unfoldable pub held : ℕ → ℕ
held count = cond (leb count 64) count 64

-- "a count, at most 64, then so many bytes each, nothing more"
unfoldable pub table_form : ℕ → List ℕ → Bool
table_form size s = leb (count_in s) 64 && eqb (length s) (4 + size * count_in s)
