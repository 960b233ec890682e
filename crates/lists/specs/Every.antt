-- A test that holds at every place of a range. Assumes nothing.
use Rattle.std.specs.Prelude.{ℕ, zero, suc, Bool, true, ◌&&◌, List, ltb, length, get_or}

-- the test holds at i, i + 1, .. , n places in all
unfoldable pub every : (ℕ → Bool) → ℕ → ℕ → Bool
every test i zero = true
every test i (suc n) = test i && every test (suc i) n

-- every number of a list is below n
unfoldable pub all_below : ℕ → List ℕ → Bool
all_below n xs = every (λ i. ltb (get_or xs i 0) n) 0 (length xs)
