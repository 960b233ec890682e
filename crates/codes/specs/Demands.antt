-- What the test of a code answers, letter by letter, and as the comparison of two numbers. Assumes nothing.
use Rattle.std.specs.Prelude.{ℕ, ◌+◌, ◌<◌, ◌≡◌, true, List, T, eqb, get_or}
use Rattle.std.proofs.Math.Pow.{are_bytes}
use Rattle.little.specs.Numbers.{number_in, number_at}
use Rattle.codes.specs.declared.Code.{Code}
use Rattle.codes.specs.Codes.{code_bytes, is_at}

-- the four letters of a code stand at a place, each in its turn
abbrev pub LettersAt : List ℕ → ℕ → Code → Type 0
LettersAt s at c = (k : ℕ) → k < 4 → get_or s (at + k) 0 ≡ get_or (code_bytes c) k 0

-- the test is true exactly where the four letters stand
unfoldable pub Lettered : Type 0
Lettered =
    (s : List ℕ) (at : ℕ) (c : Code) → T (are_bytes s)
    → (is_at s at c ≡ true → LettersAt s at c) × (LettersAt s at c → is_at s at c ≡ true)

-- the number that the letters of a code are in a file, the first letter as the least significant byte
unfoldable pub code_number : Code → ℕ
code_number c = number_in (code_bytes c)

-- the test answers as the comparison of the number there with the code's own does
unfoldable pub ByNumbers : Type 0
ByNumbers = (s : List ℕ) (at : ℕ) (c : Code) → T (are_bytes s) → is_at s at c ≡ eqb (number_at 4 s at) (code_number c)
