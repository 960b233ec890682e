-- A number mixed of others in their order, by which long runs of bytes are compared in a line. Assumes nothing.
use Rattle.std.specs.Prelude.{ℕ, ◌+◌, ◌*◌, ◌%◌, List, [], ◌∷◌}

abbrev pub mixed_with : ℕ → ℕ → ℕ
mixed_with before value = (before * 31 + value % 65536) % 1000003

unfoldable pub mixed_from : ℕ → List ℕ → ℕ
mixed_from before [] = before
mixed_from before (x ∷ xs) = mixed_from (mixed_with before x) xs
