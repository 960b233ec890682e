-- A channel as a state machine, for decoding and for encoding. Assumes nothing.
use Rattle.std.specs.Prelude.{ℕ, Bool, List, [], ◌∷◌, ℤ}
use Rattle.lists.specs.States.{through}
use Rattle.ima_code.specs.declared.ImaState.{ImaState}
use Rattle.ima_code.specs.Code.{after_code, code_for, tracked, is_chased}

-- the states that codes lead through, one after each
abbrev pub run : ImaState → List ℕ → List ImaState
run t ks = through after_code t ks

-- the codes of samples
unfoldable pub codes_of : ImaState → List ℤ → List ℕ
codes_of t [] = []
codes_of t (x ∷ xs) = code_for t x ∷ codes_of (tracked t x) xs

-- the state after samples
unfoldable pub after : ImaState → List ℤ → ImaState
after t [] = t
after t (x ∷ xs) = after (tracked t x) xs

-- which of the samples are chased
unfoldable pub chased_of : ImaState → List ℤ → List Bool
chased_of t [] = []
chased_of t (x ∷ xs) = is_chased t x ∷ chased_of (tracked t x) xs

-- the states that samples lead through, one after each
unfoldable pub tracked_all : ImaState → List ℤ → List ImaState
tracked_all t [] = []
tracked_all t (x ∷ xs) = tracked t x ∷ tracked_all (tracked t x) xs
