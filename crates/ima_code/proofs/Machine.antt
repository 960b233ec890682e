-- Samples in a list: their codes lead through the encoder's states, and each is as near as demand 3 says. Assumes nothing.
use mathlib.Core.Path.{◌≡◌, refl, ap}
use mathlib.Core.Bool.{Bool, false}
use mathlib.Core.List.{List, [], ◌∷◌, ◌++◌}
use Prim.Native.Nat.{ℕ, zero, suc, ◌<◌}
use native.Mathlib.Omega.{arith}
use lib.IntN.{ℤ, pos}
use lib.ListN.{length, get_or}
use mir.Syntax.{w16}
use mir.Val.{SFits}
use Rattle.ima_code.specs.declared.ImaState.{ImaState}
use Rattle.ima_code.specs.Code.{code_for, tracked, is_chased}
use Rattle.lists.specs.States.{through}
use Rattle.ima_code.specs.Machine.{run, codes_of, after, chased_of, tracked_all}
use Rattle.ima_code.specs.Quality.{InRange, Sixteen, Faithful}
use Rattle.ima_code.proofs.Coding.{tracked-in-range}
use Rattle.ima_code.proofs.Quality.{faithful}

-- ---- decoding the codes of samples goes through the very states of encoding them
pub run-tracks : (t : ImaState) (xs : List ℤ) → run t (codes_of t xs) ≡ tracked_all t xs
unfolding through codes_of tracked_all tracked
run-tracks t [] = refl
run-tracks t (x ∷ xs) = ap (λ (l : List ImaState). tracked t x ∷ l) (run-tracks (tracked t x) xs)

-- ---- one list after another
pub after-append : (t : ImaState) (xs ys : List ℤ) → after t (xs ++ ys) ≡ after (after t xs) ys
unfolding after
after-append t [] ys = refl
after-append t (x ∷ xs) ys = after-append (tracked t x) xs ys

pub codes-append : (t : ImaState) (xs ys : List ℤ) → codes_of t (xs ++ ys) ≡ codes_of t xs ++ codes_of (after t xs) ys
unfolding codes_of after
codes-append t [] ys = refl
codes-append t (x ∷ xs) ys = ap (λ (l : List ℕ). code_for t x ∷ l) (codes-append (tracked t x) xs ys)

pub chased-append : (t : ImaState) (xs ys : List ℤ) → chased_of t (xs ++ ys) ≡ chased_of t xs ++ chased_of (after t xs) ys
unfolding chased_of after
chased-append t [] ys = refl
chased-append t (x ∷ xs) ys = ap (λ (l : List Bool). is_chased t x ∷ l) (chased-append (tracked t x) xs ys)

-- ---- one for each sample
pub length-codes : (t : ImaState) (xs : List ℤ) → length (codes_of t xs) ≡ length xs
unfolding codes_of
length-codes t [] = refl
length-codes t (x ∷ xs) = ap suc (length-codes (tracked t x) xs)

pub length-chased : (t : ImaState) (xs : List ℤ) → length (chased_of t xs) ≡ length xs
unfolding chased_of
length-chased t [] = refl
length-chased t (x ∷ xs) = ap suc (length-chased (tracked t x) xs)

pub length-tracked : (t : ImaState) (xs : List ℤ) → length (tracked_all t xs) ≡ length xs
unfolding tracked_all
length-tracked t [] = refl
length-tracked t (x ∷ xs) = ap suc (length-tracked (tracked t x) xs)

-- ---- lists of 16-bit samples
pub sixteen-none : Sixteen []
sixteen-none = record { at = λ i. none i }
  where
    none : (i : ℕ) → SFits w16 (get_or [] i (pos 0))
    none i = omega arith

pub sixteen-more : {x : ℤ} {xs : List ℤ} → SFits w16 x → Sixteen xs → Sixteen (x ∷ xs)
sixteen-more {x} {xs} f s = record { at = by }
  where
    by : (i : ℕ) → SFits w16 (get_or (x ∷ xs) i (pos 0))
    by zero = f
    by (suc i) = s.at i

pub sixteen-first : {x : ℤ} {xs : List ℤ} → Sixteen (x ∷ xs) → SFits w16 x
sixteen-first s = s.at 0

pub sixteen-rest : {x : ℤ} {xs : List ℤ} → Sixteen (x ∷ xs) → Sixteen xs
sixteen-rest s = record { at = λ i. s.at (suc i) }

-- ---- the channel after samples, and the quality of each of them
pub after-in-range : {t : ImaState} (xs : List ℤ) → InRange t → InRange (after t xs)
unfolding after
after-in-range [] c = c
after-in-range {t} (x ∷ xs) c = after-in-range {t = tracked t x} xs (tracked-in-range t x)

-- sample j of a list comes after the state before it, and is as near as demand 3 says; and whether it is chased
pub faithful-at : {t : ImaState} {xs : List ℤ} (z : ImaState) → InRange t → Sixteen xs → (j : ℕ) → j < length xs
    → Faithful (get_or (t ∷ tracked_all t xs) j z) (get_or xs j (pos 0)) (get_or (tracked_all t xs) j z).last
unfolding tracked_all
faithful-at {xs = []} z c s j h = absurd (omega arith)
faithful-at {xs = x ∷ xs} z c s zero h = faithful c (sixteen-first s)
faithful-at {t} {xs = x ∷ xs} z c s (suc j) h = faithful-at {t = tracked t x} z (tracked-in-range t x) (sixteen-rest s) j (omega arith)

pub chased-at : (t : ImaState) (xs : List ℤ) (z : ImaState) (j : ℕ) → j < length xs
    → get_or (chased_of t xs) j false ≡ is_chased (get_or (t ∷ tracked_all t xs) j z) (get_or xs j (pos 0))
unfolding tracked_all chased_of
chased-at t [] z j h = absurd (omega arith)
chased-at t (x ∷ xs) z zero h = refl
chased-at t (x ∷ xs) z (suc j) h = chased-at (tracked t x) xs z j (omega arith)
