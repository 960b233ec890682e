-- What the test of a code answers, letter by letter and as the comparison of two numbers: each letter is read off the four bytes at the
-- place, and four equal letters make equal words. Assumes nothing.
use mathlib.Core.Path.{◌≡◌, refl, sym, ap, ◌∙◌}
use mathlib.Core.Bool.{true}
use mathlib.Core.List.{List}
use Prim.Native.Nat.{ℕ, suc, ◌+◌}
use native.Mathlib.Omega.{arith}
use lib.Dec.{T, lit<}
use lib.ListN.{drop, get_or}
use lib.Pow.{are_bytes}
use lib.Seq.{get_or-take, get_or-drop}
use mir.Syntax.{w8}
use mir.Val.{Fits}
use borrow.Author.Tests.{eq-eqb}
use Rattle.little.specs.Numbers.{number_in, number_at}
use Rattle.little.proofs.Reading.{number_more, number-none, number_fits, four_bytes}
use Rattle.codes.specs.declared.Code.{Code}
use Rattle.codes.specs.Codes.{code_bytes, is_at}
use Rattle.codes.specs.Demands.{LettersAt, Lettered, code_number, ByNumbers}
use Rattle.codes.proofs.Bytes.{length-code}
use Rattle.codes.proofs.Laws.{letters-there, word_of, by-numbers}

byte_fits : (s : List ℕ) → T (are_bytes s) → (k : ℕ) → Fits w8 (get_or s k 0)
byte_fits s t k = record { fits = omega (arith, number_fits 1 s k t, number_more 0 s k, number-none s (suc k)) }

module _ (s : List ℕ) (at : ℕ) (c : Code) where
  each : is_at s at c ≡ true → LettersAt s at c
  each e k h =
      sym (get_or-drop at s k 0)
      ∙ sym (get_or-take 4 (drop at s) k 0 h)
      ∙ ap (λ (l : List ℕ). get_or l k 0) (letters-there s at c e)

  all : T (are_bytes s) → LettersAt s at c → is_at s at c ≡ true
  all t l =
      let start : get_or s (at + 0) 0 ≡ get_or s at 0 = ap (λ (n : ℕ). get_or s n 0) (omega arith) in
      by-numbers s at c (byte_fits s t)
      ∙ eq-eqb (number_at 4 s at) (number_in (code_bytes c))
      (sym (four_bytes s at (sym (l 0 (lit< tt)) ∙ start) (sym (l 1 (lit< tt))) (sym (l 2 (lit< tt))) (sym (l 3 (lit< tt))))
      ∙ four_bytes (code_bytes c) 0 refl refl refl refl
      ∙ word_of (code_bytes c) (length-code c) refl)

pub lettered : Lettered
unfolding Lettered
lettered s at c t = (each s at c, all s at c t)

pub as-numbers : ByNumbers
unfolding ByNumbers code_number
as-numbers s at c t = by-numbers s at c (byte_fits s t)
