-- Where a code stands: where its letters were laid, in a part of a file, and where the word there is the word of its letters. Two
-- words are the same exactly where their four bytes are; bytes past the end are read as zero, which is no code's last letter.
-- Assumes nothing.
use mathlib.Core.Path.{◌≡◌, refl, sym, ap, ◌∙◌, subst}
use mathlib.Core.Bool.{Bool, true, false}
use mathlib.Core.List.{List, ◌++◌}
use Prim.Native.Nat.{ℕ, ◌+◌, ◌≤◌}
use native.Mathlib.Omega.{arith}
use lib.Dec.{eqb, leb}
use lib.ListN.{length, take, drop, get_or}
use lib.Seq.{take_at, take_all, drop-drop}
use native.Mathlib.Nat.{zero-add}
use Rattle.std.specs.Int.{from_le_bytes}
use mir.Syntax.{w8, w32}
use mir.Val.{Fits}
use borrow.Author.Tests.{leb-true, leb-false, eqb-true, eqb-false}
use Rattle.little.specs.Numbers.{number_in, number_at, bytes_of}
use Rattle.little.specs.Same.{same_bytes}
use Rattle.little.proofs.Reading.{four_bytes, four_say, byte_past, said-bytes, bytes-at}
use Rattle.little.proofs.Comparing.{same-itself, same-says, same_not}
use Rattle.codes.specs.declared.Code.{Code}
use Rattle.codes.specs.Codes.{code_bytes, is_at}
use Rattle.codes.proofs.Bytes.{length-code, code-bytes, last_letter}

module _ (s : List ℕ) (at : ℕ) where
  -- where a code stands, the four bytes are its letters
  pub letters-there : (c : Code) → is_at s at c ≡ true → take 4 (drop at s) ≡ code_bytes c
  unfolding is_at
  letters-there c = same-says (take 4 (drop at s)) (code_bytes c)

  -- where four bytes are a code's letters, another code stands if its letters are the same
  same-there : (c : Code) → take 4 (drop at s) ≡ code_bytes c → (d : Code) → is_at s at d ≡ same_bytes (code_bytes c) (code_bytes d)
  unfolding is_at
  same-there c e d = ap (λ (l : List ℕ). same_bytes l (code_bytes d)) e

  -- the same where a code was laid
  pub laid_code : (c : Code) (ys : List ℕ) → drop at s ≡ code_bytes c ++ ys
      → (d : Code) → is_at s at d ≡ same_bytes (code_bytes c) (code_bytes d)
  laid_code c ys e = same-there c (ap (take 4) e ∙ take_at (code_bytes c) ys 4 (length-code c))

  pub stands : (c : Code) (ys : List ℕ) → drop at s ≡ code_bytes c ++ ys → is_at s at c ≡ true
  stands c ys e = laid_code c ys e c ∙ same-itself (code_bytes c)

  -- in the part from a place on
  pub dropped-code : (k : ℕ) (c : Code) → is_at s (at + k) c ≡ is_at (drop at s) k c
  unfolding is_at
  dropped-code k c = ap (λ (l : List ℕ). same_bytes (take 4 l) (code_bytes c)) (sym (drop-drop k at s))

-- ---- letters as a word, and back
pub word_of : {x : ℕ} (four : List ℕ) → length four ≡ 4 → x ≡ number_at 4 four 0 → x ≡ number_in four
unfolding number_at
word_of four h e = e ∙ ap number_in (take_all 4 four (omega arith))

word_back : (c : Code) → bytes_of 4 (number_in (code_bytes c)) ≡ code_bytes c
word_back c = subst (λ (n : ℕ). bytes_of n (number_in (code_bytes c)) ≡ code_bytes c) (length-code c) (said-bytes (code_bytes c) (code-bytes c))

module _ (s : List ℕ) (at : ℕ) (c : Code) (b : (k : ℕ) → Fits w8 (get_or s k 0)) where
  -- where the word of a code is read, all its four bytes are there: past the end its last letter would be zero
  room : number_at 4 s at ≡ number_in (code_bytes c) → at + 4 ≤ length s
  room e = by (leb (at + 4) (length s)) refl
    where
      by : (t : Bool) → leb (at + 4) (length s) ≡ t → at + 4 ≤ length s
      by true h = leb-true (at + 4) (length s) h
      by false h =
          let short : length s ≤ at + 3 = omega (arith, leb-false (at + 4) (length s) h) in
          let b₀ = (b at).fits in
          let b₁ = (b (at + 1)).fits in
          let b₂ = (b (at + 2)).fits in
          omega (
            arith,
            four_bytes s at refl refl refl (byte_past s (at + 3) short),
            four_bytes (code_bytes c) 0 refl refl refl refl,
            word_of (code_bytes c) (length-code c) refl,
            last_letter c,
          )

  pub by-numbers : is_at s at c ≡ eqb (number_at 4 s at) (number_in (code_bytes c))
  unfolding is_at number_at
  by-numbers = by (eqb (number_at 4 s at) (number_in (code_bytes c))) refl
    where
      by : (t : Bool) → eqb (number_at 4 s at) (number_in (code_bytes c)) ≡ t → is_at s at c ≡ t
      by true h =
          let e = eqb-true (number_at 4 s at) (number_in (code_bytes c)) h in
          same-there s at c (sym (bytes-at 4 s at (room e) b) ∙ ap (bytes_of 4) e ∙ word_back c) c
          ∙ same-itself (code_bytes c)
      by false h =
          sym (same_not (take 4 (drop at s)) (code_bytes c) (λ e. eqb-false (number_at 4 s at) (number_in (code_bytes c)) h (ap number_in e)))

  -- in the words of the code, whose four letters are read as a number by the library
  pub is_at_by_number : {x : ℕ} {four : List ℕ} → x ≡ number_at 4 s at → four ≡ code_bytes c → eqb x (from_le_bytes w32 four) ≡ is_at s at c
  is_at_by_number {four = four} e f =
      let n : from_le_bytes w32 four ≡ number_in (code_bytes c) =
      four_say four four 0 (λ k h. ap (λ (i : ℕ). get_or four i 0) (sym (zero-add k)))
      ∙ ap (λ (l : List ℕ). number_at 4 l 0) f
      ∙ word_of (code_bytes c) (length-code c) refl in
      (λ i. eqb (e i) (n i)) ∙ sym by-numbers
