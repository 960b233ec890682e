-- The seven pairs of a Microsoft `fmt `, in the words of the code. Assumes nothing.
use mathlib.Core.Path.{◌≡◌, refl, sym, ap, ◌∙◌}
use mathlib.Core.Bool.{Bool, true, false}
use mathlib.Core.List.{List, [], ◌∷◌, ◌++◌}
use Prim.Native.Nat.{ℕ, zero, suc, ◌+◌, ◌*◌, ◌≤◌, ◌<◌}
use native.Mathlib.Omega.{arith}
use lib.IntN.{ℤ, pos}
use lib.ListN.{length, drop, get_or, length-append}
use lib.Seq.{drop-nil}
use mir.Syntax.{w16}
use mir.Val.{SFits}
use mir.Facts.{to_z-of_z}
use borrow.Author.Tests.{not-true, not-false}
use Rattle.little.specs.Numbers.{number_at, bytes_of}
use Rattle.little.specs.Writing.{Put}
use Rattle.little.proofs.Filling.{Written, put_next, drop-next, write-begins, write-piece, write-ends}
use Rattle.little.proofs.Tests.{tests}
use Rattle.lists.proofs.Laws.{Holding, hold-begins, hold-ends, hold-fails, hold-next}
use Rattle.samples.specs.Sound.{sample_bytes}
use Rattle.samples.proofs.Signed.{back}
use Rattle.samples.proofs.Turning.{length-sample}
use Rattle.formats.specs.Format.{pairs, pair_at, pairs_form}
use Rattle.formats.specs.Bytes.{pairs_bytes}

-- ---- all of them
abbrev pub Standing : List ℕ → List (List ℤ) → ℕ → Type 0
Standing s list i = Holding (λ k. pair_at s (22 + 4 * k) (get_or list k [])) 7 i

module _ (s : List ℕ) {c : ℕ} (k : c ≡ number_at 2 s 20) where
  pub pairs-miscounted : (c ≡ 7 → ⊥) → false ≡ pairs_form s
  unfolding pairs_form
  pairs-miscounted h = simp (tests, ← k)

  module _ (h : c ≡ 7) {i : ℕ} (w : Standing s pairs i) where
    pub pairs-differ : {r : Bool} → i < 7 → r ≡ pair_at s (22 + 4 * i) (get_or pairs i []) → r ≡ false → false ≡ pairs_form s
    unfolding pairs_form
    pairs-differ l e f = simp (tests, ← k) (hold-fails w l e f)

    pub pairs-stand : 7 ≤ i → true ≡ pairs_form s
    unfolding pairs_form
    pairs-stand l = simp (tests, ← k) (hold-ends w l)

pub ruleset pairing =
    (hold-begins, hold-next, pairs-miscounted, pairs-differ, pairs-stand, not-true, not-false)

-- ---- one pair, put
pub pair_put : {d e g : List ℕ} {at : ℕ} {x y : ℤ} → SFits w16 x → SFits w16 y → Put d at (sample_bytes (back w16 x)) e
    → Put e (at + 2) (sample_bytes (back w16 y)) g → at + 4 ≤ length d → Put d at (sample_bytes x ++ sample_bytes y) g
pair_put {x = x} {y} a b p q l =
    put_next (rw (to_z-of_z a) at p) (rw (to_z-of_z b) at q) (omega (arith, length-sample x)) (omega (arith, length-sample y))

-- ---- all of them, put: the bytes of the first i are written
length_pairs : (ps : List (List ℤ)) → length (pairs_bytes ps) ≡ 4 * length ps
unfolding pairs_bytes bytes_of
length_pairs [] = refl
length_pairs (p ∷ ps) = omega (arith, length_pairs ps)

pairs-from : (ps : List (List ℤ)) (i : ℕ) → drop (4 * i) (pairs_bytes ps) ≡ pairs_bytes (drop i ps)
unfolding pairs_bytes bytes_of
pairs-from ps zero = refl
pairs-from [] (suc i) = drop-nil (4 * suc i)
pairs-from (p ∷ ps) (suc i) =
    let e : 4 * suc i ≡ suc (suc (suc (suc (4 * i)))) = omega arith in
    rw e (pairs-from ps i)

pub pairs-begin : {out : List ℕ} {at : ℕ} → at + 28 ≤ length out → Written (pairs_bytes pairs) at (4 * 0) out out
pairs-begin h = write-begins (omega (arith, length_pairs pairs))

module _ (i : ℕ) {at : ℕ} {out out₀ : List ℕ} (w : Written (pairs_bytes pairs) at (4 * i) out out₀) where
  pub pairs-room : i < 7 → at + 4 * i + 4 ≤ length out
  pairs-room h = omega (arith, length_pairs pairs, w.room, w.filled.long)

  pub pairs_next : {e : List ℕ} → i < 7
      → Put out (at + 4 * i) (sample_bytes (get_or (get_or pairs i []) 0 (pos 0)) ++ sample_bytes (get_or (get_or pairs i []) 1 (pos 0))) e
      → Written (pairs_bytes pairs) at (4 * (i + 1)) e out₀
  unfolding pairs_bytes sample_bytes
  pairs_next h p =
      let pair : List ℤ = get_or pairs i [] in
      let xs : List ℕ = sample_bytes (get_or pair 0 (pos 0)) ++ sample_bytes (get_or pair 1 (pos 0)) in
      let l : length xs ≡ 4 = length-append (sample_bytes (get_or pair 0 (pos 0))) (sample_bytes (get_or pair 1 (pos 0)))
      ∙ omega (arith, length-sample (get_or pair 0 (pos 0)), length-sample (get_or pair 1 (pos 0))) in
      write-piece w p
      (pairs-from pairs i ∙ ap pairs_bytes (drop-next pairs i [] h) ∙ ap (λ (m : List ℕ). xs ++ m) (sym (pairs-from pairs (i + 1))))
      (omega arith)
      (omega (arith, length_pairs pairs))

  pub pairs_end : 7 ≤ i → Put out₀ at (pairs_bytes pairs) out
  pairs_end h = write-ends w (omega (arith, length_pairs pairs))

pub ruleset pairs-putting = (pair_put, pairs-begin, pairs-room, pairs_next, pairs_end)
