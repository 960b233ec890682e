-- What is written has the form that is asked for, and is no longer than what was read. Assumes nothing.
use mathlib.Core.Path.{◌≡◌, refl, sym, ap, ◌∙◌}
use mathlib.Core.Bool.{Bool, true, false, ◌&&◌}
use mathlib.Core.List.{List, [], ◌++◌}
use Prim.Native.Nat.{ℕ, ◌+◌, ◌*◌, ◌≤◌}
use native.Mathlib.Omega.{arith}
use lib.Dec.{leb, eqb}
use lib.ListN.{length}
use borrow.Author.Tests.{leb-true, eq-eqb}
use Rattle.little.specs.Numbers.{number_in, number_at, bytes_of}
use Rattle.little.proofs.Tests.{tests}
use Rattle.lists.specs.Every.{every}
use Rattle.lists.proofs.Laws.{by_eqb, and_both}
use Rattle.samples.specs.Sound.{bits_of}
use Rattle.formats.specs.declared.Format.{Format}
use Rattle.formats.specs.Format.{by_tag, format_of, extended, average, pair_at, pairs_form, format_form, format_rule}
use Rattle.formats.specs.Bytes.{average_of, shared_bytes, extension_bytes, pairs_bytes, coefficient_bytes, format_bytes}
use Rattle.formats.proofs.Forms.{average-is, form-pcm, form-ima, form-microsoft}
use Rattle.formats.proofs.Taken.{by-format}
use Rattle.formats.proofs.Bounds.{taken-fits}
use Rattle.formats.proofs.Lengths.{bytes-pcm, bytes-ima, bytes-microsoft, format-pcm-long, format-ima-long, format-microsoft-long, format-other-long}
use Rattle.formats.proofs.Putting.{average-fits, average-pcm}
use Rattle.formats.proofs.Back.{said-tag, said-rate, said-average, said-align}

-- ---- the form of what is written: of PCM the average, of ADPCM the extension and the pairs, which compute
module _ (f : Format) (e : format_rule f ≡ true) where
  pcm-written : f.tag ≡ 1 → format_form (format_bytes f) ≡ true
  unfolding shared_bytes bytes_of
  pcm-written t =
      let s : List ℕ = shared_bytes f ++ [] in
      let h = taken-fits f e in
      let a = average-pcm f t in
      let p = (average-fits f e).fits in
      let v : average_of f ≡ f.rate * f.align = omega arith in
      let m : eqb (average_of f) (f.rate * f.align) ≡ average s =
      average-is s (sym (said-rate f [] h.rate)) (sym (said-align f [] h.align)) (sym (said-average f [] (omega arith))) in
      ap format_form (bytes-pcm f t) ∙ sym (form-pcm s (omega arith) (sym (said-tag f [] h.tag)) t m) ∙ eq-eqb (average_of f) (f.rate * f.align) v

module _ (f : Format) where
  ima-extended : extended 20 2 (shared_bytes f ++ extension_bytes 2 f) ≡ true
  unfolding extended shared_bytes extension_bytes bytes_of number_at number_in
  ima-extended = refl

  microsoft-extended : extended 50 32 (shared_bytes f ++ (extension_bytes 32 f ++ coefficient_bytes)) ≡ true
  unfolding extended shared_bytes extension_bytes coefficient_bytes pairs_bytes bytes_of number_at number_in
  microsoft-extended = refl

  microsoft-pairs : pairs_form (shared_bytes f ++ (extension_bytes 32 f ++ coefficient_bytes)) ≡ true
  unfolding pairs_form every pair_at bits_of shared_bytes extension_bytes coefficient_bytes pairs_bytes bytes_of number_at number_in
  microsoft-pairs = refl

pub format-written : (f : Format) → format_rule f ≡ true → format_form (format_bytes f) ≡ true
unfolding shared_bytes extension_bytes coefficient_bytes pairs_bytes bytes_of
format-written f e =
    let h = taken-fits f e in
    by-format f e (format_form (format_bytes f) ≡ true) (λ t p. pcm-written f e t)
    (λ t p.
    let s : List ℕ = extension_bytes 2 f in
    ap format_form (bytes-ima f (λ n. omega arith) t)
    ∙ sym (form-ima (shared_bytes f ++ s) (omega arith) (sym (said-tag f s h.tag)) (λ n. omega arith) t (sym (ima-extended f))))
    (λ t p.
    let s : List ℕ = extension_bytes 32 f ++ coefficient_bytes in
    ap format_form (bytes-microsoft f (λ n. omega arith) (λ m. omega arith) t)
    ∙ sym (form-microsoft (shared_bytes f ++ s) (omega arith) (sym (said-tag f s h.tag)) (λ n. omega arith) (λ m. omega arith) t
    (sym (microsoft-extended f)) refl (sym (microsoft-pairs f))))

-- ---- the bytes that were read are as many at least
extended-long : (size extension : ℕ) (s : List ℕ) → extended size extension s ≡ true → size ≤ length s
unfolding extended
extended-long size extension s e =
    let p = and_both (leb size (length s) && leb extension (number_at 2 s 16)) (leb (18 + number_at 2 s 16) (length s)) e in
    leb-true size (length s) (and_both (leb size (length s)) (leb extension (number_at 2 s 16)) p.0).0

pub format-shortest : (s : List ℕ) → format_form s ≡ true → length (format_bytes (format_of s)) ≤ length s
unfolding format_form format_of
format-shortest s e =
    let f : Format = format_of s in
    let asked : Bool = by_tag f.tag (average s) (extended 20 2 s) (extended 50 32 s && pairs_form s) false in
    let p = and_both (leb 16 (length s)) asked e in
    let l : 16 ≤ length s = leb-true 16 (length s) p.0 in
    by_eqb f.tag 1 (λ _. length (format_bytes f) ≤ length s) (λ t. omega (arith, format-pcm-long f t))
    (λ n.
    by_eqb f.tag 17 (λ _. length (format_bytes f) ≤ length s)
    (λ t.
    let r : asked ≡ extended 20 2 s = simp tests in
    omega (arith, format-ima-long f n t, extended-long 20 2 s (sym r ∙ p.1)))
    (λ m.
    by_eqb f.tag 2 (λ _. length (format_bytes f) ≤ length s)
    (λ t.
    let r : asked ≡ (extended 50 32 s && pairs_form s) = simp tests in
    omega (arith, format-microsoft-long f n m t, extended-long 50 32 s (and_both (extended 50 32 s) (pairs_form s) (sym r ∙ p.1)).0))
    (λ t. omega (arith, format-other-long f n m t))))
