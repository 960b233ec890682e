-- The writes of `fmt ` and `fact`, in the words of the code. Assumes nothing.
use mathlib.Core.Path.{◌≡◌, refl, subst}
use mathlib.Core.Bool.{true}
use mathlib.Core.List.{List, ◌++◌, append-nil}
use Prim.Native.Nat.{ℕ, ◌+◌, ◌*◌, ◌/◌, ◌≤◌, ◌<◌}
use native.Mathlib.Nat.{mul-le-mul}
use native.Mathlib.Omega.{arith}
use lib.ListN.{length}
use mir.Syntax.{w32}
use mir.Val.{Fits}
use Rattle.little.specs.Numbers.{bytes_of}
use Rattle.little.specs.Writing.{Put}
use Rattle.little.proofs.Filling.{put-long, put_next}
use Rattle.little.proofs.Tests.{tests}
use Rattle.formats.specs.declared.Format.{Format}
use Rattle.formats.specs.Format.{pairs, format_rule}
use Rattle.formats.specs.Bytes.{average_of, shared_bytes, extension_bytes, pairs_bytes, coefficient_bytes, format_bytes}
use Rattle.formats.proofs.Forms.{product-fits}
use Rattle.formats.proofs.Taken.{taken-rate, taken-samples, taken-microsoft}
use Rattle.formats.proofs.Bounds.{taken-most}
use Rattle.formats.proofs.Lengths.{bytes-pcm, bytes-ima, bytes-microsoft, length-shared, length-extension, length-coefficients, by_length, format-ima-long, format-microsoft-long}

-- ---- the average
module _ (f : Format) (e : format_rule f ≡ true) where
  pub average-fits : Fits w32 (f.rate * f.align)
  average-fits =
      let r : f.rate < 192001 = omega (arith, taken-rate f e) in
      let a : f.align < 4097 = omega (arith, taken-most f e) in
      product-fits r a tt

  pub average-most : f.rate * f.align ≤ 192000 * 4096
  average-most = mul-le-mul (taken-rate f e) (taken-most f e)

module _ (f : Format) where
  pub average-pcm : f.tag ≡ 1 → f.rate * f.align ≡ average_of f
  unfolding average_of
  average-pcm t = simp tests

  pub average-blocks : {r : ℕ} → (f.tag ≡ 1 → ⊥) → r ≡ f.rate * f.align / f.samples → r ≡ average_of f
  unfolding average_of
  average-blocks t e = simp (tests, e)

pub ruleset averaging = (average-fits, average-most, taken-samples, average-pcm, average-blocks)

-- ---- the parts of a `fmt `
module _ {d e g : List ℕ} {at : ℕ} where
  module _ (f : Format) {h : List ℕ} (l : at + 8 ≤ length d) where
    pub kind-put : Put d at (bytes_of 2 f.tag) e → Put e (at + 2) (bytes_of 2 f.channels) g → Put g (at + 4) (bytes_of 4 f.rate) h
        → Put d at (bytes_of 2 f.tag ++ (bytes_of 2 f.channels ++ bytes_of 4 f.rate)) h
    unfolding bytes_of
    kind-put p q r = put_next (put_next p q refl (omega arith)) r refl (omega arith)

    pub sizes-put : {x : ℕ} → x ≡ average_of f → Put d at (bytes_of 4 x) e → Put e (at + 4) (bytes_of 2 f.align) g → Put g (at + 6) (bytes_of 2 f.bits) h
        → Put d at (bytes_of 4 (average_of f) ++ (bytes_of 2 f.align ++ bytes_of 2 f.bits)) h
    unfolding bytes_of
    sizes-put s p q r =
        put_next (put_next (subst (λ (n : ℕ). Put d at (bytes_of 4 n) e) s p) q refl (omega arith)) r refl (omega arith)

  pub shared-put : (f : Format) → Put d at (bytes_of 2 f.tag ++ (bytes_of 2 f.channels ++ bytes_of 4 f.rate)) e
      → Put e (at + 8) (bytes_of 4 (average_of f) ++ (bytes_of 2 f.align ++ bytes_of 2 f.bits)) g → at + 16 ≤ length d → Put d at (shared_bytes f) g
  unfolding shared_bytes bytes_of
  shared-put f p q l = put_next p q refl (omega arith)

  pub extension-put : (size : ℕ) (f : Format) → Put d at (bytes_of 2 size) e → Put e (at + 2) (bytes_of 2 f.samples) g → at + 4 ≤ length d
      → Put d at (extension_bytes size f) g
  unfolding extension_bytes bytes_of
  extension-put size f p q l = put_next p q refl (omega arith)

  pub coefficients-put : Put d at (bytes_of 2 7) e → Put e (at + 2) (pairs_bytes pairs) g → at + 30 ≤ length d → Put d at coefficient_bytes g
  unfolding coefficient_bytes pairs_bytes bytes_of
  coefficients-put p q l = put_next p q refl (omega arith)

pub ruleset putting = (kind-put, sizes-put, shared-put, extension-put, coefficients-put)

-- ---- the whole, by the tag
module _ (f : Format) (at : ℕ) (d : List ℕ) (l : at + length (format_bytes f) ≤ length d) where
  pub format-room : at + 16 ≤ length d
  format-room = omega (arith, by_length f (λ n. 16 ≤ n) (omega arith) (omega arith) (omega arith))

  module _ {e : List ℕ} (p : Put d at (shared_bytes f) e) where
    same-room : length e ≡ length d
    same-room = put-long p (omega (arith, length-shared f, format-room))

    pub pcm-put : f.tag ≡ 1 → Put d at (format_bytes f) e
    pcm-put t = rw (bytes-pcm f t, append-nil (shared_bytes f)) p

    module _ (n : f.tag ≡ 1 → ⊥) where
      module _ (t : f.tag ≡ 17) where
        pub ima-room : at + 16 + 4 ≤ length e
        ima-room = omega (arith, same-room, format-ima-long f n t)

        pub ima-put : {g : List ℕ} → Put e (at + 16) (extension_bytes 2 f) g → Put d at (format_bytes f) g
        ima-put q =
            rw (bytes-ima f n t)
            (put_next p q (omega (arith, length-shared f)) (omega (arith, format-ima-long f n t, length-extension f 2)))

      module _ (m : f.tag ≡ 17 → ⊥) (r : format_rule f ≡ true) where
        long : 50 ≡ length (format_bytes f)
        long = format-microsoft-long f n m (taken-microsoft f r n m).tag

        pub microsoft-room : at + 16 + 4 ≤ length e
        microsoft-room = omega (arith, same-room, long)

        module _ {g : List ℕ} (q : Put e (at + 16) (extension_bytes 32 f) g) where
          pub coefficients-room : at + 20 + 30 ≤ length g
          coefficients-room = omega (arith, same-room, long, length-extension f 32, put-long q (omega (arith, same-room, long, length-extension f 32)))

          pub microsoft-put : {h : List ℕ} → Put g (at + 20) coefficient_bytes h → Put d at (format_bytes f) h
          unfolding shared_bytes extension_bytes bytes_of
          microsoft-put c =
              rw (bytes-microsoft f n m (taken-microsoft f r n m).tag)
              (put_next (put_next p q refl (omega (arith, long))) c refl (omega (arith, long, length-coefficients)))

pub ruleset format-putting = (format-room, pcm-put, ima-room, ima-put, microsoft-room, coefficients-room, microsoft-put)
