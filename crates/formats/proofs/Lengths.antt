-- The bytes of `fmt ` for each tag, and how long they are; and those of `fact`. Assumes nothing.
use mathlib.Core.Path.{◌≡◌, refl, sym, ap, subst}
use mathlib.Core.List.{[], ◌++◌}
use Prim.Native.Nat.{ℕ}
use lib.ListN.{length}
use Rattle.little.specs.Numbers.{bytes_of}
use Rattle.little.proofs.Reading.{length-bytes}
use Rattle.little.proofs.Tests.{tests}
use Rattle.units.specs.declared.Frames.{Frames}
use Rattle.formats.specs.declared.Format.{Format}
use Rattle.formats.specs.Bytes.{shared_bytes, extension_bytes, pairs_bytes, coefficient_bytes, format_bytes, fact_bytes}
use Rattle.lists.proofs.Laws.{by_eqb}

-- ---- the bytes for each tag
module _ (f : Format) where
  pub bytes-pcm : f.tag ≡ 1 → format_bytes f ≡ shared_bytes f ++ []
  unfolding format_bytes
  bytes-pcm t = simp tests

  module _ (n : f.tag ≡ 1 → ⊥) where
    pub bytes-ima : f.tag ≡ 17 → format_bytes f ≡ shared_bytes f ++ extension_bytes 2 f
    unfolding format_bytes
    bytes-ima t = simp tests

    module _ (m : f.tag ≡ 17 → ⊥) where
      pub bytes-microsoft : f.tag ≡ 2 → format_bytes f ≡ shared_bytes f ++ (extension_bytes 32 f ++ coefficient_bytes)
      unfolding format_bytes
      bytes-microsoft t = simp tests

      pub bytes-other : (f.tag ≡ 2 → ⊥) → format_bytes f ≡ shared_bytes f ++ []
      unfolding format_bytes
      bytes-other t = simp tests

-- ---- their lengths
module _ (f : Format) where
  pub length-shared : length (shared_bytes f) ≡ 16
  unfolding shared_bytes bytes_of
  length-shared = refl

  pub length-extension : (size : ℕ) → length (extension_bytes size f) ≡ 4
  unfolding extension_bytes bytes_of
  length-extension size = refl

  pub format-pcm-long : f.tag ≡ 1 → 16 ≡ length (format_bytes f)
  unfolding shared_bytes bytes_of
  format-pcm-long t = ap length (sym (bytes-pcm f t))

  module _ (n : f.tag ≡ 1 → ⊥) where
    pub format-ima-long : f.tag ≡ 17 → 20 ≡ length (format_bytes f)
    unfolding shared_bytes extension_bytes bytes_of
    format-ima-long t = ap length (sym (bytes-ima f n t))

    module _ (m : f.tag ≡ 17 → ⊥) where
      pub format-microsoft-long : f.tag ≡ 2 → 50 ≡ length (format_bytes f)
      unfolding shared_bytes extension_bytes coefficient_bytes pairs_bytes bytes_of
      format-microsoft-long t = ap length (sym (bytes-microsoft f n m t))

      pub format-other-long : (f.tag ≡ 2 → ⊥) → 16 ≡ length (format_bytes f)
      unfolding shared_bytes bytes_of
      format-other-long t = ap length (sym (bytes-other f n m t))

  -- what is so of the three lengths is so
  pub by_length : (P : ℕ → Type 0) → P 16 → P 20 → P 50 → P (length (format_bytes f))
  by_length P a b c =
      by_eqb f.tag 1 (λ _. P (length (format_bytes f))) (λ t. subst P (format-pcm-long t) a)
      (λ n. by_eqb f.tag 17 (λ _. P (length (format_bytes f))) (λ t. subst P (format-ima-long n t) b)
      (λ m. by_eqb f.tag 2 (λ _. P (length (format_bytes f))) (λ t. subst P (format-microsoft-long n m t) c)
      (λ t. subst P (format-other-long n m t) a)))

pub length-coefficients : length coefficient_bytes ≡ 30
unfolding coefficient_bytes pairs_bytes bytes_of
length-coefficients = refl

pub fact-long : (frames : Frames) → length (fact_bytes frames) ≡ 4
unfolding fact_bytes
fact-long frames = length-bytes 4 frames.0

pub ruleset sizing = (format-pcm-long, format-ima-long, format-microsoft-long, format-other-long)
