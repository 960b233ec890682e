-- `fmt ` and `fact` there and back: what the bytes that were written say, number by number. Assumes nothing.
use mathlib.Core.Path.{◌≡◌, sym, ap, ◌∙◌, subst}
use mathlib.Core.Bool.{true, cond}
use mathlib.Core.List.{List, [], ◌++◌}
use Prim.Native.Nat.{ℕ, ◌<◌}
use native.Mathlib.Omega.{arith}
use borrow.Author.Tests.{eq-eqb, ne_eqb}
use Rattle.little.specs.Numbers.{number_at, bytes_of}
use Rattle.little.proofs.Reading.{bytes-say}
use Rattle.little.proofs.Tests.{tests}
use Rattle.units.specs.declared.Frames.{Frames}
use Rattle.formats.specs.declared.Format.{Format}
use Rattle.formats.specs.Format.{by_tag, samples_field, format_of, format_rule}
use Rattle.formats.specs.Bytes.{average_of, shared_bytes, extension_bytes, coefficient_bytes, format_bytes, fact_bytes, said_format, FormatFits}
use Rattle.lists.proofs.Laws.{by_eqb}
use Rattle.formats.proofs.Taken.{by-format}
use Rattle.formats.proofs.Bounds.{taken-fits}
use Rattle.formats.proofs.Lengths.{bytes-pcm, bytes-ima, bytes-microsoft}

-- ---- the numbers that every `fmt ` has, whatever follows them
module _ (f : Format) (rest : List ℕ) where
  pub said-tag : f.tag < 65536 → number_at 2 (shared_bytes f ++ rest) 0 ≡ f.tag
  unfolding shared_bytes bytes_of number_at
  said-tag h = bytes-say 2 f.tag h

  pub said-channels : f.channels < 65536 → number_at 2 (shared_bytes f ++ rest) 2 ≡ f.channels
  unfolding shared_bytes bytes_of number_at
  said-channels h = bytes-say 2 f.channels h

  pub said-rate : f.rate < 4294967296 → number_at 4 (shared_bytes f ++ rest) 4 ≡ f.rate
  unfolding shared_bytes bytes_of number_at
  said-rate h = bytes-say 4 f.rate h

  pub said-average : average_of f < 4294967296 → number_at 4 (shared_bytes f ++ rest) 8 ≡ average_of f
  unfolding shared_bytes bytes_of number_at
  said-average h = bytes-say 4 (average_of f) h

  pub said-align : f.align < 65536 → number_at 2 (shared_bytes f ++ rest) 12 ≡ f.align
  unfolding shared_bytes bytes_of number_at
  said-align h = bytes-say 2 f.align h

  pub said-bits : f.bits < 65536 → number_at 2 (shared_bytes f ++ rest) 14 ≡ f.bits
  unfolding shared_bytes bytes_of number_at
  said-bits h = bytes-say 2 f.bits h

  -- with the samples, they are the format
  said-format : FormatFits f → samples_field (shared_bytes f ++ rest) f.tag ≡ f.samples → format_of (shared_bytes f ++ rest) ≡ f
  unfolding format_of
  said-format h e =
      let s : List ℕ = shared_bytes f ++ rest in
      let t = said-tag h.tag in
      let n : samples_field s (number_at 2 s 0) ≡ f.samples = ap (samples_field s) t ∙ e in
      λ i. record {
        tag = t i;
        channels = said-channels h.channels i;
        rate = said-rate h.rate i;
        bits = said-bits h.bits i;
        align = said-align h.align i;
        samples = n i;
      }

-- ---- the format, for each tag
module _ (f : Format) (h : FormatFits f) where
  pcm-back : f.tag ≡ 1 → f.samples ≡ 1 → format_of (format_bytes f) ≡ f
  unfolding samples_field
  pcm-back t s = rw (bytes-pcm f t) (said-format f [] h (simp (tests, s)))

  module _ (n : f.tag ≡ 1 → ⊥) where
    ima-back : f.tag ≡ 17 → format_of (format_bytes f) ≡ f
    unfolding samples_field shared_bytes extension_bytes bytes_of number_at
    ima-back t = rw (bytes-ima f n t) (said-format f (extension_bytes 2 f) h (simp tests (bytes-say 2 f.samples h.samples)))

    microsoft-back : (f.tag ≡ 17 → ⊥) → f.tag ≡ 2 → format_of (format_bytes f) ≡ f
    unfolding samples_field shared_bytes extension_bytes bytes_of number_at
    microsoft-back m t =
        rw (bytes-microsoft f n m t)
        (said-format f (extension_bytes 32 f ++ coefficient_bytes) h (simp tests (bytes-say 2 f.samples h.samples)))

-- ---- the laws: the tag of any format, a format that is taken, and one that is taken as it is read back
pub format-tag : (f : Format) → f.tag < 65536 → (format_of (format_bytes f)).tag ≡ f.tag
unfolding format_of format_bytes
format-tag f h = said-tag f (by_tag f.tag [] (extension_bytes 2 f) (extension_bytes 32 f ++ coefficient_bytes) []) h

pub format_back : (f : Format) → format_rule f ≡ true → format_of (format_bytes f) ≡ f
format_back f e =
    let h = taken-fits f e in
    by-format f e (format_of (format_bytes f) ≡ f) (λ t p. pcm-back f h t p.samples)
    (λ t p. ima-back f h (λ n. omega arith) t)
    (λ t p. microsoft-back f h (λ n. omega arith) (λ m. omega arith) t)

pub format-carried : (f : Format) → FormatFits f → (f.tag ≡ 1 → f.samples ≡ 1)
    → format_rule (format_of (format_bytes f)) ≡ true → format_rule f ≡ true
format-carried f h s e =
    let t = format-tag f h.tag in
    let same : format_of (format_bytes f) ≡ f → format_rule f ≡ true = λ q. subst (λ (g : Format). format_rule g ≡ true) q e in
    by-format (format_of (format_bytes f)) e (format_rule f ≡ true)
    (λ u p. let v : f.tag ≡ 1 = omega arith in same (pcm-back f h v (s v)))
    (λ u p. same (ima-back f h (λ n. omega arith) (omega arith)))
    (λ u p. same (microsoft-back f h (λ n. omega arith) (λ m. omega arith) (omega arith)))

-- the bytes are those of what they say, and what is read of them is taken only where that is
said-bytes-same : (f : Format) → format_bytes (said_format f) ≡ format_bytes f
unfolding format_bytes shared_bytes extension_bytes average_of said_format
said-bytes-same f = by_eqb f.tag 1 (λ _. format_bytes (said_format f) ≡ format_bytes f) (λ t. simp (eq-eqb f.tag 1 t)) (λ n. simp (ne_eqb f.tag 1 n))

pub format-said : (f : Format) → FormatFits f → format_rule (format_of (format_bytes f)) ≡ true → format_rule (said_format f) ≡ true
unfolding said_format
format-said f h e =
    format-carried (said_format f)
    (record {
      tag = h.tag;
      channels = h.channels;
      rate = h.rate;
      bits = h.bits;
      align = h.align;
      samples = by_eqb f.tag 1 (λ b. cond b 1 f.samples < 65536) (λ t. omega arith) (λ n. h.samples);
    })
    (λ t. let k = eq-eqb f.tag 1 t in simp k)
    (subst (λ (s : List ℕ). format_rule (format_of s) ≡ true) (sym (said-bytes-same f)) e)

pub fact-back : (frames : Frames) → frames.0 < 4294967296 → number_at 4 (fact_bytes frames) 0 ≡ frames.0
unfolding fact_bytes bytes_of number_at
fact-back frames h = bytes-say 4 frames.0 h
