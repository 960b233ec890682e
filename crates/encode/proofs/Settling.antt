-- The checks of encoding, and the number of blocks, in the words of the code. Assumes nothing.
use mathlib.Core.Path.{◌≡◌, ap, ◌∙◌}
use mathlib.Core.Bool.{Bool, true, false}
use Prim.Native.Nat.{ℕ, ◌+◌, ◌-◌, ◌*◌, ◌/◌, ◌%◌, ◌≤◌, ◌<◌, min}
use native.Mathlib.Nat.{add-mul, one-mul, mul-le-mul, div-lt_iff_lt-mul, le-div_iff_mul-le}
use Rattle.std.proofs.lemmas.Grind.{div_ceil_times}
use native.Mathlib.Omega.{arith}
use mir.Syntax.{w64}
use mir.Val.{Fits}
use borrow.Author.Tests.{not-true, not-false}
use Rattle.little.proofs.Tests.{tests}
use Rattle.units.specs.declared.Refusal.TheVariants.{LengthOutOfRange, FormatWrong, NotWholeFrames, OutputTooSmall}
use Rattle.units.specs.Checks.{decided}
use Rattle.formats.specs.Format.{ima_samples, codable}
use Rattle.formats.proofs.Making.{fine-some, fine-room, fine-most}
use Rattle.encode.specs.Encoding.{blocks_for, encode_verdict}
use Rattle.std.specs.Prelude.{Err, Ok}

-- ---- the number of blocks
-- a quotient rounded up, in the words of the library and in those of the definition
rounded : (n p : ℕ) → 1 ≤ p → n / p + min 1 (n % p) ≡ (n + p - 1) / p
rounded n p h =
    let q : ℕ = n / p + min 1 (n % p) in
    let t : (n ≤ q * p) × (q * p < n + p) = div_ceil_times n p h in
    omega (
      arith,
      (le-div_iff_mul-le {k = p} {x = q} {y = n + p - 1} h).1 (omega (arith, t.1)),
      (div-lt_iff_lt-mul {x = n + p - 1} {y = q + 1} h).1 (omega (arith, t.0, add-mul q 1 p, one-mul p)),
    )

module _ (c a n : ℕ) {per : ℕ} (e : per ≡ ima_samples c a) where
  pub per-some : 1 ≤ per
  unfolding ima_samples
  per-some = omega arith

  pub blocks-are : n / c / per + min 1 (n / c % per) ≡ blocks_for c a n
  unfolding blocks_for
  blocks-are = rounded (n / c) per per-some ∙ ap (λ (p : ℕ). (n / c + p - 1) / p) e

pub ruleset counting = (per-some, blocks-are)

pub product-fits : {b a : ℕ} → b ≤ 536870912 → a ≤ 4096 → Fits w64 (b * a)
product-fits {b} {a} h k = record { fits = omega (arith, mul-le-mul h k) }

pub fine-fits : (c a : ℕ) {r : Bool} → r ≡ codable c a → r ≡ true → {b : ℕ} → b ≤ 536870912 → Fits w64 (b * a)
fine-fits c a e f k = product-fits k (fine-most c a e f)

-- ---- the order of the checks
module _ (n c a room : ℕ) where
  pub verdict-long : 536870912 < n → Err LengthOutOfRange ≡ encode_verdict n c a room
  unfolding encode_verdict decided
  verdict-long h = simp tests

  module _ {r : Bool} (h : n ≤ 536870912) (e : r ≡ codable c a) where
    pub verdict-format : r ≡ false → Err FormatWrong ≡ encode_verdict n c a room
    unfolding encode_verdict decided
    verdict-format f = simp (tests, ← e, f)

    module _ (f : r ≡ true) where
      pub verdict-part : (n % c ≡ 0 → ⊥) → Err NotWholeFrames ≡ encode_verdict n c a room
      unfolding encode_verdict decided
      verdict-part k = simp (tests, ← e, f)

      module _ {b : ℕ} (k : n % c ≡ 0) (g : b ≡ blocks_for c a n) where
        pub verdict-room : room < b * a → Err OutputTooSmall ≡ encode_verdict n c a room
        unfolding encode_verdict decided
        verdict-room l = simp (tests, ← e, f, ← g)

        pub verdict-valid : b * a ≤ room → Ok tt ≡ encode_verdict n c a room
        unfolding encode_verdict decided
        verdict-valid l = simp (tests, ← e, f, ← g)

pub ruleset settling = (verdict-long, verdict-format, fine-some, fine-room, fine-most, fine-fits, verdict-part, verdict-room, verdict-valid, not-true, not-false)
