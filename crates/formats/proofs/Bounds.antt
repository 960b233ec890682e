-- Bounds of the numbers of a format that is taken, and of the frames of its sound. Assumes nothing.
use mathlib.Core.Path.{◌≡◌}
use mathlib.Core.Bool.{true}
use Prim.Native.Nat.{ℕ, ◌-◌, ◌*◌, ◌≤◌, ◌<◌}
use native.Mathlib.Nat.{mul-le-mul_left, div-le_self, div-mul-le_self, mul_left_comm}
use native.Mathlib.Omega.{arith}
use Rattle.units.specs.Refusals.{file_limit}
use Rattle.units.specs.declared.BytePlace.{BytePlace}
use Rattle.units.specs.declared.Frames.{Frames}
use Rattle.formats.specs.declared.Format.{Format}
use Rattle.formats.specs.Format.{ima_samples, ms_samples, format_rule}
use Rattle.formats.specs.Frames.{blocks_in, frames_rule}
use Rattle.formats.specs.Bytes.{FormatFits}
use Rattle.lists.proofs.Laws.{by_eqb}
use Rattle.formats.proofs.Taken.{by-format, taken-some, taken-two, taken-rate, taken-bits, taken-eight, taken-sixteen, frames-most}

module _ (f : Format) (e : format_rule f ≡ true) where
  pub taken-most : f.align ≤ 4096
  taken-most =
      by-format f e (f.align ≤ 4096)
      (λ t p.
      by_eqb f.bits 8 (λ _. f.align ≤ 4096)
      (λ b. omega (arith, taken-eight f e t b, taken-two f e)) (λ b. omega (arith, taken-sixteen f e t b, taken-two f e)))
      (λ t p. p.sized.most) (λ t p. p.sized.most)

  -- a sample has half a byte at least
  pub taken-each : f.samples ≤ 2 * f.align
  unfolding ima_samples ms_samples
  taken-each =
      by-format f e (f.samples ≤ 2 * f.align)
      (λ t p.
      by_eqb f.bits 8 (λ _. f.samples ≤ 2 * f.align)
      (λ b. omega (arith, p.samples, taken-eight f e t b, taken-some f e)) (λ b. omega (arith, p.samples, taken-sixteen f e t b, taken-some f e)))
      (λ t p. omega (arith, p.samples, p.sized.least, taken-some f e, div-le_self ((f.align - 4 * f.channels) * 2) f.channels))
      (λ t p. omega (arith, p.samples, p.sized.least, taken-some f e, div-le_self ((f.align - 7 * f.channels) * 2) f.channels))

  pub taken-fits : FormatFits f
  taken-fits =
      record {
        tag = by-format f e (f.tag < 65536) (λ t p. omega arith) (λ t p. omega arith) (λ t p. omega arith);
        channels = omega (arith, taken-two f e);
        rate = omega (arith, taken-rate f e);
        bits =
            by-format f e (f.bits < 65536)
            (λ t p. by_eqb f.bits 8 (λ _. f.bits < 65536) (λ b. omega arith) (λ b. omega (arith, taken-bits f e t b)))
            (λ t p. omega (arith, p.sized.bits))
            (λ t p. omega (arith, p.sized.bits));
        align = omega (arith, taken-most);
        samples = omega (arith, taken-each, taken-most);
      }

-- at most two frames in a byte
pub frames-bound : (f : Format) (n : BytePlace) (frames : Frames) → format_rule f ≡ true → frames_rule f n frames ≡ true
    → n.0 ≤ file_limit → frames.0 < 4294967296
unfolding blocks_in
frames-bound f n frames e g h =
    let b : ℕ = blocks_in f n in
    let l : b * f.samples ≤ b * (2 * f.align) = mul-le-mul_left b (taken-each f e) in
    omega (arith, frames-most f n frames g e, mul_left_comm b 2 f.align, div-mul-le_self n.0 f.align)
