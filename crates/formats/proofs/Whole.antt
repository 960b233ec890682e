-- Sound of 16-bit PCM: n bytes are whole frames where they are align times their number, and n is even. Assumes nothing.
use mathlib.Core.Path.{◌≡◌, refl, sym, ap, ◌∙◌}
use mathlib.Core.Bool.{true}
use Prim.Native.Nat.{ℕ, ◌*◌, ◌/◌, ◌%◌}
use native.Mathlib.Nat.{mul_comm, mul_assoc, mul-mod_right, mul-div_right}
use native.Mathlib.Omega.{arith}
use borrow.Author.Tests.{eq-eqb}
use Rattle.units.specs.declared.BytePlace.{BytePlace}
use Rattle.units.specs.declared.Frames.{Frames}
use Rattle.formats.specs.declared.Format.{Format}
use Rattle.formats.specs.Format.{format_rule}
use Rattle.formats.specs.Frames.{whole_blocks, blocks_in, frames_rule}
use Rattle.formats.proofs.Taken.{taken-align, taken-sixteen, whole_says, frames-exactly}
use Rattle.formats.proofs.Counts.{blocks-are, whole_is, frames-exact}

module _ (f : Format) (n : BytePlace) (frames : Frames) (tag : f.tag ≡ 1) where
  pub frames-long : whole_blocks f n ≡ true → frames_rule f n frames ≡ true → n.0 ≡ f.align * frames.0
  frames-long a b =
      whole_says f n a ∙ mul_comm (blocks_in f n) f.align ∙ ap (λ (k : ℕ). f.align * k) (sym (frames-exactly f n frames b tag))

  module _ (taken : format_rule f ≡ true) (long : n.0 ≡ f.align * frames.0) where
    pub long-whole : whole_blocks f n ≡ true
    long-whole =
        sym (whole_is f n (taken-align f taken))
        ∙ eq-eqb (n.0 % f.align) 0 (ap (λ (k : ℕ). k % f.align) long ∙ mul-mod_right f.align frames.0)

    pub long-count : frames_rule f n frames ≡ true
    long-count =
        let b : frames.0 ≡ blocks_in f n =
        sym (sym (blocks-are f n) ∙ ap (λ (k : ℕ). k / f.align) long ∙ mul-div_right frames.0 (taken-align f taken)) in
        sym (frames-exact f n b frames tag) ∙ eq-eqb frames.0 frames.0 refl

    pub long-even : f.bits ≡ 16 → n.0 % 2 ≡ 0
    long-even e =
        let a : f.align ≡ 2 * f.channels = taken-sixteen f taken tag (λ (d : f.bits ≡ 8). omega arith) in
        let b : n.0 ≡ 2 * (f.channels * frames.0) =
        long ∙ ap (λ (k : ℕ). k * frames.0) a ∙ mul_assoc 2 f.channels frames.0 in
        omega arith
