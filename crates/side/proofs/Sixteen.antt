-- 16-bit PCM that keeps the rules: two bytes for each channel, and the sound is whole frames. Assumes nothing.
use mathlib.Core.Path.{◌≡◌}
use mathlib.Core.Bool.{true}
use Prim.Native.Nat.{◌*◌}
use native.Mathlib.Omega.{arith}
use lib.Dec.{eqb}
use borrow.Author.Tests.{eqb-true}
use Rattle.lists.proofs.Laws.{and_both}
use Rattle.units.specs.declared.BytePlace.{BytePlace}
use Rattle.formats.specs.declared.Format.{Format}
use Rattle.formats.proofs.Taken.{taken-sixteen}
use Rattle.formats.proofs.Whole.{frames-long}
use Rattle.rules.specs.declared.Record.{Record}
use Rattle.rules.specs.Rules.{Writable}
use Rattle.side.specs.Side.{sixteen_bit}

pub sixteen-says : (f : Format) → sixteen_bit f ≡ true → (f.tag ≡ 1) × (f.bits ≡ 16)
unfolding sixteen_bit
sixteen-says f e =
    let p = and_both (eqb f.tag 1) (eqb f.bits 16) e in
    (eqb-true f.tag 1 p.0, eqb-true f.bits 16 p.1)

module _ {m : Record} {n : BytePlace} (k : Writable m n) (e : sixteen_bit m.format ≡ true) where
  pub sixteen-align : m.format.align ≡ 2 * m.format.channels
  sixteen-align =
      let p = sixteen-says m.format e in
      taken-sixteen m.format k.format p.0 (λ b. let z = p.1 in omega arith)

  pub sixteen-long : n.0 ≡ m.format.align * m.frames.0
  sixteen-long = frames-long m.format n m.frames (sixteen-says m.format e).0 k.whole k.count
