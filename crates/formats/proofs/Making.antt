-- Formats by what they are made of: samples per block, and the blocks that IMA has, in the words of the code. Assumes nothing.
use mathlib.Core.Path.{◌≡◌, refl, sym, ap, ◌∙◌}
use mathlib.Core.Bool.{Bool, true, false, cond, ◌&&◌}
use Prim.Native.Nat.{ℕ, ◌*◌, ◌%◌, ◌≤◌}
use native.Mathlib.Omega.{arith}
use lib.Dec.{leb, eqb}
use borrow.Author.Tests.{leb-true, eqb-true, le-leb}
use Rattle.little.proofs.Tests.{tests}
use Rattle.lists.proofs.Laws.{and_both}
use Rattle.formats.specs.Format.{ima_samples, codable, ima_stored}

-- ---- the blocks that IMA has
pub codable-long : (c a : ℕ) → 1 ≤ c → c ≤ 2 → a % (4 * c) ≡ 0 → 8 * c ≤ a → leb a 4096 ≡ codable c a
unfolding codable
codable-long c a h g k l = simp tests

-- what that says
pub record Codable (c a : ℕ) : Type 0 where
  pub some : 1 ≤ c
  pub two : c ≤ 2
  pub whole : a % (4 * c) ≡ 0
  pub least : 8 * c ≤ a
  pub most : a ≤ 4096

pub codable-says : (c a : ℕ) → codable c a ≡ true → Codable c a
unfolding codable
codable-says c a e =
    let p = and_both (leb 1 c && leb c 2 && eqb (a % (4 * c)) 0 && leb (8 * c) a) (leb a 4096) e in
    let q = and_both (leb 1 c && leb c 2 && eqb (a % (4 * c)) 0) (leb (8 * c) a) p.0 in
    let r = and_both (leb 1 c && leb c 2) (eqb (a % (4 * c)) 0) q.0 in
    let s = and_both (leb 1 c) (leb c 2) r.0 in
    record {
      some = leb-true 1 c s.0;
      two = leb-true c 2 s.1;
      whole = eqb-true (a % (4 * c)) 0 r.1;
      least = leb-true (8 * c) a q.1;
      most = leb-true a 4096 p.1;
    }

module _ (c a : ℕ) {r : Bool} (e : r ≡ codable c a) where
  pub stored-none : r ≡ false → 0 ≡ ima_stored c a
  unfolding ima_stored
  stored-none f = ap (λ (b : Bool). cond b (ima_samples c a) 0) (sym f ∙ e)

  module _ (f : r ≡ true) where
    says : Codable c a
    says = codable-says c a (sym e ∙ f)

    pub fine-some : 1 ≤ c
    fine-some = says.some

    pub fine-room : 4 * c ≤ a
    fine-room = omega (arith, says.least)

    pub fine-most : a ≤ 4096
    fine-most = says.most

    pub stored_is : {n : ℕ} → n ≡ ima_samples c a → n ≡ ima_stored c a
    unfolding ima_stored
    stored_is g = g ∙ ap (λ (b : Bool). cond b (ima_samples c a) 0) (sym f ∙ e)

-- ---- a format of blocks that IMA has
module _ {c a : ℕ} (w : Codable c a) where
  pub codable-is : codable c a ≡ true
  codable-is = sym (codable-long c a w.some w.two w.whole w.least) ∙ le-leb a 4096 w.most

  pub stored-per : ima_stored c a ≡ ima_samples c a
  stored-per = sym (stored_is c a refl codable-is refl)
