-- What stands in the buffer is what was read: each read puts more after it.
use Rattle.std.proofs.Common.{◌≡◌, ℕ, ◌+◌, ◌-◌, ◌≤◌, List, ◌++◌, rules, arith, length, take, slice_range, sym, ap, ◌∙◌, subst, le_refl, drop_at, length-take-le, Option}
use Rattle.std.proofs.lemmas.Slice.{take-put_mid_below}
use Rattle.std.proofs.KnownBytes.{Consumes-trans}
use Rattle.std.specs.Io.KnownBytes.{Consumes}
use borrow.Rule.Slice.PartMut.{put_mid, post_of}
use lib.Seq.{take-add, take-append-le}
use Rattle.files.proofs.reading.fill.Goals as goal

take_split : (a b : ℕ) (old new : List ℕ) → a ≤ b → take a new ≡ take a old → take a old ++ slice_range new a b ≡ take b new
take_split a b old new h front =
    let same : a + (b - a) ≡ b = omega arith in
    ap (λ l. l ++ slice_range new a b) (sym front) ∙ sym (take-add a (b - a) new) ∙ ap (λ n. take n new) same

slice_range-put_mid : (a k n : ℕ) (xs ys : List ℕ) → a ≤ length xs → n ≤ length ys → slice_range (put_mid a k xs ys) a (a + n) ≡ take n ys
slice_range-put_mid a k n xs ys within fits =
    let same : (a + n) - a ≡ n = omega arith in
    let after = post_of a k xs in
    ap (take ((a + n) - a)) (drop_at (take a xs) (ys ++ after) a (length-take-le a xs within))
    ∙ ap (λ m. take m (ys ++ after)) same
    ∙ take-append-le n ys after fits

filled :
    (a b c : Option (List ℕ)) (n more k : ℕ) (out part : List ℕ) → Consumes a b (take n out)
    → Consumes b c (take more part) → n ≤ length out → more ≤ length part
    → Consumes a c (take (n + more) (put_mid n k out part))
filled a b c n more k out part before now within fits =
    let joined = take_split n (n + more) out (put_mid n k out part) (omega arith) (take-put_mid_below _ _ _ _ _ (le_refl _) within) in
    subst (Consumes a c) (ap (λ l. take n out ++ l) (sym (slice_range-put_mid n k more out part within fits)) ∙ joined)
    (Consumes-trans _ _ _ _ _ before now)

pub loop-n-preserved : goal.loop-n-preserved
loop-n-preserved g c = (
  search rules,
  search rules,
  search
      (filled _ _ _ _ _ (length c.loop-n.out - c.loop-n.n) _ _ c.loop-n.invariant.2 c.in-Ok.ensures.bytes.0
      c.loop-n.invariant.1 c.in-Ok.ensures.bound.0),
)
