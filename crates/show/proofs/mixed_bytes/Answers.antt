-- The byte at the index is the first of what is left; at the end nothing is left.
use Rattle.std.proofs.Common.{◌≡◌, ℕ, List, ◌<◌, ◌≤◌, ◌+◌, length, get_or, drop, sym, ap, ◌∙◌, rules}
use Rattle.std.proofs.lemmas.List.{drop_more, drop_all}
use Rattle.show.specs.Mixing.{mixed_with, mixed_from}
use Rattle.show.proofs.mixed_bytes.Goals as goal

module _ (values : List ℕ) (mix i : ℕ) (same : mixed_from mix (drop i values) ≡ mixed_from 0 values) where
  next :
      (x r : ℕ) → i < length values → x ≡ get_or values i 0 → r ≡ mixed_with mix x
      → mixed_from r (drop (i + 1) values) ≡ mixed_from 0 values
  unfolding mixed_from
  next x r h e f =
      ap (λ (n : ℕ). mixed_from n (drop (i + 1) values)) (f ∙ ap (mixed_with mix) e)
      ∙ sym (ap (mixed_from mix) (drop_more values i 0 h))
      ∙ same

  ends : length values ≤ i → mix ≡ mixed_from 0 values
  unfolding mixed_from
  ends h = sym (ap (mixed_from mix) (drop_all i values h)) ∙ same

pub loop-byte-preserved : goal.loop-byte-preserved
loop-byte-preserved c =
    let byte : c.wide.result ≡ get_or c.args.values.now c.loop-byte.byte-index 0 = search rules in (
      c.mixed-mix.ensures.bound,
      next _ _ _ c.loop-byte.invariant.1 _ _ c.loop-byte-test.true byte c.mixed-mix.ensures.answer,
    )

pub returns : goal.returns
returns c = record { answer = ends _ _ _ c.loop-byte.invariant.1 c.loop-byte-test.false }
