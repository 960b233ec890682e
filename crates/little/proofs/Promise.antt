-- A promise that gives the answer and, by its verdict, the content of the lent buffer leaves one of each. Assumes nothing.
use mathlib.Core.Path.{◌≡◌, sym, ap, ◌∙◌}
use mathlib.Core.List.{List}
use Rattle.little.specs.Writing.{holding}
use Rattle.units.specs.Refusals.{Verdict}

pub one_each : {R A : Type 0} (told : R → Verdict) (made old : List A) {x r r' : R} {e e' : List A} → r ≡ x → r' ≡ x
    → e ≡ holding (told r) made old → e' ≡ holding (told r') made old → (r ≡ r') × (e ≡ e')
one_each {R} told made old f g h k =
    let same = f ∙ sym g in
    (same, h ∙ ap (λ (y : R). holding (told y) made old) same ∙ sym k)
