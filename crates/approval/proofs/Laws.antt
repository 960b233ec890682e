-- The record of an approval copy, in the words of the code. Assumes nothing.
use mathlib.Core.Path.{◌≡◌, ap, ◌∙◌}
use Prim.Native.Nat.{ℕ}
use Rattle.units.specs.declared.Frames.{Frames}
use Rattle.formats.specs.declared.Format.{Format}
use Rattle.formats.specs.Format.{ima_format}
use Rattle.rules.specs.declared.Record.{Record}
use Rattle.rules.specs.Rules.{bare}
use Rattle.approval.specs.Approval.{approval_record}

pub record-made : (c rate a : ℕ) (frames : Frames) {m : Format} {r : Record} → m ≡ ima_format c rate a → r ≡ bare m frames
    → r ≡ approval_record c rate a frames
unfolding approval_record
record-made c rate a frames e f = f ∙ ap (λ (m : Format). bare m frames) e
