-- The cases of a file's header, in the order of the code's tests. Assumes nothing.
use mathlib.Core.Path.{◌≡◌, sym, ◌∙◌}
use mathlib.Core.Bool.{Bool, true, false}
use mathlib.Core.List.{List}
use Prim.Native.Nat.{ℕ, ◌+◌, ◌≤◌, ◌<◌}
use lib.ListN.{length}
use borrow.Author.Tests.{not-true, not-false}
use Rattle.units.specs.Refusals.{file_limit}
use Rattle.units.specs.Checks.{decided}
use Rattle.little.specs.Numbers.{number_at}
use Rattle.little.proofs.Tests.{tests}
use Rattle.codes.specs.Codes.{is_at}
use Rattle.codes.specs.declared.Code.TheVariants as code
use Rattle.units.specs.declared.Refusal.TheVariants.{LengthOutOfRange, NotWave, RiffSizeWrong}
use Rattle.riff.specs.Chunks.{head_verdict}
use Rattle.std.specs.Prelude.{Err, Ok}

module _ (s : List ℕ) where
  pub head-short : length s < 12 → Err LengthOutOfRange ≡ head_verdict s
  unfolding head_verdict decided
  head-short h = simp tests

  module _ (h : 12 ≤ length s) where
    pub head-long : file_limit < length s → Err LengthOutOfRange ≡ head_verdict s
    unfolding head_verdict decided
    head-long g = simp tests

    module _ (g : length s ≤ file_limit) {a : Bool} (e : a ≡ is_at s 0 code.Riff) where
      module _ (t : a ≡ true) {b : Bool} (f : b ≡ is_at s 8 code.Wave) where
        module _ (u : b ≡ true) {n : ℕ} (v : n ≡ number_at 4 s 4) where
          pub head-right : 8 + n ≡ length s → Ok tt ≡ head_verdict s
          unfolding head_verdict decided
          head-right l = simp (tests, sym e ∙ t, sym f ∙ u, ← v)
