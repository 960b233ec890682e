-- The numbers of the walk: each test of a step is a row of the table, and the walk has the number of the first step that refuses.
-- Assumes nothing.
use mathlib.Core.Path.{◌≡◌, refl, ap, ◌∙◌}
use mathlib.Core.Bool.{Bool, true, false, not, cond}
use mathlib.Core.List.{List, [], ◌∷◌}
use Prim.Native.Nat.{ℕ, zero, suc}
use lib.Dec.{ltb}
use lib.ListN.{length}
use Rattle.units.specs.Refusals.{number_of, Verdict}
use Rattle.units.specs.Checks.{check, decided, number_or}
use Rattle.units.specs.declared.BytePlace.{BytePlace}
use Rattle.units.specs.declared.Refusal.{Refusal}
use Rattle.units.specs.declared.Refusal.TheVariants.{LengthOutOfRange, NotWave, RiffSizeWrong, ChunkPastTheEnd, SecondOfItsKind, DataBeforeFormat, WaveList}
use Rattle.riff.specs.declared.Directory.{Directory}
use Rattle.riff.specs.Chunks.{bad_length, no_wave, bad_size, head_verdict, kind_at, next_at, placed, passes, place_at, is_there, spot_of, keep, early, wave_list, checked, chunk_at, step_number, Step, Walked}
use Rattle.riff.specs.Walk.{nothing_yet, step_then, steps_from, steps_of, gather, walk_of, after_head, walked_number, directory_of}
use Rattle.riff.specs.Demands.{step_else, StepNumbered, number_from, walk_number, WalkNumbered}
use Rattle.std.specs.Prelude.{Err, Ok}

-- a number that is asked of a step, where a refusal gives its own
module _ (f : Step → ℕ) (own : (r : Refusal) → f (Err r) ≡ number_of r) where
  row : (b : Bool) (r : Refusal) (t : Step) {n : ℕ} → f t ≡ n → f (cond b (Err r) t) ≡ cond b (number_of r) n
  row true r t e = own r
  row false r t e = e

  step_row : (s : List ℕ) (at : BytePlace) (d : Directory) → f (chunk_at s at d) ≡ step_else s at.0 d (f (Ok (placed s at.0)))
  unfolding chunk_at place_at
  step_row s at d = by (passes s at.0)
    where
      by : (b : Bool)
          → f (checked s d (cond b (Err ChunkPastTheEnd) (Ok (placed s at.0))))
          ≡ cond b 4 (cond (is_there (spot_of d (kind_at s at.0))) 5 (cond (early d (kind_at s at.0)) 6
          (cond (wave_list s (placed s at.0) (kind_at s at.0)) 7 (f (Ok (placed s at.0))))))
      by true = own ChunkPastTheEnd
      by false =
          row (is_there (spot_of d (kind_at s at.0))) SecondOfItsKind _
          (row (early d (kind_at s at.0)) DataBeforeFormat _
          (row (wave_list s (placed s at.0) (kind_at s at.0)) WaveList (Ok (placed s at.0)) refl))

pub step-numbered : StepNumbered
unfolding StepNumbered
step-numbered = step_row step_number (λ r. refl)

leads : (s : List ℕ) (n : ℕ) (at : BytePlace) (d : Directory) → walked_number (gather d (steps_from n s at d)) ≡ number_from n s at.0 d
unfolding steps_from gather number_from
leads s zero at d = refl
leads s (suc n) at d = by (leads s n (record { 0 = next_at s at.0 }) (keep d (placed s at.0) (kind_at s at.0))) (ltb at.0 (length s))
  where
    by : walked_number (gather (keep d (placed s at.0) (kind_at s at.0)) (steps_from n s (record { 0 = next_at s at.0 }) (keep d (placed s at.0) (kind_at s at.0))))
        ≡ number_from n s (next_at s at.0) (keep d (placed s at.0) (kind_at s at.0))
        → (b : Bool)
        → walked_number (gather d (cond b (step_then (steps_from n s) d (chunk_at s at d)) []))
        ≡ cond b (step_else s at.0 d (number_from n s (next_at s at.0) (keep d (placed s at.0) (kind_at s at.0)))) 0
    by e true =
        step_row (λ t. walked_number (gather d (step_then (steps_from n s) d t))) (λ r. refl) s at d
        ∙ ap (step_else s at.0 d) e
    by e false = refl

pub walk-row : (s : List ℕ) → walked_number (walk_of s) ≡ walk_number s
unfolding walk_of steps_of walk_number
walk-row s = leads s (length s) (record { 0 = 12 }) nothing_yet

pub head-row : (s : List ℕ) (n : ℕ) → number_or (head_verdict s) n ≡ cond (bad_length s) 1 (cond (no_wave s) 2 (cond (bad_size s) 3 n))
unfolding head_verdict decided
head-row s n = by (bad_length s) (no_wave s) (bad_size s)
  where
    by : (a b c : Bool)
        → number_or (decided (check (not a) LengthOutOfRange ∷ check (not b) NotWave ∷ check (not c) RiffSizeWrong ∷ [])) n
        ≡ cond a 1 (cond b 2 (cond c 3 n))
    by true b c = refl
    by false true c = refl
    by false false true = refl
    by false false false = refl

pub walk-numbered : WalkNumbered
unfolding WalkNumbered directory_of
walk-numbered s = by (head_verdict s) (walk_of s) ∙ ap (number_or (head_verdict s)) (walk-row s) ∙ head-row s (walk_number s)
  where
    by : (v : Verdict) (w : Walked) → walked_number (after_head v w) ≡ number_or v (walked_number w)
    by (Ok _) w = refl
    by (Err r) w = refl
