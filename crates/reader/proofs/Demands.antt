-- What reading promises besides its definition: each by the cases of what a file holds. Assumes nothing.
use mathlib.Core.Path.{◌≡◌, refl, sym, ap, ◌∙◌}
use mathlib.Core.Bool.{Bool, true, false, not, cond, ◌||◌}
use mathlib.Core.List.{List, []}
use Prim.Native.Nat.{ℕ}
use native.Mathlib.Omega.{arith}
use Rattle.units.specs.declared.Refusal.{Refusal}
use Rattle.riff.specs.declared.Directory.{Directory}
use Rattle.units.specs.Refusals.{verdict_number, Verdict}
use Rattle.units.specs.Checks.{number_by, number_or}
use Rattle.units.proofs.Checks.{number-row}
use Rattle.riff.specs.Chunks.{head_verdict, is_there, Spot, Walked}
use Rattle.riff.specs.Walk.{part_of, walk_of, after_head, walked_number, directory_of}
use Rattle.riff.specs.Demands.{walk_number}
use Rattle.riff.proofs.Numbers.{walk-row, head-row}
use Rattle.tables.specs.Cues.{no_cue}
use Rattle.tables.specs.Plays.{no_play}
use Rattle.tables.proofs.Entries.{all-zero, cues-zero, plays-zero}
use Rattle.titles.specs.Titles.{no_title}
use Rattle.titles.specs.Lists.{entries_in}
use Rattle.titles.proofs.Round.{none_in, titles-zero}
use Rattle.rules.specs.declared.Record.{Record}
use Rattle.rules.specs.Rules.{record_of, chunk_checks, blank, record_in, reading_verdict, Reading}
use Rattle.reader.specs.Content.{Content, refused, holds, content_by, sound_part, cue_part, playlist_part, titles_part, record_at, chunks_checks, checks_at, verdict_at, content_in, content_of, reading_of, sound_of, reading, sound_in, spot_by, sound_place, sound_spot, titles_place, titles_spot, titles_in}
use Rattle.reader.specs.Demands.{chunk_number, ReadNumbered, Tied, Placed, Refusing, ZeroAfter, ZeroPast}
use Rattle.std.specs.Prelude.{Err, None, Ok}

pub tied : Tied
unfolding Tied reading sound_in
tied s = by (content_of s)
  where
    by : (c : Content) → content_by (reading_verdict (reading_of c)) (record_in (reading_of c)) (sound_of c) ≡ c
    by (refused r) = refl
    by (holds m w) = refl

pub placed : Placed
unfolding Placed reading sound_in content_of sound_spot
placed s = by (directory_of s)
  where
    at : (d : Directory) (v : Verdict) (m : Record)
        → part_of s (spot_by sound_place (reading_verdict (reading_of (content_by v m (sound_part s d)))) (Ok d)) [] ≡ sound_of (content_by v m (sound_part s d))
    at d (Ok _) m = refl
    at d (Err r) m = refl

    by : (w : Walked) → part_of s (spot_by sound_place (reading_verdict (reading_of (content_in s w))) w) [] ≡ sound_of (content_in s w)
    by (Ok d) = at d (verdict_at s d) (record_at s d)
    by (Err r) = refl

-- in the words of the code
pub sound-placed : (s : List ℕ) {spot : Spot} {w : List ℕ} → spot ≡ sound_spot s → w ≡ part_of s spot [] → w ≡ sound_in s
unfolding Placed
sound-placed s f g = g ∙ ap (λ (x : Spot). part_of s x []) f ∙ placed s

-- ---- a file is refused, and nothing of it stands anywhere; or it has the record of its directory, and all stands where that says
module _ (s : List ℕ) (P : Reading → Spot → Spot → Type 0) (none : (r : Refusal) → P (Err r) None None)
    (some : (d : Directory) → directory_of s ≡ Ok d → verdict_at s d ≡ Ok tt
    → P (Ok (record_at s d)) d.sound d.titles) where
  pub by-file : P (reading s) (sound_spot s) (titles_spot s)
  unfolding reading content_of sound_spot titles_spot
  by-file = by (directory_of s) refl
    where
      at : (d : Directory) (v : Verdict) → directory_of s ≡ Ok d → verdict_at s d ≡ v
          → P (reading_of (content_by v (record_at s d) (sound_part s d)))
          (spot_by sound_place (reading_verdict (reading_of (content_by v (record_at s d) (sound_part s d)))) (Ok d))
          (spot_by titles_place (reading_verdict (reading_of (content_by v (record_at s d) (sound_part s d)))) (Ok d))
      at d (Ok _) e h = some d e h
      at d (Err r) e h = none r

      by : (w : Walked) → directory_of s ≡ w
          → P (reading_of (content_in s w)) (spot_by sound_place (reading_verdict (reading_of (content_in s w))) w)
          (spot_by titles_place (reading_verdict (reading_of (content_in s w))) w)
      by (Ok d) e = at d (verdict_at s d) e refl
      by (Err r) e = none r

pub refusing : Refusing
unfolding Refusing Placed titles_in
refusing s r e =
    let b =
    by-file s (λ x a t. (reading_verdict x) ≡ Err r → (record_in x ≡ blank) × (part_of s a [] ≡ []) × (part_of s t [] ≡ []))
    (λ q h. (refl, refl, refl))
    (λ d w v h. let z : ◌≡◌ {A = ℕ} 0 1 = cc in absurd (omega arith))
    e in
    record { made = b.0; sound = sym (placed s) ∙ b.1; titles = ap entries_in b.2 ∙ none_in }

pub zero-past : ZeroPast
unfolding ZeroPast record_of
zero-past s =
    by-file s (λ x a t. ZeroAfter (record_in x))
    (λ r. record { cues = λ i h. all-zero no_cue 64 i; plays = λ i h. all-zero no_play 64 i; titles = λ i h. all-zero no_title 128 i })
    (λ d w v.
    record {
      cues = λ i h. cues-zero (cue_part s d) i h;
      plays = λ i h. plays-zero (playlist_part s d) i h;
      titles = λ i h. titles-zero (titles_part s d) i h;
    })

-- ---- the number: each check is a row of the table
pub taken-verdict : (v : Verdict) (m : Record) (w : List ℕ) → reading_verdict (reading_of (content_by v m w)) ≡ v
taken-verdict (Ok _) m w = refl
taken-verdict (Err r) m w = refl

either-row : (a b : Bool) (k n : ℕ) → cond (not a) k (cond (not b) k n) ≡ cond (not a || not b) k n
either-row true b k n = refl
either-row false b k n = refl

chunk-rows : (s : List ℕ) (w : Walked) → walked_number w ≡ walk_number s → verdict_number (reading_verdict (reading_of (content_in s w))) ≡ chunk_number s w
unfolding checks_at chunks_checks chunk_checks number_by
chunk-rows s (Err r) e = e
chunk-rows s (Ok d) e =
    ap verdict_number (taken-verdict (verdict_at s d) (record_at s d) (sound_part s d))
    ∙ number-row (checks_at s d)
    ∙ either-row (is_there d.format) (is_there d.sound) 8 _

pub numbered : ReadNumbered
unfolding ReadNumbered reading content_of directory_of
numbered s =
    by (head_verdict s) (walk_of s)
    ∙ ap (number_or (head_verdict s)) (chunk-rows s (walk_of s) (walk-row s))
    ∙ head-row s (chunk_number s (walk_of s))
  where
    by : (v : Verdict) (w : Walked)
        → verdict_number (reading_verdict (reading_of (content_in s (after_head v w)))) ≡ number_or v (verdict_number (reading_verdict (reading_of (content_in s w))))
    by (Ok _) w = refl
    by (Err r) w = refl
