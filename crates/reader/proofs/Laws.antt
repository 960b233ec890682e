-- Reading by a file's directory: the answer by what is there, and opening by what the walk ends with. Assumes nothing.
use mathlib.Core.Path.{◌≡◌, refl, sym, ap, ◌∙◌}
use mathlib.Core.Bool.{Bool, true, false}
use mathlib.Core.List.{List, []}
use Prim.Native.Nat.{ℕ, ◌≤◌, ◌<◌}
use native.Mathlib.Omega.{arith}
use lib.ListN.{length, length-take, length-drop}
use Rattle.std.specs.Prelude.{None, Some, Ok, Err}
use Rattle.units.specs.Refusals.{file_limit, Verdict}
use Rattle.units.specs.Checks.{decided}
use Rattle.units.specs.declared.Refusal.{Refusal}
use Rattle.units.specs.declared.Refusal.TheVariants.{FormatOrDataMissing}
use Rattle.riff.specs.declared.Directory.{Directory}
use Rattle.riff.specs.Chunks.{is_there, Spot, Walked}
use Rattle.riff.specs.Walk.{part_of, directory_of}
use Rattle.riff.proofs.Walking.{whole-limit}
use Rattle.rules.specs.declared.Record.{Record}
use Rattle.rules.specs.Rules.{reading_by, reading_verdict, Reading}
use Rattle.reader.specs.Content.{content_by, sound_part, record_at, judged_at, chunks_checks, checks_at, verdict_at, content_at, content_in, content_of, reading_of, reading, spot_by, sound_place, sound_spot, titles_place, titles_spot}

-- ---- a part fits
pub part-fits : (s : List ℕ) (spot : Spot) → length s ≤ file_limit → length (part_of s spot []) < 4294967296
part-fits s (Some p) h = simp (length-take, length-drop) (omega arith)
part-fits s None h = omega arith

-- ---- a directory's reading
as-judged : (v : Verdict) (m : Record) (w : List ℕ) → reading_of (content_by v m w) ≡ reading_by v m
as-judged (Ok _) m w = refl
as-judged (Err r) m w = refl

module _ (s : List ℕ) (d : Directory) where
  by-verdict : {v : Verdict} → verdict_at s d ≡ v → reading_of (content_at s d) ≡ reading_by v (record_at s d)
  by-verdict e = as-judged (verdict_at s d) (record_at s d) (sound_part s d) ∙ ap (λ (u : Verdict). reading_by u (record_at s d)) e

  pub no-format : is_there d.format ≡ false → reading_of (content_at s d) ≡ Err FormatOrDataMissing
  unfolding checks_at decided
  no-format e = by-verdict {v = Err FormatOrDataMissing} (simp e)

  pub no-sound : is_there d.format ≡ true → is_there d.sound ≡ false → reading_of (content_at s d) ≡ Err FormatOrDataMissing
  unfolding checks_at decided
  no-sound e f = by-verdict {v = Err FormatOrDataMissing} (simp (e, f))

  pub both-there : is_there d.format ≡ true → is_there d.sound ≡ true → reading_of (content_at s d) ≡ judged_at s d
  unfolding checks_at decided judged_at
  both-there e f = by-verdict {v = decided (chunks_checks s d)} (simp (e, f))

pub ruleset chunks = (part-fits, no-format, no-sound, both-there)

-- ---- opening: by what the walk ends with, and by what reading answers
module _ (s : List ℕ) where
  pub read-stopped : {r : Refusal} → directory_of s ≡ Err r → reading s ≡ Err r
  unfolding reading content_of
  read-stopped e = ap (λ (w : Walked). reading_of (content_in s w)) e

  pub read_whole : {d : Directory} → directory_of s ≡ Ok d → reading s ≡ reading_of (content_at s d)
  unfolding reading content_of
  read_whole e = ap (λ (w : Walked). reading_of (content_in s w)) e

  module _ {r : Refusal} (f : reading s ≡ Err r) where
    pub sound-refused : sound_spot s ≡ None
    unfolding sound_spot
    sound-refused = ap (λ (x : Reading). spot_by sound_place (reading_verdict x) (directory_of s)) f

    pub titles-refused : titles_spot s ≡ None
    unfolding titles_spot
    titles-refused = ap (λ (x : Reading). spot_by titles_place (reading_verdict x) (directory_of s)) f

  module _ {d : Directory} {m : Record} (e : directory_of s ≡ Ok d) (f : reading s ≡ Ok m) where
    pub sound-taken : sound_spot s ≡ d.sound
    unfolding sound_spot
    sound-taken = λ i. spot_by sound_place (reading_verdict (f i)) (e i)

    pub titles-taken : titles_spot s ≡ d.titles
    unfolding titles_spot
    titles-taken = λ i. spot_by titles_place (reading_verdict (f i)) (e i)

pub ruleset opens_by = (whole-limit, read-stopped, read_whole, sound-refused, titles-refused, sound-taken, titles-taken)
