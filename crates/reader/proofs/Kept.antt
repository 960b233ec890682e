-- What a file that is taken keeps, by the verdict on its chunks; and what a file holds, in the words of callers. Assumes nothing.
use mathlib.Core.Path.{◌≡◌, refl, sym, ap, ◌∙◌, subst}
use mathlib.Core.Bool.{Bool, true, not}
use mathlib.Core.List.{List}
use Prim.Native.Nat.{ℕ}
use lib.ListN.{length}
use Rattle.lists.proofs.Laws.{and_both}
use Rattle.units.specs.declared.Refusal.{Refusal}
use Rattle.units.specs.Checks.{AllMet}
use Rattle.units.proofs.Checks.{all-met}
use Rattle.riff.specs.declared.Directory.{Directory}
use Rattle.riff.specs.Chunks.{is_there, pad_lost, Walked}
use Rattle.riff.specs.Walk.{directory_of}
use Rattle.formats.specs.Format.{format_form}
use Rattle.formats.specs.Frames.{fact_form, Sounding}
use Rattle.tables.specs.Cues.{names_in, cues_form}
use Rattle.tables.specs.Plays.{plays_form}
use Rattle.titles.specs.Lists.{list_valid}
use Rattle.rules.specs.declared.Record.{Record}
use Rattle.rules.specs.Rules.{valid, chunk_checks, Writable, record_in, reading_verdict, Reading}
use Rattle.reader.specs.Content.{Content, refused, holds, content_by, format_part, sound_part, sound_size, fact_part, cue_part, playlist_part, titles_part, record_at, titles_valid, chunks_checks, checks_at, verdict_at, content_in, content_of, reading, sound_in}
use Rattle.reader.specs.Demands.{Tied}
use Rattle.reader.proofs.Demands.{tied}
use Rattle.units.specs.Refusals.{Verdict}
use Rattle.std.specs.Prelude.{Err, Ok}

both : {a b : Bool} → valid a b ≡ true → (a ≡ true) × (b ≡ true)
unfolding valid
both {a} {b} e = and_both a b e

-- ---- a file that is taken: where its chunks stand, and what they say
pub record Held (s : List ℕ) (m : Record) (w : List ℕ) : Type 0 where
  pub places : Directory
  pub walked : directory_of s ≡ Ok places
  pub format_there : is_there places.format ≡ true
  pub sound_there : is_there places.sound ≡ true
  pub verdict : verdict_at s places ≡ Ok tt
  pub made : record_at s places ≡ m
  pub sound : sound_part s places ≡ w

abbrev HeldIn : List ℕ → Content → Type 0
HeldIn s (refused r) = Unit {0}
HeldIn s (holds m w) = Held s m w

held_in : (s : List ℕ) → HeldIn s (content_of s)
unfolding content_of checks_at AllMet
held_in s = by (directory_of s) refl
  where
    at : (d : Directory) (v : Verdict) → directory_of s ≡ Ok d → verdict_at s d ≡ v → HeldIn s (content_by v (record_at s d) (sound_part s d))
    at d (Ok _) e h =
        let a = all-met (checks_at s d) h in
        record { places = d; walked = e; format_there = a.0; sound_there = a.1.0; verdict = h; made = refl; sound = refl }
    at d (Err r) e h = tt

    by : (w : Walked) → directory_of s ≡ w → HeldIn s (content_in s w)
    by (Ok d) e = at d (verdict_at s d) e refl
    by (Err r) e = tt

pub held : (s : List ℕ) {m : Record} {w : List ℕ} → holds m w ≡ content_of s → Held s m w
held s e = subst (HeldIn s) (sym e) (held_in s)

-- each chunk has its form, and what it says keeps its rule
pub record Formed (s : List ℕ) (d : Directory) : Type 0 where
  pub format : format_form (format_part s d) ≡ true
  pub fact : fact_form (fact_part s d) ≡ true
  pub cues : cues_form (cue_part s d) ≡ true
  pub plays : plays_form (playlist_part s d) ≡ true
  pub rules : Writable (record_at s d) (sound_size s d)
  pub titles : titles_valid s d ≡ true

pub formed : (s : List ℕ) (d : Directory) → verdict_at s d ≡ Ok tt → Formed s d
unfolding checks_at chunks_checks chunk_checks AllMet
formed s d e =
    let a = (all-met (checks_at s d) e).1.1 in
    let f = both a.0 in
    let g = both a.1.1.0 in
    let c = both a.1.1.1.0 in
    let p = both a.1.1.1.1.0 in
    record {
      format = f.0;
      fact = g.0;
      cues = c.0;
      plays = p.0;
      rules = record { format = f.1; whole = a.1.0; count = g.1; cues = c.1; plays = p.1 };
      titles = a.1.1.1.1.1.0;
    }

-- the list of titles is valid, and the only one
pub titles-valid : (s : List ℕ) (d : Directory) → Formed s d → list_valid (pad_lost d.titles) (titles_part s d) (names_in (record_at s d).cues) ≡ true
titles-valid s d f = (and_both (not d.second) (list_valid (pad_lost d.titles) (titles_part s d) (names_in (record_at s d).cues)) f.titles).1

-- ---- in the words of callers
module _ (s : List ℕ) {x : Reading} (e : x ≡ reading s) where
  told : {v : Verdict} → reading_verdict x ≡ v → content_by v (record_in x) (sound_in s) ≡ content_of s
  unfolding Tied
  told {v} h =
      ap (λ (u : Verdict). content_by u (record_in x) (sound_in s)) (sym h)
      ∙ ap (λ (y : Reading). content_by (reading_verdict y) (record_in y) (sound_in s)) e
      ∙ tied s

  pub content-refused : {r : Refusal} → reading_verdict x ≡ Err r → refused r ≡ content_of s
  content-refused h = told h

  pub content-taken : {w : List ℕ} → reading_verdict x ≡ Ok tt → w ≡ sound_in s → holds (record_in x) w ≡ content_of s
  content-taken h g = ap (holds (record_in x)) g ∙ told h

-- what a file holds keeps the rules
pub content-rules : (s : List ℕ) {m : Record} {w : List ℕ} → holds m w ≡ content_of s → Writable m (record { 0 = length w })
content-rules s {m} {w} e =
    let h = held s e in
    subst (λ (v : List ℕ). Writable m (record { 0 = length v })) h.sound
    (subst (λ (x : Record). Writable x (sound_size s h.places)) h.made (formed s h.places h.verdict).rules)

pub content-kept : (s : List ℕ) {m : Record} {w : List ℕ} → holds m w ≡ content_of s → Sounding m.format m.frames w
content-kept s e = let k = content-rules s e in record { rule = k.format; whole = k.whole; count = k.count }
