-- The record that a file's chunks make, and the verdict on them. Assumes nothing.
use Rattle.std.specs.Prelude.{ℕ, ◌≡◌, Bool, true, ◌&&◌, List, [], ◌∷◌, Result, Ok, Err}
use Rattle.units.specs.declared.BytePlace.{BytePlace}
use Rattle.units.specs.declared.Frames.{Frames}
use Rattle.units.specs.declared.Refusal.{Refusal}
use Rattle.units.specs.declared.Refusal.TheVariants.{FormatWrong, NotWholeFrames, FactWrong, CuesWrong, PlaylistWrong}
use Rattle.units.specs.Checks.{Check, check, decided}
use Rattle.formats.specs.declared.Format.{Format}
use Rattle.formats.specs.Format.{format_of, format_form, format_rule}
use Rattle.formats.specs.Frames.{whole_blocks, frames_of, fact_form, frames_rule}
use Rattle.tables.specs.declared.Cues.{Cues}
use Rattle.tables.specs.declared.Playlist.{Playlist}
use Rattle.tables.specs.Cues.{no_cues, cues_of, cues_form, cues_rule}
use Rattle.tables.specs.Plays.{no_plays, plays_of, plays_form, plays_rule}
use Rattle.titles.specs.declared.Titles.{Titles}
use Rattle.titles.specs.Titles.{no_titles}
use Rattle.rules.specs.declared.Record.{Record}
use Rattle.units.specs.Refusals.{Verdict}

-- what is judged of a file's chunks: the bytes of each, and of the sound data how many there are
pub record ChunkBytes : Type 0 where
  pub format : List ℕ
  pub sound : BytePlace
  pub fact : List ℕ
  pub cues : List ℕ
  pub plays : List ℕ

-- what the chunks say; the list of titles is judged elsewhere
unfoldable pub record_of : ChunkBytes → Record
record_of b =
    record {
      format = format_of b.format;
      frames = frames_of (format_of b.format) b.sound b.fact;
      cues = cues_of b.cues;
      playlist = plays_of b.plays;
      titles = no_titles;
    }

-- a chunk has its form, and what it says keeps its rule
unfoldable pub valid : Bool → Bool → Bool
valid form rule = form && rule

abbrev pub format_valid : List ℕ → Format → Bool
format_valid fmt f = valid (format_form fmt) (format_rule f)

abbrev pub fact_valid : List ℕ → Format → BytePlace → Frames → Bool
fact_valid fact f n frames = valid (fact_form fact) (frames_rule f n frames)

abbrev pub cues_valid : List ℕ → Cues → Frames → Bool
cues_valid cue c frames = valid (cues_form cue) (cues_rule c frames)

abbrev pub plays_valid : List ℕ → Playlist → Cues → Frames → Bool
plays_valid plst p c frames = valid (plays_form plst) (plays_rule p c frames)

-- 9 to 13 by number, of the chunks of a file, whose record they make
unfoldable pub chunk_checks : ChunkBytes → Record → List Check
chunk_checks b m =
    check (format_valid b.format m.format) FormatWrong
    ∷ check (whole_blocks m.format b.sound) NotWholeFrames
    ∷ check (fact_valid b.fact m.format b.sound m.frames) FactWrong
    ∷ check (cues_valid b.cues m.cues m.frames) CuesWrong
    ∷ check (plays_valid b.plays m.playlist m.cues m.frames) PlaylistWrong
    ∷ []

abbrev pub verdict_of : ChunkBytes → Record → Verdict
verdict_of b m = decided (chunk_checks b m)

-- of a record to be written with n bytes of sound: the rules alone, as the writer gives each chunk its form
unfoldable pub record_checks : Record → BytePlace → List Check
record_checks m n =
    check (format_rule m.format) FormatWrong
    ∷ check (whole_blocks m.format n) NotWholeFrames
    ∷ check (frames_rule m.format n m.frames) FactWrong
    ∷ check (cues_rule m.cues m.frames) CuesWrong
    ∷ check (plays_rule m.playlist m.cues m.frames) PlaylistWrong
    ∷ []

abbrev pub record_verdict : Record → BytePlace → Verdict
record_verdict m n = decided (record_checks m n)

-- a record that keeps all the rules
pub record Writable (m : Record) (n : BytePlace) : Type 0 where
  pub format : format_rule m.format ≡ true
  pub whole : whole_blocks m.format n ≡ true
  pub count : frames_rule m.format n m.frames ≡ true
  pub cues : cues_rule m.cues m.frames ≡ true
  pub plays : plays_rule m.playlist m.cues m.frames ≡ true

-- a record without cues, playlist and titles
abbrev pub bare : Format → Frames → Record
bare f frames = record { format = f; frames = frames; cues = no_cues; playlist = no_plays; titles = no_titles }

-- the same record with other titles
abbrev pub with_titles : Record → Titles → Record
with_titles m t = record { format = m.format; frames = m.frames; cues = m.cues; playlist = m.playlist; titles = t }

-- the record that is all zero
abbrev pub blank : Record
blank = bare (record { tag = 0; channels = 0; rate = 0; bits = 0; align = 0; samples = 0 }) (record { 0 = 0 })

-- what reading answers: a record that is taken, or the refusal
abbrev pub Reading : Type 0
Reading = Result Record Refusal

-- the verdict that an answer tells, and the record; a refusal tells of none, and then it is all zero
abbrev pub reading_verdict : Reading → Verdict
reading_verdict (Ok m) = Ok tt
reading_verdict (Err r) = Err r

abbrev pub record_in : Reading → Record
record_in (Ok m) = m
record_in (Err r) = blank

-- a record that a verdict takes
abbrev pub reading_by : Verdict → Record → Reading
reading_by (Ok _) m = Ok m
reading_by (Err r) m = Err r

unfoldable pub judged : ChunkBytes → Reading
judged b = reading_by (verdict_of b (record_of b)) (record_of b)
