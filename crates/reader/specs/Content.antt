-- What a file holds: a record, the texts of its titles and its sound, or the refusal. Assumes nothing.
use Rattle.std.specs.Prelude.{ℕ, Bool, not, cond, ◌&&◌, List, [], ◌∷◌, ◌++◌, leb, length, Option, None, Result, Ok, Err}
use Rattle.units.specs.declared.BytePlace.{BytePlace}
use Rattle.units.specs.declared.Refusal.{Refusal}
use Rattle.units.specs.declared.Refusal.TheVariants.{FormatOrDataMissing, OutputTooSmall, TitlesWrong}
use Rattle.units.specs.Checks.{Check, check, decided}
use Rattle.riff.specs.declared.Directory.{Directory}
use Rattle.riff.specs.Chunks.{is_there, pad_lost, Spot, Walked}
use Rattle.riff.specs.Walk.{part_of, start_of, directory_of}
use Rattle.formats.specs.declared.Format.{Format}
use Rattle.formats.specs.Format.{format_of}
use Rattle.formats.specs.Frames.{needs_fact}
use Rattle.tables.specs.Cues.{names_in}
use Rattle.titles.specs.Titles.{Entry, texts_of}
use Rattle.titles.specs.Lists.{entries_in, list_valid, titles_of}
use Rattle.rules.specs.declared.Record.{Record}
use Rattle.reader.specs.declared.Opened.{Opened}
use Rattle.rules.specs.Rules.{ChunkBytes, record_of, with_titles, chunk_checks, reading_by, record_in, reading_verdict, Reading}
use Rattle.units.specs.Refusals.{Verdict}

-- ---- the bytes of each chunk

-- an absent table is read as a count of 0; an absent fact as nothing, which is too short, and where none is needed as zeros
abbrev pub zeros : List ℕ
zeros = 0 ∷ 0 ∷ 0 ∷ 0 ∷ []

abbrev pub format_part : List ℕ → Directory → List ℕ
format_part s d = part_of s d.format []

abbrev pub sound_part : List ℕ → Directory → List ℕ
sound_part s d = part_of s d.sound []

abbrev pub sound_size : List ℕ → Directory → BytePlace
sound_size s d = record { 0 = length (sound_part s d) }

abbrev pub fact_part : List ℕ → Directory → List ℕ
fact_part s d = part_of s d.fact (cond (needs_fact (format_of (format_part s d))) [] zeros)

abbrev pub cue_part : List ℕ → Directory → List ℕ
cue_part s d = part_of s d.cues zeros

abbrev pub playlist_part : List ℕ → Directory → List ℕ
playlist_part s d = part_of s d.plays zeros

-- the list of titles; an absent one is read as a list of nothing
abbrev pub titles_part : List ℕ → Directory → List ℕ
titles_part s d = part_of s d.titles []

-- what is judged of them
abbrev pub chunks_at : List ℕ → Directory → ChunkBytes
chunks_at s d =
    record { format = format_part s d; sound = sound_size s d; fact = fact_part s d; cues = cue_part s d; plays = playlist_part s d }

-- ---- what a file holds

pub data Content : Type 0 where
  refused : Refusal → Content
  holds : Record → List ℕ → Content

-- a record and its sound where the verdict takes them
abbrev pub content_by : Verdict → Record → List ℕ → Content
content_by (Ok _) m w = holds m w
content_by (Err r) m w = refused r

-- what the chunks say
abbrev pub record_at : List ℕ → Directory → Record
record_at s d = with_titles (record_of (chunks_at s d)) (titles_of (titles_part s d))

-- "at most one `adtl` list", and that one valid; its last pad may be lost where its own is
abbrev pub titles_valid : List ℕ → Directory → Bool
titles_valid s d = not d.second && list_valid (pad_lost d.titles) (titles_part s d) (names_in (record_at s d).cues)

-- 9 to 13; then 21
unfoldable pub chunks_checks : List ℕ → Directory → List Check
chunks_checks s d = chunk_checks (chunks_at s d) (record_at s d) ++ (check (titles_valid s d) TitlesWrong ∷ [])

-- what functions of the code answer: a record with the titles of a list; and what chunks say that are there
unfoldable pub titled : Record → Bool → List ℕ → Reading
titled m lost l =
    cond (list_valid lost l (names_in m.cues)) (Ok (with_titles m (titles_of l))) (Err TitlesWrong)

unfoldable pub judged_at : List ℕ → Directory → Reading
judged_at s d = reading_by (decided (chunks_checks s d)) (record_at s d)

-- 8: no `fmt ` or no `data`; then those
unfoldable pub checks_at : List ℕ → Directory → List Check
checks_at s d =
    check (is_there d.format) FormatOrDataMissing
    ∷ check (is_there d.sound) FormatOrDataMissing
    ∷ chunks_checks s d

abbrev pub verdict_at : List ℕ → Directory → Verdict
verdict_at s d = decided (checks_at s d)

abbrev pub content_at : List ℕ → Directory → Content
content_at s d = content_by (verdict_at s d) (record_at s d) (sound_part s d)

-- 1 to 7, then 8 to 13 and 21
abbrev pub content_in : List ℕ → Walked → Content
content_in s (Ok d) = content_at s d
content_in s (Err r) = refused r

unfoldable pub content_of : List ℕ → Content
content_of s = content_in s (directory_of s)

-- ---- what the operations tell of it

abbrev pub reading_of : Content → Reading
reading_of (refused r) = Err r
reading_of (holds m w) = Ok m

abbrev pub sound_of : Content → List ℕ
sound_of (refused r) = []
sound_of (holds m w) = w

unfoldable pub reading : List ℕ → Reading
reading s = reading_of (content_of s)

unfoldable pub sound_in : List ℕ → List ℕ
sound_in s = sound_of (content_of s)

-- the format of a file, and how many frames it has
abbrev pub file_format : List ℕ → Format
file_format s = (record_in (reading s)).format

abbrev pub file_frames : List ℕ → ℕ
file_frames s = (record_in (reading s)).frames.0

-- where a chunk stands, where the file is accepted
abbrev pub spot_by : (Directory → Spot) → Verdict → Walked → Spot
spot_by which (Ok _) (Ok d) = which d
spot_by which (Ok _) (Err r) = None
spot_by which (Err r) w = None

-- the sound: at the data of `data`
abbrev pub sound_place : Directory → Spot
sound_place d = d.sound

unfoldable pub sound_spot : List ℕ → Spot
sound_spot s = spot_by sound_place (reading_verdict (reading s)) (directory_of s)

-- where in the file it starts; the empty sound of a refused file stands at the file's start
unfoldable pub sound_start : List ℕ → ℕ
sound_start s = start_of (sound_spot s)

-- ---- its titles, where their list stands, and their texts with their zeros, in file order

abbrev pub titles_place : Directory → Spot
titles_place d = d.titles

unfoldable pub titles_spot : List ℕ → Spot
titles_spot s = spot_by titles_place (reading_verdict (reading s)) (directory_of s)

unfoldable pub titles_in : List ℕ → List Entry
titles_in s = entries_in (part_of s (titles_spot s) [])

abbrev pub texts_in : List ℕ → List ℕ
texts_in s = texts_of (titles_in s)

-- what opening a file tells: what reading does, and where its sound and its list of titles stand; of a refused file, nowhere
abbrev pub opened_reading : Result Opened Refusal → Reading
opened_reading (Ok o) = Ok o.made
opened_reading (Err r) = Err r

abbrev pub opened_sound : Result Opened Refusal → Spot
opened_sound (Ok o) = o.sound
opened_sound (Err r) = None

abbrev pub opened_titles : Result Opened Refusal → Spot
opened_titles (Ok o) = o.titles
opened_titles (Err r) = None

-- reading with room for so many bytes of texts: 14, after all others, where there is less than they need
unfoldable pub reading_in : List ℕ → ℕ → Reading
reading_in s room = cond (leb (length (texts_in s)) room) (reading s) (Err OutputTooSmall)
