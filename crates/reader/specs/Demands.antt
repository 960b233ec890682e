-- What reading promises besides its definition, for every file. `proofs/Demands.antt` proves each. Assumes nothing.
use Rattle.std.specs.Prelude.{ℕ, ◌≤◌, ◌≡◌, not, cond, ◌||◌, List, [], ◌++◌, leb, length, get_or, Err, Ok}
use Rattle.units.specs.declared.Refusal.{Refusal}
use Rattle.units.specs.Refusals.{verdict_number}
use Rattle.units.specs.Checks.{number_or}
use Rattle.riff.specs.Chunks.{bad_length, no_wave, bad_size, is_there, Walked}
use Rattle.riff.specs.Walk.{walk_of, part_of}
use Rattle.riff.specs.Demands.{walk_number}
use Rattle.formats.specs.Frames.{whole_blocks}
use Rattle.tables.specs.Cues.{no_cue}
use Rattle.tables.specs.Plays.{no_play}
use Rattle.titles.specs.Titles.{entries_of, no_title}
use Rattle.rules.specs.declared.Record.{Record}
use Rattle.rules.specs.Rules.{format_valid, fact_valid, cues_valid, plays_valid, blank, record_in, reading_verdict}
use Rattle.reader.specs.Content.{format_part, sound_size, fact_part, cue_part, playlist_part, record_at, titles_valid, content_by, content_of}
use Rattle.reader.specs.Content.{reading, reading_in, sound_spot, sound_in, titles_in, texts_in}

-- ---- the number that a file gets, in the order of checks and the numbers of document 01; 0 is taken

-- 4 to 7 in the walk, chunk by chunk; then 8 to 13 by number, and 21
abbrev pub chunk_number : List ℕ → Walked → ℕ
chunk_number s (Err r) = walk_number s
chunk_number s (Ok d) =
    cond (not (is_there d.format) || not (is_there d.sound)) 8
    (cond (not (format_valid (format_part s d) (record_at s d).format)) 9
    (cond (not (whole_blocks (record_at s d).format (sound_size s d))) 10
    (cond (not (fact_valid (fact_part s d) (record_at s d).format (sound_size s d) (record_at s d).frames)) 11
    (cond (not (cues_valid (cue_part s d) (record_at s d).cues (record_at s d).frames)) 12
    (cond (not (plays_valid (playlist_part s d) (record_at s d).playlist (record_at s d).cues (record_at s d).frames)) 13
    (cond (not (titles_valid s d)) 21
    0))))))

-- 1, 2, 3; then the walk
abbrev pub number_given : List ℕ → ℕ
number_given s = cond (bad_length s) 1 (cond (no_wave s) 2 (cond (bad_size s) 3 (chunk_number s (walk_of s))))

unfoldable pub ReadNumbered : Type 0
ReadNumbered = (s : List ℕ) → verdict_number (reading_verdict (reading s)) ≡ number_given s

-- and then 14, where there is not room for so many bytes of texts
abbrev pub number_within : List ℕ → ℕ → ℕ
number_within s room = number_or (reading_verdict (reading s)) (cond (not (leb (length (texts_in s)) room)) 14 0)

unfoldable pub RoomNumbered : Type 0
RoomNumbered = (s : List ℕ) (room : ℕ) → verdict_number (reading_verdict (reading_in s room)) ≡ number_within s room

-- ---- what it answers

-- the answers together are what the file holds
unfoldable pub Tied : Type 0
Tied = (s : List ℕ) → content_by (reading_verdict (reading s)) (record_in (reading s)) (sound_in s) ≡ content_of s

-- the sound is the part of the file that stands where it is said to
unfoldable pub Placed : Type 0
Placed = (s : List ℕ) → part_of s (sound_spot s) [] ≡ sound_in s

-- a refused file has no record, no sound and no titles
pub record ReadsNothing (s : List ℕ) : Type 0 where
  pub made : record_in (reading s) ≡ blank
  pub sound : sound_in s ≡ []
  pub titles : titles_in s ≡ []

unfoldable pub Refusing : Type 0
Refusing = (s : List ℕ) (r : Refusal) → reading_verdict (reading s) ≡ Err r → ReadsNothing s

-- past its counts a record reads as zero
pub record ZeroAfter (m : Record) : Type 0 where
  pub cues : (i : ℕ) → m.cues.count ≤ i → get_or m.cues.list i no_cue ≡ no_cue
  pub plays : (i : ℕ) → m.playlist.count ≤ i → get_or m.playlist.list i no_play ≡ no_play
  pub titles : (i : ℕ) → m.titles.count ≤ i → get_or m.titles.list i no_title ≡ no_title

unfoldable pub ZeroPast : Type 0
ZeroPast = (s : List ℕ) → ZeroAfter (record_in (reading s))

-- ---- no file needs more than 32,768 bytes for its texts: 128 of 256
unfoldable pub TextsMost : Type 0
TextsMost = (s : List ℕ) → length (texts_in s) ≤ 32768

-- ---- the titles of a record, with their texts in a buffer that has those of the file from its start, are the titles of its list
unfoldable pub TitlesTold : Type 0
TitlesTold = (s rest : List ℕ) → entries_of (texts_in s ++ rest) (record_in (reading s)).titles ≡ titles_in s
