-- The file of a record, the texts of its titles and its sound, the verdict on writing it, and the answer. Assumes nothing.
use Rattle.std.specs.Prelude.{ℕ, ◌-◌, Bool, List, [], ◌∷◌, ◌++◌, leb, length, Result, Ok, Err}
use Rattle.units.specs.declared.BytePlace.{BytePlace}
use Rattle.units.specs.declared.Frames.{Frames}
use Rattle.units.specs.declared.Refusal.{Refusal}
use Rattle.units.specs.declared.Refusal.TheVariants.{LengthOutOfRange, OutputTooSmall, TitlesWrong}
use Rattle.units.specs.Refusals.{file_limit, verdict_number, Verdict}
use Rattle.units.specs.Checks.{Check, check, decided}
use Rattle.codes.specs.declared.Code.TheVariants as code
use Rattle.riff.specs.Laying.{Part, Parts, piece, piece_bytes, part_bytes, riff_bytes, pieces_of, file_bytes}
use Rattle.formats.specs.declared.Format.{Format}
use Rattle.formats.specs.Frames.{needs_fact}
use Rattle.formats.specs.Bytes.{format_bytes, fact_bytes}
use Rattle.tables.specs.declared.Cues.{Cues}
use Rattle.tables.specs.declared.Playlist.{Playlist}
use Rattle.tables.specs.Bytes.{cues_bytes, plays_bytes}
use Rattle.tables.specs.Cues.{names_in}
use Rattle.titles.specs.declared.Titles.{Titles}
use Rattle.titles.specs.Titles.{entries_of}
use Rattle.titles.specs.Writing.{list_bytes, titles_right}
use Rattle.rules.specs.declared.Record.{Record}
use Rattle.rules.specs.Rules.{record_checks}

-- ---- the file

-- `fact` for ADPCM
abbrev pub fact_chunk : Format → Frames → Part
fact_chunk f frames = record { there = needs_fact f; bytes = fact_bytes frames }

-- `cue ` if c > 0
abbrev pub cues_chunk : Cues → Part
cues_chunk c = record { there = leb 1 c.count; bytes = cues_bytes c }

-- `plst` if s > 0
abbrev pub plays_chunk : Playlist → Part
plays_chunk p = record { there = leb 1 p.count; bytes = plays_bytes p }

-- `LIST` with the titles, if there are any; their texts stand in b
abbrev pub titles_chunk : List ℕ → Titles → Part
titles_chunk b t = record { there = leb 1 t.count; bytes = list_bytes (entries_of b t) }

unfoldable pub parts_of : Record → List ℕ → List ℕ → Parts
parts_of m b w =
    record {
      format = format_bytes m.format;
      fact = fact_chunk m.format m.frames;
      cues = cues_chunk m.cues;
      plays = plays_chunk m.playlist;
      titles = titles_chunk b m.titles;
      sound = w;
    }

-- of a record m, the texts b of its titles, and its sound w
unfoldable pub file_of : Record → List ℕ → List ℕ → List ℕ
file_of m b w = file_bytes (pieces_of (parts_of m b w))

-- what functions of the code put of it: of a file of so many bytes those up to the tables, and the tables
unfoldable pub until_tables : ℕ → Format → Frames → List ℕ
until_tables size f frames =
    riff_bytes (size - 8) ++ (piece_bytes (piece code.Format (format_bytes f)) ++ part_bytes code.Fact (fact_chunk f frames))

abbrev pub tables_of : Cues → Playlist → List ℕ
tables_of c p = part_bytes code.Cue (cues_chunk c) ++ part_bytes code.Playlist (plays_chunk p)

-- ---- the verdict

-- so many bytes
abbrev pub size_of : List ℕ → BytePlace
size_of s = record { 0 = length s }

-- of the file itself: 1 above the limit, then 14 where there is not room for so many bytes
abbrev pub file_checks : List ℕ → ℕ → List Check
file_checks s room = check (leb (length s) file_limit) LengthOutOfRange ∷ check (leb (length s) room) OutputTooSmall ∷ []

-- the titles of a record are as reading gives them, with their texts in b
abbrev pub right_titles : Record → List ℕ → Bool
right_titles m b = titles_right (names_in m.cues) b m.titles

-- 9 to 13, then 21 where the titles are not right, then 1, then 14
unfoldable pub write_checks : Bool → Record → List ℕ → List ℕ → ℕ → List Check
write_checks right m b w room = record_checks m (size_of w) ++ (check right TitlesWrong ∷ file_checks (file_of m b w) room)

abbrev pub settled : Bool → Record → List ℕ → List ℕ → ℕ → Verdict
settled right m b w room = decided (write_checks right m b w room)

-- ---- the answer, with room for so many bytes

-- what writing answers: how many bytes the file has, or the refusal
abbrev pub Written : Type 0
Written = Result BytePlace Refusal

abbrev pub written_by : Verdict → BytePlace → Written
written_by (Ok _) n = Ok n
written_by (Err r) n = Err r

unfoldable pub writing_by : Bool → Record → List ℕ → List ℕ → ℕ → Written
writing_by right m b w room = written_by (settled right m b w room) (size_of (file_of m b w))

abbrev pub writing : Record → List ℕ → List ℕ → ℕ → Written
writing m b w room = writing_by (right_titles m b) m b w room

-- the verdict that an answer tells, and its number: 0 where the file is written
abbrev pub written_verdict : Written → Verdict
written_verdict (Ok n) = Ok tt
written_verdict (Err r) = Err r

abbrev pub written_number : Written → ℕ
written_number r = verdict_number (written_verdict r)
