-- What is read back of a record that is written, and which faults its bytes carry. Assumes nothing.
use Rattle.std.specs.Prelude.{ℕ, ◌<◌, ◌≡◌, true, false, List, Err}
use Rattle.units.specs.declared.BytePlace.{BytePlace}
use Rattle.units.specs.declared.Refusal.TheVariants.{FormatWrong, FactWrong}
use Rattle.formats.specs.Format.{format_rule}
use Rattle.formats.specs.Frames.{needs_fact}
use Rattle.formats.specs.Bytes.{format_bytes, said_format, FormatFits}
use Rattle.tables.specs.Bytes.{cues_bytes, plays_bytes, cues_kept, plays_kept, CuesFit, PlaysFit}
use Rattle.titles.specs.Writing.{titles_kept, TitlesFit}
use Rattle.rules.specs.declared.Record.{Record}
use Rattle.rules.specs.Rules.{ChunkBytes, record_verdict}

-- the chunks that are written of a record with n bytes of sound, whatever the `fact`
abbrev pub written_bytes : Record → BytePlace → List ℕ → ChunkBytes
written_bytes m n fact =
    record { format = format_bytes m.format; sound = n; fact = fact; cues = cues_bytes m.cues; plays = plays_bytes m.playlist }

-- the same record, its room past the three counts zero
unfoldable pub record_kept : Record → Record
record_kept m =
    record { format = m.format; frames = m.frames; cues = cues_kept m.cues; playlist = plays_kept m.playlist; titles = titles_kept m.titles }

-- the numbers of a record fit the fields that they are written to, as those of the code's types do
pub record RecordFits (m : Record) : Type 0 where
  pub format : FormatFits m.format
  pub frames : m.frames.0 < 4294967296
  pub cues : CuesFit m.cues
  pub plays : PlaysFit m.playlist
  pub titles : TitlesFit m.titles

-- the fault for which a record is refused is in what its bytes say: a PCM file says neither its samples per block nor F
pub record FaultSaid (m : Record) (n : BytePlace) : Type 0 where
  pub format : record_verdict m n ≡ Err FormatWrong → format_rule (said_format m.format) ≡ false
  pub frames : record_verdict m n ≡ Err FactWrong → needs_fact m.format ≡ true
