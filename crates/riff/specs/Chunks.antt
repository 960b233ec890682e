-- A RIFF file's header, and the chunk at a place. Assumes nothing.
use Rattle.std.specs.Prelude.{ℕ, ◌+◌, ◌%◌, Bool, true, false, not, cond, ◌&&◌, ◌||◌, List, [], ◌∷◌, ltb, leb, eqb, length, Option, is_some, Some, None, Result, Ok, Err}
use Rattle.units.specs.Refusals.{file_limit, number_of, Verdict}
use Rattle.units.specs.Checks.{Check, check, decided}
use Rattle.little.specs.Numbers.{number_at}
use Rattle.codes.specs.Codes.{is_at}
use Rattle.codes.specs.declared.Code.TheVariants as code
use Rattle.units.specs.declared.BytePlace.{BytePlace}
use Rattle.units.specs.declared.Refusal.{Refusal}
use Rattle.units.specs.declared.Refusal.TheVariants.{LengthOutOfRange, NotWave, RiffSizeWrong, ChunkPastTheEnd, SecondOfItsKind, DataBeforeFormat, WaveList}
use Rattle.riff.specs.declared.Kind.{Kind}
use Rattle.riff.specs.declared.Kind.TheVariants.{Format, Sound, Fact, Cues, Plays, Titles, Listing, Other}
use Rattle.riff.specs.declared.Pad.{Pad}
use Rattle.riff.specs.declared.Pad.TheVariants.{NotNeeded, There, Absent}
use Rattle.riff.specs.declared.Place.{Place}
use Rattle.riff.specs.declared.Directory.{Directory}

-- a step of the walk: the chunk at a place, or the refusal that ends the walk there
abbrev pub Step : Type 0
Step = Result Place Refusal

-- where a chunk stands, if it was met
abbrev pub Spot : Type 0
Spot = Option Place

-- what a walk ends with: the directory of a whole file, or the refusal that stopped it
abbrev pub Walked : Type 0
Walked = Result Directory Refusal

-- ---- the header

-- length under 12 or over the limit
abbrev pub bad_length : List ℕ → Bool
bad_length s = ltb (length s) 12 || ltb file_limit (length s)

-- bytes 0-3 not `RIFF` or 8-11 not `WAVE`
abbrev pub no_wave : List ℕ → Bool
no_wave s = not (is_at s 0 code.Riff) || not (is_at s 8 code.Wave)

-- 8+R is not the length, where R is the RIFF size
abbrev pub bad_size : List ℕ → Bool
bad_size s = not (eqb (8 + number_at 4 s 4) (length s))

-- 1, 2, 3
abbrev pub head_checks : List ℕ → List Check
head_checks s =
    check (not (bad_length s)) LengthOutOfRange
    ∷ check (not (no_wave s)) NotWave
    ∷ check (not (bad_size s)) RiffSizeWrong
    ∷ []

unfoldable pub head_verdict : List ℕ → Verdict
head_verdict s = decided (head_checks s)

-- ---- a chunk: a four-byte code, a four-byte size and that many bytes, plus one pad byte if the size is odd

-- the size of the data, and where they end
abbrev pub size_at : List ℕ → ℕ → ℕ
size_at s at = number_at 4 s (at + 4)

abbrev pub end_at : List ℕ → ℕ → ℕ
end_at s at = at + 8 + size_at s at

-- of a `LIST`: it is one of titles where its data start with `adtl`
unfoldable pub list_kind : List ℕ → ℕ → Kind
list_kind s at = cond (leb 4 (size_at s at) && is_at s (at + 8) code.Titles) Titles Listing

unfoldable pub kind_at : List ℕ → ℕ → Kind
kind_at s at =
    cond (is_at s at code.Format) Format
    (cond (is_at s at code.Data) Sound
    (cond (is_at s at code.Fact) Fact
    (cond (is_at s at code.Cue) Cues
    (cond (is_at s at code.Playlist) Plays
    (cond (is_at s at code.Listing) (list_kind s at)
    Other)))))

-- the pad after data of a size that end at a place, in a file so long: "it may be absent only where the chunk's data ends at the
-- file's end"
unfoldable pub pad_after : ℕ → ℕ → ℕ → Pad
pad_after size end long = cond (eqb (size % 2) 0) NotNeeded (cond (eqb end long) Absent There)

-- how many bytes it has
abbrev pub pad_size : Pad → ℕ
pad_size NotNeeded = 0
pad_size There = 1
pad_size Absent = 0

abbrev pub pad_at : List ℕ → ℕ → Pad
pad_at s at = pad_after (size_at s at) (end_at s at) (length s)

-- where the next chunk starts
abbrev pub next_at : List ℕ → ℕ → ℕ
next_at s at = end_at s at + pad_size (pad_at s at)

-- the chunk whose header stands at a place
abbrev pub placed : List ℕ → ℕ → Place
placed s at =
    record {
      kind = kind_at s at;
      pad = pad_at s at;
      start = record { 0 = at + 8 };
      size = record { 0 = size_at s at };
      next = record { 0 = next_at s at };
    }

-- its header, or its data, passes the end
abbrev pub passes : List ℕ → ℕ → Bool
passes s at = ltb (length s) (at + 8) || ltb (length s) (end_at s at)

unfoldable pub place_at : List ℕ → BytePlace → Step
place_at s at = cond (passes s at.0) (Err ChunkPastTheEnd) (Ok (placed s at.0))

-- ---- what was met before it

abbrev pub is_there : Spot → Bool
is_there spot = is_some spot

abbrev pub is_absent : Pad → Bool
is_absent NotNeeded = false
is_absent There = false
is_absent Absent = true

-- whether a chunk was met whose pad is absent
abbrev pub pad_lost : Spot → Bool
pad_lost (Some p) = is_absent p.pad
pad_lost None = false

-- where a chunk of a kind was met; of the last three, the walk takes any number
abbrev pub spot_of : Directory → Kind → Spot
spot_of d Format = d.format
spot_of d Sound = d.sound
spot_of d Fact = d.fact
spot_of d Cues = d.cues
spot_of d Plays = d.plays
spot_of d Titles = None
spot_of d Listing = None
spot_of d Other = None

abbrev pub directory : Spot → Spot → Spot → Spot → Spot → Spot → Bool → Directory
directory format sound fact cues plays titles second =
    record { format = format; sound = sound; fact = fact; cues = cues; plays = plays; titles = titles; second = second }

-- whether there is a spot for chunks of a kind
abbrev pub is_kept : Kind → Bool
is_kept Format = true
is_kept Sound = true
is_kept Fact = true
is_kept Cues = true
is_kept Plays = true
is_kept Titles = true
is_kept Listing = false
is_kept Other = false

-- the directory with a list of titles more: its place where it is the first, else only that another came
unfoldable pub keep_titles : Directory → Place → Directory
keep_titles d p =
    cond (is_there d.titles)
    (directory d.format d.sound d.fact d.cues d.plays d.titles true)
    (directory d.format d.sound d.fact d.cues d.plays (Some p) d.second)

-- the directory with one chunk more
abbrev pub keep : Directory → Place → Kind → Directory
keep d p Format = directory (Some p) d.sound d.fact d.cues d.plays d.titles d.second
keep d p Sound = directory d.format (Some p) d.fact d.cues d.plays d.titles d.second
keep d p Fact = directory d.format d.sound (Some p) d.cues d.plays d.titles d.second
keep d p Cues = directory d.format d.sound d.fact (Some p) d.plays d.titles d.second
keep d p Plays = directory d.format d.sound d.fact d.cues (Some p) d.titles d.second
keep d p Titles = keep_titles d p
keep d p Listing = d
keep d p Other = d

-- `data` before any `fmt `
abbrev pub early : Directory → Kind → Bool
early d Format = false
early d Sound = not (is_there d.format)
early d Fact = false
early d Cues = false
early d Plays = false
early d Titles = false
early d Listing = false
early d Other = false

-- a `LIST` whose data starts with `wavl`
unfoldable pub starts_as_waves : List ℕ → Place → Bool
starts_as_waves s p = leb 4 p.size.0 && is_at s p.start.0 code.WaveList

abbrev pub wave_list : List ℕ → Place → Kind → Bool
wave_list s p Format = false
wave_list s p Sound = false
wave_list s p Fact = false
wave_list s p Cues = false
wave_list s p Plays = false
wave_list s p Titles = false
wave_list s p Listing = starts_as_waves s p
wave_list s p Other = false

-- ---- a step of the walk: at one chunk 4, 5, 6, 7 in that order

abbrev pub checked : List ℕ → Directory → Step → Step
checked s d (Err r) = Err r
checked s d (Ok p) =
    cond (is_there (spot_of d p.kind)) (Err SecondOfItsKind)
    (cond (early d p.kind) (Err DataBeforeFormat)
    (cond (wave_list s p p.kind) (Err WaveList)
    (Ok p)))

unfoldable pub chunk_at : List ℕ → BytePlace → Directory → Step
chunk_at s at d = checked s d (place_at s at)

-- the number of a step: 4, 5, 6 or 7, and 0 where the walk goes on
abbrev pub step_number : Step → ℕ
step_number (Ok p) = 0
step_number (Err r) = number_of r
