-- The limit, the table of refusal numbers, row by row, and the number of a verdict. Assumes nothing.
use Rattle.std.specs.Prelude.{ℕ, Result, Ok, Err}
use Rattle.units.specs.declared.Refusal.{Refusal}
use Rattle.units.specs.declared.Refusal.TheVariants.{LengthOutOfRange, NotWave, RiffSizeWrong, ChunkPastTheEnd, SecondOfItsKind, DataBeforeFormat, WaveList, FormatOrDataMissing, FormatWrong, NotWholeFrames, FactWrong, CuesWrong, PlaylistWrong, OutputTooSmall, BlockHeaderWrong, SongEmptyOrDifferent, NoPlaceOnSide, AlreadyListed, NotASide, NoSuchBlock, TitlesWrong}

-- the limit: a file has at most so many bytes, 1 GiB
abbrev pub file_limit : ℕ
file_limit = 1073741824

-- the number of a refusal; above each, when it is given, besides where an operation says so
abbrev pub number_of : Refusal → ℕ
-- length under 12 or over the limit
number_of LengthOutOfRange = 1
-- bytes 0-3 not `RIFF` or 8-11 not `WAVE`
number_of NotWave = 2
-- 8+R is not the length, where R is the RIFF size
number_of RiffSizeWrong = 3
-- a chunk's header, or its data, passes the end
number_of ChunkPastTheEnd = 4
-- a second `fmt `, `data`, `fact`, `cue ` or `plst`
number_of SecondOfItsKind = 5
-- `data` before any `fmt `
number_of DataBeforeFormat = 6
-- a `LIST` whose data starts with `wavl`
number_of WaveList = 7
-- no `fmt ` or no `data`
number_of FormatOrDataMissing = 8
-- channels, rate, tag or any rule of **fmt** below not met
number_of FormatWrong = 9
-- sound data not whole frames or blocks
number_of NotWholeFrames = 10
-- fact absent where needed, shorter than 4, or count wrong
number_of FactWrong = 11
-- cue table wrong
number_of CuesWrong = 12
-- playlist wrong
number_of PlaylistWrong = 13
-- lent output too small
number_of OutputTooSmall = 14
-- an ADPCM block header holds an index out of range
number_of BlockHeaderWrong = 15
-- song without frames, or its number listed with other sound
number_of SongEmptyOrDifferent = 16
-- no place on the side
number_of NoPlaceOnSide = 17
-- already listed, same sound: nothing to do
number_of AlreadyListed = 18
-- not a side
number_of NotASide = 19
-- no such block
number_of NoSuchBlock = 20
-- a wrong list of titles or title
number_of TitlesWrong = 21

-- what an input is judged to be: taken, or refused and why
abbrev pub Verdict : Type 0
Verdict = Result (Unit {0}) Refusal

-- the number that a verdict tells: 0 where the input is taken
abbrev pub verdict_number : Verdict → ℕ
verdict_number (Ok _) = 0
verdict_number (Err r) = number_of r
