-- A file made of chunks, as the writer lays it. Assumes nothing.
use Rattle.std.specs.Prelude.{ℕ, ◌+◌, ◌%◌, Bool, cond, List, [], ◌∷◌, ◌++◌, length, replicate}
use Rattle.little.specs.Numbers.{bytes_of}
use Rattle.codes.specs.Codes.{code_bytes}
use Rattle.codes.specs.declared.Code.{Code}
use Rattle.codes.specs.declared.Code.TheVariants.{Riff, Wave, Format, Data, Fact, Cue, Playlist, Listing}

-- ---- one chunk

pub record Piece : Type 0 where
  pub code : Code
  pub bytes : List ℕ

-- a four-byte code, a four-byte size
unfoldable pub head_bytes : Code → ℕ → List ℕ
head_bytes c size = code_bytes c ++ bytes_of 4 size

-- "plus one pad byte if the size is odd"; "the writer puts zero"
unfoldable pub pad_bytes : ℕ → List ℕ
pad_bytes size = replicate (size % 2) 0

-- a chunk: its head, that many bytes, and the pad
unfoldable pub piece_bytes : Piece → List ℕ
piece_bytes p = head_bytes p.code (length p.bytes) ++ (p.bytes ++ pad_bytes (length p.bytes))

-- the bytes of a chunk whose data are n bytes
abbrev pub extent : ℕ → ℕ
extent n = 8 + (n + n % 2)

-- ---- a file of chunks

-- from byte 12 the chunks with their pads tile the body without gap
unfoldable pub body_bytes : List Piece → List ℕ
body_bytes [] = []
body_bytes (p ∷ ps) = piece_bytes p ++ body_bytes ps

-- `RIFF`, the size R of what follows, `WAVE`
unfoldable pub riff_bytes : ℕ → List ℕ
riff_bytes size = head_bytes Riff size ++ code_bytes Wave

unfoldable pub file_bytes : List Piece → List ℕ
file_bytes ps = riff_bytes (4 + length (body_bytes ps)) ++ body_bytes ps

-- ---- the chunks of a WAVE file

-- what a chunk is to hold, and whether it is written
pub record Part : Type 0 where
  pub there : Bool
  pub bytes : List ℕ

-- of a WAVE file four chunks may be left out
pub record Parts : Type 0 where
  pub format : List ℕ
  pub fact : Part
  pub cues : Part
  pub plays : Part
  pub titles : Part
  pub sound : List ℕ

abbrev pub piece : Code → List ℕ → Piece
piece c bytes = record { code = c; bytes = bytes }

-- a chunk where it is written, and those after it
unfoldable pub given : Code → Part → List Piece → List Piece
given c p ps = cond p.there (piece c p.bytes ∷ ps) ps

-- the bytes of a chunk where it is written, and how many they are
unfoldable pub part_bytes : Code → Part → List ℕ
part_bytes c p = cond p.there (piece_bytes (piece c p.bytes)) []

unfoldable pub extent_if : Part → ℕ
extent_if p = cond p.there (extent (length p.bytes)) 0

-- in the order of writing
unfoldable pub pieces_of : Parts → List Piece
pieces_of p =
    piece Format p.format
    ∷ given Fact p.fact (given Cue p.cues (given Playlist p.plays (given Listing p.titles (piece Data p.sound ∷ []))))
