-- The four-byte codes by their letters, and whether one stands at a place. Assumes nothing.
use Rattle.std.specs.Prelude.{ℕ, Bool, List, [], ◌∷◌, take, drop}
use Prim.Native.Char.{code as byte_of}
use Prim.Native.String.{String, [] as none, ◌∷◌ as ◌then◌}
use Rattle.little.specs.Same.{same_bytes}
use Rattle.codes.specs.declared.Code.{Code}
use Rattle.codes.specs.declared.Code.TheVariants.{Riff, Wave, Format, Data, Fact, Cue, Playlist, Listing, WaveList, Titles, Label, Note}

-- letters as they stand in a file, a byte for each
abbrev pub spelled : String → List ℕ
spelled none = []
spelled (letter then others) = byte_of letter ∷ spelled others

-- the four bytes of a code: its letters, as the papers print them
unfoldable pub code_bytes : Code → List ℕ
code_bytes Riff = spelled "RIFF"
code_bytes Wave = spelled "WAVE"
code_bytes Format = spelled "fmt "
code_bytes Data = spelled "data"
code_bytes Fact = spelled "fact"
code_bytes Cue = spelled "cue "
code_bytes Playlist = spelled "plst"
code_bytes Listing = spelled "LIST"
code_bytes WaveList = spelled "wavl"
code_bytes Titles = spelled "adtl"
code_bytes Label = spelled "labl"
code_bytes Note = spelled "note"

-- a code stands at a place: the four bytes there are its letters; past the end there are fewer
unfoldable pub is_at : List ℕ → ℕ → Code → Bool
is_at s at c = same_bytes (take 4 (drop at s)) (code_bytes c)
