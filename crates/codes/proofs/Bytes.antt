-- Every code has four letters, they are bytes, and the last of them is not zero: one test, computed code by code. Assumes nothing.
use mathlib.Core.Path.{◌≡◌}
use Prim.Native.Nat.{◌≤◌}
use lib.Dec.{T, eqb, leb, eqb→eq, leb→le}
use lib.ListN.{length, get_or}
use lib.Pow.{are_bytes}
use Rattle.codes.specs.declared.Code.{Code}
use Rattle.codes.specs.declared.Code.TheVariants.{Riff, Wave, Format, Data, Fact, Cue, Playlist, Listing, WaveList, Titles, Label, Note}
use Rattle.codes.specs.Codes.{code_bytes}

tested : (c : Code) → T (eqb (length (code_bytes c)) 4) × T (are_bytes (code_bytes c)) × T (leb 1 (get_or (code_bytes c) 3 0))
unfolding code_bytes
tested Riff = (tt, tt, tt)
tested Wave = (tt, tt, tt)
tested Format = (tt, tt, tt)
tested Data = (tt, tt, tt)
tested Fact = (tt, tt, tt)
tested Cue = (tt, tt, tt)
tested Playlist = (tt, tt, tt)
tested Listing = (tt, tt, tt)
tested WaveList = (tt, tt, tt)
tested Titles = (tt, tt, tt)
tested Label = (tt, tt, tt)
tested Note = (tt, tt, tt)

module _ (c : Code) where
  pub length-code : length (code_bytes c) ≡ 4
  length-code = eqb→eq (length (code_bytes c)) 4 (tested c).0

  pub code-bytes : T (are_bytes (code_bytes c))
  code-bytes = (tested c).1

  pub last_letter : 1 ≤ get_or (code_bytes c) 3 0
  last_letter = leb→le 1 (get_or (code_bytes c) 3 0) (tested c).2
