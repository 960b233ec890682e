-- What is put for a table is bytes where what is put for each entry is, once for both tables. Assumes nothing.
use mathlib.Core.List.{List, [], ◌∷◌}
use Prim.Native.Nat.{ℕ}
use lib.Dec.{T}
use lib.Pow.{are_bytes}
use Rattle.little.proofs.Reading.{both_bytes, bytewise}
use Rattle.codes.proofs.Bytes.{code-bytes}
use Rattle.tables.specs.declared.Cue.{Cue}
use Rattle.tables.specs.declared.Cues.{Cues}
use Rattle.tables.specs.declared.Play.{Play}
use Rattle.tables.specs.declared.Playlist.{Playlist}
use Rattle.tables.specs.Bytes.{entry_bytes, table_bytes, cue_bytes, cues_bytes, play_bytes, plays_bytes}

module _ {A : Type 0} (bytes : A → List ℕ) (each : (a : A) → T (are_bytes (bytes a))) where
  entry-bytes : (es : List A) → T (are_bytes (entry_bytes bytes es))
  unfolding entry_bytes
  entry-bytes [] = tt
  entry-bytes (e ∷ es) = both_bytes (bytes e) (entry_bytes bytes es) (each e) (entry-bytes es)

  table-bytes : (count : ℕ) (list : List A) → T (are_bytes (table_bytes bytes count list))
  unfolding table_bytes
  table-bytes count list = search (bytewise, entry-bytes)

cue-bytes : (c : Cue) → T (are_bytes (cue_bytes c))
unfolding cue_bytes
cue-bytes c = search (bytewise, code-bytes) depth 6

play-bytes : (p : Play) → T (are_bytes (play_bytes p))
unfolding play_bytes
play-bytes p = search bytewise

pub cues-bytes : (c : Cues) → T (are_bytes (cues_bytes c))
unfolding cues_bytes
cues-bytes c = table-bytes cue_bytes cue-bytes c.count c.list

pub plays-bytes : (p : Playlist) → T (are_bytes (plays_bytes p))
unfolding plays_bytes
plays-bytes p = table-bytes play_bytes play-bytes p.count p.list
