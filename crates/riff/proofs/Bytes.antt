-- A file that is laid is bytes where the data of its chunks are, since heads and pads are. Assumes nothing.
use mathlib.Core.Bool.{Bool, true, false, cond}
use mathlib.Core.List.{List, ◌∷◌}
use Prim.Native.Nat.{ℕ, zero, suc, ◌%◌}
use lib.Dec.{T}
use lib.ListN.{replicate}
use lib.Pow.{are_bytes}
use Rattle.little.proofs.Reading.{both_bytes, bytewise}
use Rattle.codes.specs.declared.Code.{Code}
use Rattle.codes.proofs.Bytes.{code-bytes}
use Rattle.riff.specs.Laying.{Piece, Part, Parts, piece, head_bytes, pad_bytes, piece_bytes, body_bytes, riff_bytes, file_bytes, given, pieces_of}

head_bytes_lem : (c : Code) (size : ℕ) → T (are_bytes (head_bytes c size))
unfolding head_bytes
head_bytes_lem c size = search (bytewise, code-bytes)

zero-bytes : (n : ℕ) → T (are_bytes (replicate n 0))
zero-bytes zero = tt
zero-bytes (suc n) = zero-bytes n

pad-bytes : (size : ℕ) → T (are_bytes (pad_bytes size))
unfolding pad_bytes
pad-bytes size = zero-bytes (size % 2)

-- a chunk and those after it; and a chunk that may be left out
pub body_bytes_lem : (p : Piece) (ps : List Piece) → T (are_bytes p.bytes) → T (are_bytes (body_bytes ps)) → T (are_bytes (body_bytes (p ∷ ps)))
unfolding body_bytes piece_bytes
body_bytes_lem p ps t u = search (both_bytes, head_bytes_lem, pad-bytes)

given-bytes : (c : Code) (p : Part) (ps : List Piece) → T (are_bytes p.bytes) → T (are_bytes (body_bytes ps))
    → T (are_bytes (body_bytes (given c p ps)))
unfolding given
given-bytes c p ps t u = by p.there
  where
    by : (b : Bool) → T (are_bytes (body_bytes (cond b (piece c p.bytes ∷ ps) ps)))
    by true = body_bytes_lem (piece c p.bytes) ps t u
    by false = u

pub laid-bytes : (p : Parts) → T (are_bytes p.format) → T (are_bytes p.fact.bytes) → T (are_bytes p.cues.bytes)
    → T (are_bytes p.plays.bytes) → T (are_bytes p.titles.bytes) → T (are_bytes p.sound) → T (are_bytes (file_bytes (pieces_of p)))
unfolding file_bytes riff_bytes pieces_of body_bytes
laid-bytes p format fact cues plays titles sound = search (both_bytes, head_bytes_lem, code-bytes, body_bytes_lem, given-bytes, tt) depth 10
