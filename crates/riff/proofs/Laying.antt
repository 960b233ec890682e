-- How long what is laid is: a head, a chunk, a file; and that two writes make a head. Assumes nothing.
use mathlib.Core.Path.{◌≡◌, ap, ◌∙◌}
use mathlib.Core.Bool.{Bool, true, false, cond}
use mathlib.Core.List.{List, [], ◌∷◌, ◌++◌}
use Prim.Native.Nat.{ℕ, ◌+◌, ◌%◌, ◌≤◌}
use native.Mathlib.Omega.{arith}
use lib.ListN.{length, length-append, length-replicate}
use Rattle.little.specs.Numbers.{bytes_of}
use Rattle.little.specs.Writing.{Put}
use Rattle.little.proofs.Filling.{put_next}
use Rattle.little.proofs.Reading.{length-bytes}
use Rattle.codes.specs.Codes.{code_bytes}
use Rattle.codes.proofs.Bytes.{length-code}
use Rattle.codes.specs.declared.Code.{Code}
use Rattle.codes.specs.declared.Code.TheVariants.{Riff, Wave, Format, Data, Fact, Cue, Playlist, Listing}
use Rattle.riff.specs.Laying.{Piece, piece, head_bytes, pad_bytes, piece_bytes, extent, body_bytes, riff_bytes, file_bytes, Part, Parts, given, extent_if, pieces_of}

pub length-head : (c : Code) (n : ℕ) → length (head_bytes c n) ≡ 8
unfolding head_bytes
length-head c n = length-append (code_bytes c) (bytes_of 4 n) ∙ omega (arith, length-code c, length-bytes 4 n)

pub length-riff : (n : ℕ) → length (riff_bytes n) ≡ 12
unfolding riff_bytes
length-riff n = length-append (head_bytes Riff n) (code_bytes Wave) ∙ omega (arith, length-head Riff n, length-code Wave)

pub length-pad : (n : ℕ) → length (pad_bytes n) ≡ n % 2
unfolding pad_bytes
length-pad n = length-replicate (n % 2) 0

pub length-piece : (p : Piece) → length (piece_bytes p) ≡ extent (length p.bytes)
unfolding piece_bytes
length-piece p =
    let n : ℕ = length p.bytes in
    length-append (head_bytes p.code n) (p.bytes ++ pad_bytes n)
    ∙ omega (arith, length-head p.code n, length-append p.bytes (pad_bytes n), length-pad n)

-- ---- a file
pub length-body : (p : Piece) (ps : List Piece) → length (body_bytes (p ∷ ps)) ≡ extent (length p.bytes) + length (body_bytes ps)
unfolding body_bytes
length-body p ps = length-append (piece_bytes p) (body_bytes ps) ∙ ap (λ (n : ℕ). n + length (body_bytes ps)) (length-piece p)

pub length-file : (ps : List Piece) → length (file_bytes ps) ≡ 12 + length (body_bytes ps)
unfolding file_bytes
length-file ps =
    let n : ℕ = 4 + length (body_bytes ps) in
    length-append (riff_bytes n) (body_bytes ps) ∙ ap (λ (k : ℕ). k + length (body_bytes ps)) (length-riff n)

pub length-given : (c : Code) (p : Part) (ps : List Piece) → length (body_bytes (given c p ps)) ≡ extent_if p + length (body_bytes ps)
unfolding given extent_if
length-given c p ps = by p.there
  where
    by : (b : Bool) → length (body_bytes (cond b (piece c p.bytes ∷ ps) ps)) ≡ cond b (extent (length p.bytes)) 0 + length (body_bytes ps)
    by true = length-body (piece c p.bytes) ps
    by false = omega arith

pub length-laid : (p : Parts)
    → length (file_bytes (pieces_of p))
    ≡ 12 + (extent (length p.format) + (extent_if p.fact + (extent_if p.cues
    + (extent_if p.plays + (extent_if p.titles + extent (length p.sound))))))
unfolding pieces_of body_bytes
length-laid p =
    let d : List Piece = piece Data p.sound ∷ [] in
    let t : List Piece = given Listing p.titles d in
    let l : List Piece = given Playlist p.plays t in
    let k : List Piece = given Cue p.cues l in
    let f : List Piece = given Fact p.fact k in
    length-file (pieces_of p)
    ∙ omega (
      arith,
      length-body (piece Format p.format) f,
      length-given Fact p.fact k,
      length-given Cue p.cues l,
      length-given Playlist p.plays t,
      length-given Listing p.titles d,
      length-body (piece Data p.sound) [],
    )

-- ---- in the words of the code
module _ {d e g : List ℕ} where
  pub head-put : {at : ℕ} (c : Code) (n : ℕ) → at + 8 ≤ length d
      → Put d at (code_bytes c) e → Put e (at + 4) (bytes_of 4 n) g → Put d at (head_bytes c n) g
  unfolding head_bytes
  head-put {at} c n h p q = put_next p q (omega (arith, length-code c)) (omega (arith, length-bytes 4 n))

  pub riff-put : (n : ℕ) → 12 ≤ length d → Put d 0 (head_bytes Riff n) e → Put e 8 (code_bytes Wave) g → Put d 0 (riff_bytes n) g
  unfolding riff_bytes
  riff-put n h p q = put_next p q (omega (arith, length-head Riff n)) (omega (arith, length-code Wave))
