-- What is read where bytes were laid: a number, a code, a chunk. The bytes at a place are `drop at s`. Assumes nothing.
use mathlib.Core.Path.{◌≡◌, refl, sym, ap, ◌∙◌}
use mathlib.Core.List.{List, ◌++◌, append_assoc}
use Prim.Native.Nat.{ℕ, ◌+◌, ◌%◌, ◌≤◌, ◌<◌}
use native.Mathlib.Omega.{arith}
use lib.ListN.{length, take, drop, length-append, length-drop}
use lib.Seq.{take_at, drop_at, drop-drop}
use borrow.Author.Tests.{le-leb}
use Rattle.little.specs.Numbers.{number_in, number_at, bytes_of}
use Rattle.little.specs.Same.{same_bytes}
use Rattle.little.proofs.Reading.{number-first}
use Rattle.codes.specs.Codes.{code_bytes, is_at}
use Rattle.codes.proofs.Bytes.{length-code}
use Rattle.codes.proofs.Laws.{laid_code, stands}
use Rattle.codes.specs.declared.Code.{Code}
use Rattle.codes.specs.declared.Code.TheVariants as code
use Rattle.riff.specs.declared.Kind.{Kind}
use Rattle.riff.specs.declared.Kind.TheVariants.{Format, Sound, Fact, Cues, Plays, Titles, Other}
use Rattle.riff.specs.Chunks.{size_at, list_kind, kind_at}
use Rattle.riff.specs.Laying.{piece, head_bytes, pad_bytes, piece_bytes}
use Rattle.riff.proofs.Laying.{length-head, length-pad, length-piece}

-- ---- at a place
module _ (s : List ℕ) (at : ℕ) where
  -- behind what stands there
  pub behind : (xs ys : List ℕ) (n : ℕ) → length xs ≡ n → drop at s ≡ xs ++ ys → drop (at + n) s ≡ ys
  behind xs ys n l e = sym (drop-drop n at s) ∙ ap (drop n) e ∙ drop_at xs ys n l

  pub number-laid : (v : ℕ) (ys : List ℕ) → v < 4294967296 → drop at s ≡ bytes_of 4 v ++ ys → number_at 4 s at ≡ v
  unfolding number_at
  number-laid v ys h e = ap (λ (l : List ℕ). number_in (take 4 l)) e ∙ number-first 4 v ys h

-- ---- a code
-- what a chunk with a code is to the walk; a list is what its data say
abbrev pub kind_of : Kind → Code → Kind
kind_of list code.Riff = Other
kind_of list code.Wave = Other
kind_of list code.Format = Format
kind_of list code.Data = Sound
kind_of list code.Fact = Fact
kind_of list code.Cue = Cues
kind_of list code.Playlist = Plays
kind_of list code.Listing = list
kind_of list code.WaveList = Other
kind_of list code.Titles = Other
kind_of list code.Label = Other
kind_of list code.Note = Other

module _ (s : List ℕ) (at : ℕ) where
  kind-by : (c : Code) → ((d : Code) → is_at s at d ≡ same_bytes (code_bytes c) (code_bytes d)) → kind_at s at ≡ kind_of (list_kind s at) c
  unfolding kind_at code_bytes same_bytes
  kind-by code.Riff h = simp h
  kind-by code.Wave h = simp h
  kind-by code.Format h = simp h
  kind-by code.Data h = simp h
  kind-by code.Fact h = simp h
  kind-by code.Cue h = simp h
  kind-by code.Playlist h = simp h
  kind-by code.Listing h = simp h
  kind-by code.WaveList h = simp h
  kind-by code.Titles h = simp h
  kind-by code.Label h = simp h
  kind-by code.Note h = simp h

  pub kind-laid : (c : Code) (ys : List ℕ) → drop at s ≡ code_bytes c ++ ys → kind_at s at ≡ kind_of (list_kind s at) c
  kind-laid c ys e = kind-by c (laid_code s at c ys e)

-- ---- a chunk
module _ (s : List ℕ) (at : ℕ) (c : Code) (bytes rest : List ℕ) (e : drop at s ≡ piece_bytes (piece c bytes) ++ rest) where
  abbrev size : ℕ
  size = length bytes

  -- its head, its bytes and its pad, and then the rest
  in_parts : drop at s ≡ head_bytes c size ++ (bytes ++ (pad_bytes size ++ rest))
  unfolding piece_bytes
  in_parts =
      e
      ∙ append_assoc (head_bytes c size) (bytes ++ pad_bytes size) rest
      ∙ ap (λ (l : List ℕ). head_bytes c size ++ l) (append_assoc bytes (pad_bytes size) rest)

  pub head-parts : drop at s ≡ code_bytes c ++ (bytes_of 4 size ++ (bytes ++ (pad_bytes size ++ rest)))
  unfolding head_bytes
  head-parts = in_parts ∙ append_assoc (code_bytes c) (bytes_of 4 size) (bytes ++ (pad_bytes size ++ rest))

  pub data-there : drop (at + 8) s ≡ bytes ++ (pad_bytes size ++ rest)
  data-there = behind s at (head_bytes c size) _ 8 (length-head c size) in_parts

  pub kind-there : kind_at s at ≡ kind_of (list_kind s at) c
  kind-there = kind-laid s at c _ head-parts

  pub size-there : size < 4294967296 → number_at 4 s (at + 4) ≡ size
  size-there h = number-laid s (at + 4) size _ h (behind s at (code_bytes c) _ 4 (length-code c) head-parts)

  pub bytes-there : take size (drop (at + 8) s) ≡ bytes
  bytes-there = ap (take size) data-there ∙ take_at bytes (pad_bytes size ++ rest) size refl

  pub rest-there : drop (at + 8 + size + size % 2) s ≡ rest
  rest-there = behind s (at + 8 + size) (pad_bytes size) rest (size % 2) (length-pad size) (behind s (at + 8) bytes _ size refl data-there)

  pub fits-there : at ≤ length s → at + 8 + size + size % 2 ≤ length s
  fits-there h =
      omega (arith, length-drop at s, ap length e, length-append (piece_bytes (piece c bytes)) rest, length-piece (piece c bytes))

-- ---- a list of titles
module _ (s : List ℕ) (at : ℕ) (bytes rest body : List ℕ) (e : drop at s ≡ piece_bytes (piece code.Listing bytes) ++ rest)
    (a : bytes ≡ code_bytes code.Titles ++ body) where
  titles-start : drop (at + 8) s ≡ code_bytes code.Titles ++ (body ++ (pad_bytes (length bytes) ++ rest))
  titles-start =
      data-there s at code.Listing bytes rest e
      ∙ ap (λ (l : List ℕ). l ++ (pad_bytes (length bytes) ++ rest)) a
      ∙ append_assoc (code_bytes code.Titles) body (pad_bytes (length bytes) ++ rest)

  pub kind-titles : length bytes < 4294967296 → kind_at s at ≡ Titles
  unfolding list_kind
  kind-titles h =
      let n = size-there s at code.Listing bytes rest e h in
      let l : 4 ≤ size_at s at = omega (arith, ap length a, length-append (code_bytes code.Titles) body, length-code code.Titles) in
      kind-there s at code.Listing bytes rest e
      ∙ simp (le-leb 4 (size_at s at) l, stands s (at + 8) code.Titles _ titles-start)
