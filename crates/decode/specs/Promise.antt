-- What decoding promises: one answer, with its number and its frames in document 01's terms, and one content of the lent buffer.
-- Assumes nothing.
use Rattle.std.specs.Prelude.{ℕ, ◌≡◌, List, ℤ, length, Ok}
use Rattle.little.specs.Writing.{holding}
use Rattle.units.specs.declared.Frames as units
use Rattle.reader.specs.Content.{file_frames}
use Rattle.decode.specs.Decoding.{decoding, block_decoding, file_sound, file_block, decoded_verdict, decoded_number, Decoded}
use Rattle.decode.specs.Demands.{block_frames_of, decode_number, block_number}

-- `decode`: of a file s, with a lent buffer that held d, the answer r, and the buffer then holds e
pub record DecodePromise (s : List ℕ) (d : List ℤ) (r : Decoded) (e : List ℤ) : Type 0 where
  pub answer : r ≡ decoding s (length d)
  pub number : decoded_number r ≡ decode_number s (length d)
  pub frames : (n : units.Frames) → r ≡ Ok n → n.0 ≡ file_frames s
  pub buffer : e ≡ holding (decoded_verdict r) (file_sound s) d

unfoldable pub OneDecoding : Type 0
OneDecoding =
    (s : List ℕ) (d : List ℤ) (r r' : Decoded) (e e' : List ℤ) → DecodePromise s d r e → DecodePromise s d r' e'
    → (r ≡ r') × (e ≡ e')

-- `decode_block`: the same of block k
pub record BlockPromise (s : List ℕ) (k : ℕ) (d : List ℤ) (r : Decoded) (e : List ℤ) : Type 0 where
  pub answer : r ≡ block_decoding s k (length d)
  pub number : decoded_number r ≡ block_number s k (length d)
  pub frames : (n : units.Frames) → r ≡ Ok n → n.0 ≡ block_frames_of s
  pub buffer : e ≡ holding (decoded_verdict r) (file_block s k) d

unfoldable pub OneBlock : Type 0
OneBlock =
    (s : List ℕ) (k : ℕ) (d : List ℤ) (r r' : Decoded) (e e' : List ℤ) → BlockPromise s k d r e → BlockPromise s k d r' e'
    → (r ≡ r') × (e ≡ e')
