-- What encoding promises: one answer, with its number and its values in document 01's terms, and one content of the lent buffer.
-- Assumes nothing.
use Rattle.std.specs.Prelude.{ℕ, ◌≡◌, List, ℤ, length, Ok}
use Rattle.little.specs.Writing.{holding}
use Rattle.encode.specs.declared.Coded.{Coded}
use Rattle.encode.specs.Encoding.{encoded_bytes}
use Rattle.encode.specs.Answer.{coded_of, encoding, encoded_verdict, encoded_number, Encoded}
use Rattle.encode.specs.Demands.{encode_number}

-- of a sound s of c channels in blocks of align a, with a lent buffer that held d: the answer r, and the buffer then holds e
pub record EncodePromise (s : List ℤ) (c a : ℕ) (d : List ℕ) (r : Encoded) (e : List ℕ) : Type 0 where
  pub answer : r ≡ encoding s c a (length d)
  pub number : encoded_number r ≡ encode_number s c a (length d)
  pub coded : (w : Coded) → r ≡ Ok w → w ≡ coded_of c a s
  pub buffer : e ≡ holding (encoded_verdict r) (encoded_bytes c a s) d

unfoldable pub OneEncoding : Type 0
OneEncoding =
    (s : List ℤ) (c a : ℕ) (d : List ℕ) (r r' : Encoded) (e e' : List ℕ) → EncodePromise s c a d r e → EncodePromise s c a d r' e'
    → (r ≡ r') × (e ≡ e')
