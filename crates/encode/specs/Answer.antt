-- The answer of encoding, and its verdict. Assumes nothing.
use Rattle.std.specs.Prelude.{ℕ, List, ℤ, length, Result, Ok, Err}
use Rattle.units.specs.Refusals.{verdict_number, Verdict}
use Rattle.encode.specs.declared.Coded.{Coded}
use Rattle.units.specs.declared.Refusal.{Refusal}
use Rattle.encode.specs.Encoding.{encoded_bytes, chased_count, encode_verdict}

-- what encoding answers: the blocks, or the refusal
abbrev pub Encoded : Type 0
Encoded = Result Coded Refusal

-- what was written: the number of bytes, and the chased samples of left and right
unfoldable pub coded_of : ℕ → ℕ → List ℤ → Coded
coded_of c a s =
    record {
      bytes = record { 0 = length (encoded_bytes c a s) };
      left = record { 0 = chased_count c a s 0 };
      right = record { 0 = chased_count c a s 1 };
    }

-- the answer that a verdict gives
abbrev pub encoded_by : Verdict → Coded → Encoded
encoded_by (Ok _) w = Ok w
encoded_by (Err r) w = Err r

-- the answer of encoding s, with room for so many bytes
unfoldable pub encoding : List ℤ → ℕ → ℕ → ℕ → Encoded
encoding s c a room = encoded_by (encode_verdict (length s) c a room) (coded_of c a s)

-- the verdict that an answer tells, and its number: 0 where the blocks are written
abbrev pub encoded_verdict : Encoded → Verdict
encoded_verdict (Ok w) = Ok tt
encoded_verdict (Err r) = Err r

abbrev pub encoded_number : Encoded → ℕ
encoded_number x = verdict_number (encoded_verdict x)
