-- The promise of encoding, from the answer and the buffer; and that it leaves one of each. Assumes nothing.
use mathlib.Core.Path.{◌≡◌, sym, ap, ◌∙◌}
use mathlib.Core.List.{List}
use Prim.Native.Nat.{ℕ}
use lib.IntN.{ℤ}
use lib.ListN.{length}
use Rattle.little.specs.Writing.{holding}
use Rattle.little.proofs.Promise.{one_each}
use Rattle.encode.specs.Encoding.{encoded_bytes, encode_verdict}
use Rattle.encode.specs.Answer.{encoding, encoded_verdict, encoded_number, Encoded}
use Rattle.encode.specs.Demands.{EncodeNumbered}
use Rattle.encode.specs.Promise.{EncodePromise, OneEncoding}
use Rattle.encode.proofs.Demands.{accepted, numbered}

pub encode-kept : (s : List ℤ) (c a : ℕ) (d : List ℕ) {r : Encoded} {e : List ℕ} → r ≡ encoding s c a (length d)
    → e ≡ holding (encoded_verdict r) (encoded_bytes c a s) d → EncodePromise s c a d r e
unfolding EncodeNumbered encoding
encode-kept s c a d f g =
    record {
      answer = f;
      number = ap encoded_number f ∙ numbered s c a (length d);
      coded = λ w h. sym (accepted (encode_verdict (length s) c a (length d)) (sym f ∙ h)).1;
      buffer = g;
    }

pub one-encoding : OneEncoding
unfolding OneEncoding
one-encoding s c a d r r' e e' p q = one_each encoded_verdict (encoded_bytes c a s) d p.answer q.answer p.buffer q.buffer
