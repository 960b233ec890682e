-- The promises of decoding, from the answer and the buffer; and that they leave one of each. Assumes nothing.
use mathlib.Core.Path.{◌≡◌, sym, ap, ◌∙◌}
use mathlib.Core.List.{List}
use Prim.Native.Nat.{ℕ}
use lib.IntN.{ℤ}
use lib.ListN.{length}
use Rattle.little.specs.Writing.{holding}
use Rattle.little.proofs.Promise.{one_each}
use Rattle.decode.specs.Decoding.{decoding, block_decoding, file_sound, file_block, decoded_verdict, decoded_frames, decoded_number, Decoded}
use Rattle.decode.specs.Demands.{WholeTold, BlockTold, DecodeNumbered, BlockNumbered}
use Rattle.decode.specs.Promise.{DecodePromise, OneDecoding, BlockPromise, OneBlock}
use Rattle.decode.proofs.Demands.{whole-told, block-told, numbered, block-numbered}

module _ (s : List ℕ) (d : List ℤ) {r : Decoded} {e : List ℤ} where
  pub decode-kept : r ≡ decoding s (length d) → e ≡ holding (decoded_verdict r) (file_sound s) d → DecodePromise s d r e
  unfolding WholeTold DecodeNumbered
  decode-kept f g =
      record {
        answer = f;
        number = ap decoded_number f ∙ numbered s (length d);
        frames = λ n h. ap decoded_frames (sym h ∙ f) ∙ (whole-told s (length d) n (sym f ∙ h)).frames;
        buffer = g;
      }

  pub block-kept : (k : ℕ) → r ≡ block_decoding s k (length d) → e ≡ holding (decoded_verdict r) (file_block s k) d
      → BlockPromise s k d r e
  unfolding BlockTold BlockNumbered
  block-kept k f g =
      record {
        answer = f;
        number = ap decoded_number f ∙ block-numbered s k (length d);
        frames = λ n h. ap decoded_frames (sym h ∙ f) ∙ (block-told s k (length d) n (sym f ∙ h)).frames;
        buffer = g;
      }

pub one-decoding : OneDecoding
unfolding OneDecoding
one-decoding s d r r' e e' p q = one_each decoded_verdict (file_sound s) d p.answer q.answer p.buffer q.buffer

pub one_block : OneBlock
unfolding OneBlock
one_block s k d r r' e e' p q = one_each decoded_verdict (file_block s k) d p.answer q.answer p.buffer q.buffer
