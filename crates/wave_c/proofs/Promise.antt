-- The promises of the C functions, from the clauses of their contracts: the number of an answer is the operation's. And they leave one
-- answer and one content of each buffer. Assumes nothing.
use mathlib.Core.Path.{◌≡◌, refl, sym, ap, ◌∙◌}
use mathlib.Core.Bool.{Bool, true, false, not, cond}
use mathlib.Core.List.{List, [], ◌∷◌}
use Prim.Native.Nat.{ℕ}
use lib.Dec.{leb}
use lib.IntN.{ℤ}
use lib.ListN.{length}
use Rattle.little.specs.Writing.{holding}
use Rattle.units.specs.declared.Donation.{Donation}
use Rattle.units.specs.declared.Frames.{Frames}
use Rattle.units.specs.declared.Refusal.TheVariants.{FormatWrong}
use Rattle.units.specs.Refusals.{verdict_number, Verdict}
use Rattle.units.specs.Checks.{number_by, number_or}
use Rattle.units.proofs.Checks.{number-row, number-then}
use Rattle.reader.specs.Content.{reading, sound_in, sound_start, texts_in}
use Rattle.writer.specs.File.{file_of, writing, written_verdict, written_number, Written}
use Rattle.writer.specs.Promise.{write_number}
use Rattle.writer.specs.Demands.{WriteNumbered}
use Rattle.writer.proofs.Demands as written-proofs
use Rattle.decode.specs.Decoding.{decoding, block_decoding, file_sound, file_block, decoded_verdict, decoded_number, Decoded}
use Rattle.decode.specs.Demands.{DecodeNumbered, BlockNumbered}
use Rattle.decode.proofs.Demands as decoded-proofs
use Rattle.encode.specs.Encoding.{encoded_bytes}
use Rattle.encode.specs.Answer.{encoding, encoded_verdict, encoded_number, Encoded}
use Rattle.encode.specs.Demands.{EncodeNumbered}
use Rattle.encode.proofs.Demands as encoded-proofs
use Rattle.side.specs.Adding.{new_file, adding, empty_side}
use Rattle.side.specs.Demands.{EmptyNumbered, AddNumbered}
use Rattle.side.proofs.EmptySide.{empty-numbered}
use Rattle.side.proofs.Rows as side-proofs
use Rattle.words.specs.Words.{record_words, record_from}
use Rattle.wave_c.specs.declared.Answer.{Answer}
use Rattle.wave_c.specs.declared.CodedAnswer.{CodedAnswer}
use Rattle.wave_c.specs.Interface.{answer_by, of_written, of_decoded, of_encoded, enough, read_verdict, room_for, record_lent, words_valid, words_writing}
use Rattle.wave_c.specs.Promise.{read_number, CRead, CSound, CWrite, CDecode, CBlock, CEncode, CEmpty, CAdd, OneEach}
use Rattle.std.specs.Prelude.{Err, Ok}
use Rattle.rules.specs.Rules.{record_in, reading_verdict}

-- ---- the number of an answer is that of the operation
by-verdict : (v : Verdict) (n : ℕ) → (answer_by v n).refusal ≡ verdict_number v
by-verdict (Ok _) n = refl
by-verdict (Err r) n = refl

by_written : (x : Written) → (of_written x).refusal ≡ written_number x
by_written (Ok n) = refl
by_written (Err r) = refl

by-decoded : (x : Decoded) → (of_decoded x).refusal ≡ decoded_number x
by-decoded (Ok n) = refl
by-decoded (Err r) = refl

by-encoded : (x : Encoded) → (of_encoded x).refusal ≡ encoded_number x
by-encoded (Ok w) = refl
by-encoded (Err r) = refl

read-row : (n : ℕ) (s : List ℕ) (room : ℕ) → verdict_number (read_verdict n s room) ≡ read_number n s room
unfolding read_verdict enough number_by
read-row n s room = number-then (reading_verdict (reading s)) (enough n room) ∙ ap (number_or (reading_verdict (reading s))) (number-row _)

words_row : (w b s : List ℕ) (room : ℕ) → written_number (words_writing w b s room) ≡ cond (words_valid w) (write_number (record_from w) b s room) 9
unfolding words_writing WriteNumbered
words_row w b s room = by (words_valid w)
  where
    by : (x : Bool) → written_number (cond x (writing (record_from w) b s room) (Err FormatWrong)) ≡ cond x (write_number (record_from w) b s room) 9
    by true = written-proofs.numbered (record_from w) b s room
    by false = refl

-- ---- the promises, each of the clauses of its function
abbrev refusal_of : Answer → ℕ
refusal_of r = r.refusal

record-row : (s : List ℕ) (words room : ℕ)
    → verdict_number (record_lent s words room)
    ≡ number_or (reading_verdict (reading s)) (cond (not (leb 906 words)) 14 (cond (not (leb (length (texts_in s)) room)) 14 0))
unfolding record_lent room_for number_by
record-row s words room =
    number-then (reading_verdict (reading s)) (room_for (length (texts_in s)) words room) ∙ ap (number_or (reading_verdict (reading s))) (number-row _)

pub c_read : (s d t : List ℕ) {r : ℕ} {e u : List ℕ} → r ≡ verdict_number (record_lent s (length d) (length t))
    → e ≡ holding (record_lent s (length d) (length t)) (record_words (record_in (reading s))) d
    → u ≡ holding (record_lent s (length d) (length t)) (texts_in s) t → CRead s d t r e u
c_read s d t f g h = record { answer = f; number = f ∙ record-row s (length d) (length t); words = g; texts = h }

pub c-sound : (s d : List ℕ) {r : Answer} {e : List ℕ} → r ≡ answer_by (read_verdict 1 s (length d)) (length (sound_in s))
    → e ≡ holding (read_verdict 1 s (length d)) (sound_start s ∷ []) d → CSound s d r e
c-sound s d f g =
    record {
      answer = f;
      number = ap refusal_of f ∙ by-verdict (read_verdict 1 s (length d)) (length (sound_in s)) ∙ read-row 1 s (length d);
      buffer = g;
    }

pub c-write : (w b s d : List ℕ) {r : Answer} {e : List ℕ} → r ≡ of_written (words_writing w b s (length d))
    → e ≡ holding (written_verdict (words_writing w b s (length d))) (file_of (record_from w) b s) d → CWrite w b s d r e
c-write w b s d f g =
    record { answer = f; number = ap refusal_of f ∙ by_written (words_writing w b s (length d)) ∙ words_row w b s (length d); buffer = g }

module _ (s : List ℕ) (d : List ℤ) {r : Answer} {e : List ℤ} where
  pub c-decode : r ≡ of_decoded (decoding s (length d)) → e ≡ holding (decoded_verdict (decoding s (length d))) (file_sound s) d → CDecode s d r e
  unfolding DecodeNumbered
  c-decode f g =
      record { answer = f; number = ap refusal_of f ∙ by-decoded (decoding s (length d)) ∙ decoded-proofs.numbered s (length d); buffer = g }

  pub c-block : (k : ℕ) → r ≡ of_decoded (block_decoding s k (length d))
      → e ≡ holding (decoded_verdict (block_decoding s k (length d))) (file_block s k) d → CBlock s k d r e
  unfolding BlockNumbered
  c-block k f g =
      record {
        answer = f;
        number = ap refusal_of f ∙ by-decoded (block_decoding s k (length d)) ∙ decoded-proofs.block-numbered s k (length d);
        buffer = g;
      }

pub c-encode : (s : List ℤ) (c a : ℕ) (d : List ℕ) {r : CodedAnswer} {e : List ℕ} → r ≡ of_encoded (encoding s c a (length d))
    → e ≡ holding (encoded_verdict (encoding s c a (length d))) (encoded_bytes c a s) d → CEncode s c a d r e
unfolding EncodeNumbered
c-encode s c a d f g =
    record {
      answer = f;
      number = ap (λ (x : CodedAnswer). x.refusal) f ∙ by-encoded (encoding s c a (length d)) ∙ encoded-proofs.numbered s c a (length d);
      buffer = g;
    }

pub c-empty : (channels rate : ℕ) (d : List ℕ) {r : Answer} {e : List ℕ} → r ≡ of_written (writing (empty_side channels rate) [] [] (length d))
    → e ≡ holding (written_verdict (writing (empty_side channels rate) [] [] (length d))) (file_of (empty_side channels rate) [] []) d
    → CEmpty channels rate d r e
unfolding EmptyNumbered
c-empty channels rate d f g =
    record {
      answer = f;
      number = ap refusal_of f ∙ by_written (writing (empty_side channels rate) [] [] (length d)) ∙ empty-numbered channels rate (length d);
      buffer = g;
    }

pub c-add : (s t : List ℕ) (number : Donation) (limit : Frames) (d : List ℕ) {r : Answer} {e : List ℕ}
    → r ≡ of_written (adding s t number limit (length d))
    → e ≡ holding (written_verdict (adding s t number limit (length d))) (new_file s t number) d → CAdd s t number limit d r e
unfolding AddNumbered
c-add s t number limit d f g =
    record {
      answer = f;
      refusal = ap refusal_of f ∙ by_written (adding s t number limit (length d)) ∙ side-proofs.numbered s t number limit (length d);
      buffer = g;
    }

-- ---- one answer and one buffer
pub one_each : OneEach
unfolding OneEach
one_each = (
  λ s d t r r' e e' u u' p q. (p.answer ∙ sym q.answer, p.words ∙ sym q.words, p.texts ∙ sym q.texts),
  λ s d r r' e e' p q. (p.answer ∙ sym q.answer, p.buffer ∙ sym q.buffer),
  λ w b s d r r' e e' p q. (p.answer ∙ sym q.answer, p.buffer ∙ sym q.buffer),
  λ s d r r' e e' p q. (p.answer ∙ sym q.answer, p.buffer ∙ sym q.buffer),
  λ s k d r r' e e' p q. (p.answer ∙ sym q.answer, p.buffer ∙ sym q.buffer),
  λ s c a d r r' e e' p q. (p.answer ∙ sym q.answer, p.buffer ∙ sym q.buffer),
  λ channels rate d r r' e e' p q. (p.answer ∙ sym q.answer, p.buffer ∙ sym q.buffer),
  λ s t number limit d r r' e e' p q. (p.answer ∙ sym q.answer, p.buffer ∙ sym q.buffer),
)
