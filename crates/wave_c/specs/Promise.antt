-- What each function of the C interface promises: one answer, with its number in document 01's terms, and one content of each lent
-- buffer. Assumes nothing.
use Rattle.std.specs.Prelude.{ℕ, ◌≡◌, not, cond, List, [], ◌∷◌, leb, ℤ, length}
use Rattle.little.specs.Writing.{holding}
use Rattle.units.specs.declared.Donation.{Donation}
use Rattle.units.specs.declared.Frames.{Frames}
use Rattle.units.specs.Refusals.{verdict_number}
use Rattle.units.specs.Checks.{number_or}
use Rattle.reader.specs.Content.{reading, sound_in, sound_start, texts_in}
use Rattle.writer.specs.File.{file_of, writing, written_verdict}
use Rattle.writer.specs.Promise.{write_number}
use Rattle.decode.specs.Decoding.{decoding, block_decoding, file_sound, file_block, decoded_verdict}
use Rattle.decode.specs.Demands.{decode_number, block_number}
use Rattle.encode.specs.Encoding.{encoded_bytes}
use Rattle.encode.specs.Answer.{encoding, encoded_verdict}
use Rattle.encode.specs.Demands.{encode_number}
use Rattle.side.specs.Adding.{new_file, adding, empty_side}
use Rattle.side.specs.Demands.{empty_number, add_number}
use Rattle.words.specs.Words.{record_words, record_from}
use Rattle.wave_c.specs.declared.Answer.{Answer}
use Rattle.wave_c.specs.declared.CodedAnswer.{CodedAnswer}
use Rattle.wave_c.specs.Interface.{answer_by, of_written, of_decoded, of_encoded, read_verdict, record_lent, words_valid, words_writing}
use Rattle.rules.specs.Rules.{record_in, reading_verdict}

-- the reader's number, or else 14 where a lent buffer has not n elements
abbrev pub read_number : ℕ → List ℕ → ℕ → ℕ
read_number n s room = number_or (reading_verdict (reading s)) (cond (not (leb n room)) 14 0)

-- `tronalhet_read`: of a file s, with lent words that held d and a lent buffer for texts that held t, the number r; the words then are
-- e and the buffer holds u
pub record CRead (s d t : List ℕ) (r : ℕ) (e u : List ℕ) : Type 0 where
  pub answer : r ≡ verdict_number (record_lent s (length d) (length t))
  pub number : r ≡ number_or (reading_verdict (reading s)) (cond (not (leb 906 (length d))) 14 (cond (not (leb (length (texts_in s)) (length t))) 14 0))
  pub words : e ≡ holding (record_lent s (length d) (length t)) (record_words (record_in (reading s))) d
  pub texts : u ≡ holding (record_lent s (length d) (length t)) (texts_in s) t

-- `tronalhet_sound`: the same with the number of the sound's bytes, and where they start
pub record CSound (s d : List ℕ) (r : Answer) (e : List ℕ) : Type 0 where
  pub answer : r ≡ answer_by (read_verdict 1 s (length d)) (length (sound_in s))
  pub number : r.refusal ≡ read_number 1 s (length d)
  pub buffer : e ≡ holding (read_verdict 1 s (length d)) (sound_start s ∷ []) d

-- `tronalhet_write`: of words w, the texts b of its titles and a sound s; 9 for words that are no record
pub record CWrite (w b s d : List ℕ) (r : Answer) (e : List ℕ) : Type 0 where
  pub answer : r ≡ of_written (words_writing w b s (length d))
  pub number : r.refusal ≡ cond (words_valid w) (write_number (record_from w) b s (length d)) 9
  pub buffer : e ≡ holding (written_verdict (words_writing w b s (length d))) (file_of (record_from w) b s) d

-- `tronalhet_decode`, `tronalhet_decode_block`
pub record CDecode (s : List ℕ) (d : List ℤ) (r : Answer) (e : List ℤ) : Type 0 where
  pub answer : r ≡ of_decoded (decoding s (length d))
  pub number : r.refusal ≡ decode_number s (length d)
  pub buffer : e ≡ holding (decoded_verdict (decoding s (length d))) (file_sound s) d

pub record CBlock (s : List ℕ) (k : ℕ) (d : List ℤ) (r : Answer) (e : List ℤ) : Type 0 where
  pub answer : r ≡ of_decoded (block_decoding s k (length d))
  pub number : r.refusal ≡ block_number s k (length d)
  pub buffer : e ≡ holding (decoded_verdict (block_decoding s k (length d))) (file_block s k) d

-- `tronalhet_encode`
pub record CEncode (s : List ℤ) (c a : ℕ) (d : List ℕ) (r : CodedAnswer) (e : List ℕ) : Type 0 where
  pub answer : r ≡ of_encoded (encoding s c a (length d))
  pub number : r.refusal ≡ encode_number s c a (length d)
  pub buffer : e ≡ holding (encoded_verdict (encoding s c a (length d))) (encoded_bytes c a s) d

-- `tronalhet_empty`, `tronalhet_add`
pub record CEmpty (channels rate : ℕ) (d : List ℕ) (r : Answer) (e : List ℕ) : Type 0 where
  pub answer : r ≡ of_written (writing (empty_side channels rate) [] [] (length d))
  pub number : r.refusal ≡ empty_number channels rate (length d)
  pub buffer : e ≡ holding (written_verdict (writing (empty_side channels rate) [] [] (length d))) (file_of (empty_side channels rate) [] []) d

pub record CAdd (s t : List ℕ) (number : Donation) (limit : Frames) (d : List ℕ) (r : Answer) (e : List ℕ) : Type 0 where
  pub answer : r ≡ of_written (adding s t number limit (length d))
  pub refusal : r.refusal ≡ add_number s t number limit (length d)
  pub buffer : e ≡ holding (written_verdict (adding s t number limit (length d))) (new_file s t number) d

-- ---- two answers with their buffers that keep a promise for the same input are the same
abbrev pub OneOf : {R A : Type 0} → (R → List A → Type 0) → Type 0
OneOf {R} {A} Promise = (r r' : R) (e e' : List A) → Promise r e → Promise r' e' → (r ≡ r') × (e ≡ e')

unfoldable pub OneEach : Type 0
OneEach =
    ((s d t : List ℕ) (r r' : ℕ) (e e' u u' : List ℕ) → CRead s d t r e u → CRead s d t r' e' u' → (r ≡ r') × (e ≡ e') × (u ≡ u'))
    × ((s d : List ℕ) → OneOf (CSound s d))
    × ((w b s d : List ℕ) → OneOf (CWrite w b s d))
    × ((s : List ℕ) (d : List ℤ) → OneOf (CDecode s d))
    × ((s : List ℕ) (k : ℕ) (d : List ℤ) → OneOf (CBlock s k d))
    × ((s : List ℤ) (c a : ℕ) (d : List ℕ) → OneOf (CEncode s c a d))
    × ((channels rate : ℕ) (d : List ℕ) → OneOf (CEmpty channels rate d))
    × ((s t : List ℕ) (number : Donation) (limit : Frames) (d : List ℕ) → OneOf (CAdd s t number limit d))
