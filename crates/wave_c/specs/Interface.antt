-- What the functions of the C interface answer. Assumes nothing.
use Rattle.std.specs.Prelude.{ℕ, Bool, cond, ◌&&◌, List, [], ◌∷◌, leb, length, Err, Ok}
use Rattle.units.specs.declared.Refusal.{Refusal}
use Rattle.units.specs.declared.Refusal.TheVariants.{FormatWrong, OutputTooSmall}
use Rattle.units.specs.Refusals.{number_of, Verdict}
use Rattle.units.specs.Checks.{check, decided, and_then}
use Rattle.reader.specs.Content.{reading, texts_in}
use Rattle.writer.specs.File.{writing, Written}
use Rattle.words.specs.Words.{fields_fit, record_from}
use Rattle.wave_c.specs.declared.Answer.{Answer}
use Rattle.wave_c.specs.declared.CodedAnswer.{CodedAnswer}
use Rattle.decode.specs.Decoding.{Decoded}
use Rattle.encode.specs.Answer.{Encoded}
use Rattle.rules.specs.Rules.{reading_verdict}

-- ---- answers: the refusal's number and nothing else, or 0 and what is told

abbrev pub refused_by : Refusal → Answer
refused_by r = record { refusal = number_of r; n = 0 }

abbrev pub done : ℕ → Answer
done n = record { refusal = 0; n = n }

abbrev pub answer_by : Verdict → ℕ → Answer
answer_by (Ok _) n = done n
answer_by (Err r) n = refused_by r

abbrev pub of_written : Written → Answer
of_written (Ok n) = done n.0
of_written (Err r) = refused_by r

abbrev pub of_decoded : Decoded → Answer
of_decoded (Ok n) = done n.0
of_decoded (Err r) = refused_by r

abbrev pub of_encoded : Encoded → CodedAnswer
of_encoded (Ok w) = record { refusal = 0; left = w.left.0; right = w.right.0; n = w.bytes.0 }
of_encoded (Err r) = record { refusal = number_of r; left = 0; right = 0; n = 0 }

-- ---- reading

-- 14, where a lent buffer has not n elements
unfoldable pub enough : ℕ → ℕ → Verdict
enough n room = decided (check (leb n room) OutputTooSmall ∷ [])

-- the reader's refusals 1 to 13 and 21, then 14
unfoldable pub read_verdict : ℕ → List ℕ → ℕ → Verdict
read_verdict n s room = and_then (reading_verdict (reading s)) (enough n room)

-- the same of a record and of the texts of its titles: 14 where there is not room for both
unfoldable pub room_for : ℕ → ℕ → ℕ → Verdict
room_for texts words room = decided (check (leb 906 words) OutputTooSmall ∷ check (leb texts room) OutputTooSmall ∷ [])

unfoldable pub record_lent : List ℕ → ℕ → ℕ → Verdict
record_lent s words room = and_then (reading_verdict (reading s)) (room_for (length (texts_in s)) words room)

-- ---- writing

-- 906 words at least, each of which fits its field
unfoldable pub words_valid : List ℕ → Bool
words_valid w = leb 906 (length w) && fields_fit w

-- 9 for words that are not; else the record that they say is written
unfoldable pub words_writing : List ℕ → List ℕ → List ℕ → ℕ → Written
words_writing w b s room = cond (words_valid w) (writing (record_from w) b s room) (Err FormatWrong)
