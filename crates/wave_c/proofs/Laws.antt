-- Laws of the C interface, in the words of the code: answers as numbers, room, and words that are valid. Assumes nothing.
use mathlib.Core.Path.{◌≡◌, refl, sym, ap, ◌∙◌}
use mathlib.Core.Bool.{Bool, true, false, not, cond}
use mathlib.Core.List.{List, [], ◌∷◌}
use Prim.Native.Nat.{ℕ, ◌≤◌, ◌<◌}
use native.Mathlib.Omega.{arith}
use lib.Dec.{leb}
use lib.IntN.{ℤ}
use lib.ListN.{length, set}
use borrow.Author.Tests.{le-leb, lt-leb, leb-true, not-true, not-false}
use Rattle.little.specs.Writing.{front, holding}
use Rattle.little.proofs.Filling.{one_store, put_front}
use Rattle.units.specs.declared.BytePlace.{BytePlace}
use Rattle.units.specs.declared.Frames.{Frames}
use Rattle.units.specs.declared.Refusal.{Refusal}
use Rattle.units.specs.declared.Refusal.TheVariants.{FormatWrong, OutputTooSmall}
use Rattle.units.specs.Refusals.{number_of, verdict_number, Verdict}
use Rattle.units.specs.Checks.{decided, and_then}
use Rattle.lists.proofs.Laws.{and_both}
use Rattle.riff.specs.Walk.{part_of, start_of}
use Rattle.rules.specs.declared.Record.{Record}
use Rattle.reader.specs.Content.{reading, sound_spot, sound_in, sound_start, texts_in}
use Rattle.reader.proofs.Demands.{sound-placed}
use Rattle.reader.proofs.Titles.{few-titles, texts-end, untitled-taken}
use Rattle.writer.specs.File.{file_of, writing, written_verdict, Written}
use Rattle.decode.specs.Decoding as decodes
use Rattle.encode.specs.declared.Coded.{Coded}
use Rattle.encode.specs.Answer as encodes
use Rattle.words.specs.Words.{record_words, fields_fit, record_from}
use Rattle.wave_c.specs.declared.Answer.{Answer}
use Rattle.wave_c.specs.declared.CodedAnswer.{CodedAnswer}
use Rattle.wave_c.specs.Interface.{refused_by, done, answer_by, of_written, of_decoded, of_encoded, enough, read_verdict, room_for, record_lent, words_valid, words_writing}
use Rattle.decode.specs.Decoding.{Decoded}
use Rattle.encode.specs.Answer.{Encoded}
use Rattle.riff.specs.Chunks.{Spot}
use Rattle.std.specs.Prelude.{Err, Ok}
use Rattle.rules.specs.Rules.{record_in, reading_verdict, Reading}

-- ---- an answer that is the operation's, and the buffer as the operation leaves it
module _ {x y : Written} (e : x ≡ y) where
  pub written_held : (ys d : List ℕ) {z : List ℕ} → z ≡ holding (written_verdict x) ys d → z ≡ holding (written_verdict y) ys d
  written_held ys d f = f ∙ ap (λ (v : Written). holding (written_verdict v) ys d) e

-- ---- room for n elements
module _ (n room : ℕ) where
  module _ (h : room < n) where
    short : enough n room ≡ Err OutputTooSmall
    unfolding enough decided
    short = simp (lt-leb n room h)

    pub answer-short : (m : ℕ) {y : Answer} → y ≡ refused_by OutputTooSmall → y ≡ answer_by (enough n room) m
    answer-short m e = e ∙ ap (λ (v : Verdict). answer_by v m) (sym short)

    pub kept-short : {A : Type 0} (ys d : List A) → d ≡ holding (enough n room) ys d
    kept-short {A} ys d = ap (λ (v : Verdict). holding v ys d) (sym short)

  module _ (h : n ≤ room) where
    roomy : enough n room ≡ Ok tt
    unfolding enough decided
    roomy = simp (le-leb n room h)

    pub answer-roomy : (m : ℕ) {y : Answer} → y ≡ done m → y ≡ answer_by (enough n room) m
    answer-roomy m e = e ∙ ap (λ (v : Verdict). answer_by v m) (sym roomy)

    pub kept-roomy : {A : Type 0} (ys d : List A) {z : List A} → z ≡ front ys d → z ≡ holding (enough n room) ys d
    kept-roomy ys d e = e ∙ ap (λ (v : Verdict). holding v ys d) (sym roomy)

-- where the sound starts, in the first element
module _ (spot : Spot) (d : List ℕ) (h : 1 ≤ length d) where
  pub sound-counted : (s : List ℕ) {w : List ℕ} {y : Answer} → w ≡ part_of s spot [] → y ≡ done (length w)
      → y ≡ answer_by (enough 1 (length d)) (length (part_of s spot []))
  sound-counted s e f = answer-roomy 1 (length d) h (length (part_of s spot [])) (f ∙ ap (λ (w : List ℕ). done (length w)) e)

  pub start-put : {x : ℕ} → x ≡ start_of spot → set d 0 x ≡ holding (enough 1 (length d)) (start_of spot ∷ []) d
  start-put e = ap (set d 0) e ∙ kept-roomy 1 (length d) h (start_of spot ∷ []) d (put_front (one_store (omega arith)))

pub ruleset rooming =
    (answer-short, kept-short, answer-roomy, kept-roomy, sound-counted, start-put)

-- ---- the reader's refusals first
module _ (n : ℕ) (s : List ℕ) (room : ℕ) where
  module _ {r : Refusal} (f : reading s ≡ Err r) where
    turned : read_verdict n s room ≡ Err r
    unfolding read_verdict
    turned = ap (λ (x : Reading). and_then (reading_verdict x) (enough n room)) f

    pub answer-refused : (m : ℕ) {y : Answer} → y ≡ refused_by r → y ≡ answer_by (read_verdict n s room) m
    answer-refused m g = g ∙ ap (λ (v : Verdict). answer_by v m) (sym turned)

    pub kept-refused : {A : Type 0} (ys d : List A) → d ≡ holding (read_verdict n s room) ys d
    kept-refused ys d = ap (λ (v : Verdict). holding v ys d) (sym turned)

  module _ {m : Record} (f : reading s ≡ Ok m) where
    taken : enough n room ≡ read_verdict n s room
    unfolding read_verdict
    taken = ap (λ (x : Reading). and_then (reading_verdict x) (enough n room)) (sym f)

    module _ {spot : Spot} (h : spot ≡ sound_spot s) where
      pub sound-told : {y : Answer} → y ≡ answer_by (enough n room) (length (part_of s spot [])) → y ≡ answer_by (read_verdict n s room) (length (sound_in s))
      sound-told g =
          let p : length (part_of s spot []) ≡ length (sound_in s) = ap length (sound-placed s h refl) in
          g ∙ (λ i. answer_by (taken i) (p i))

      pub start-kept : (d : List ℕ) {z : List ℕ} → z ≡ holding (enough n room) (start_of spot ∷ []) d
          → z ≡ holding (read_verdict n s room) (sound_start s ∷ []) d
      unfolding sound_start
      start-kept d g = g ∙ (λ i. holding (taken i) (start_of (h i) ∷ []) d)

pub ruleset reading_first = (answer-refused, kept-refused, sound-told, start-kept)

-- ---- a record and the texts of its titles
-- a verdict's number, and the elements that are put by it
module _ {v : Verdict} {r : Refusal} (f : v ≡ Err r) where
  pub refused-number : {k : ℕ} → k ≡ number_of r → k ≡ verdict_number v
  refused-number g = g ∙ ap verdict_number (sym f)

  pub refused-kept : (ys d : List ℕ) → d ≡ holding v ys d
  refused-kept ys d = ap (λ (u : Verdict). holding u ys d) (sym f)

module _ {v : Verdict} (f : v ≡ Ok tt) where
  pub taken-number : 0 ≡ verdict_number v
  taken-number = ap verdict_number (sym f)

  pub taken-kept : (ys d : List ℕ) {z : List ℕ} → z ≡ front ys d → z ≡ holding v ys d
  taken-kept ys d g = g ∙ ap (λ (u : Verdict). holding u ys d) (sym f)

-- room for the words and for the texts
module _ (n words room : ℕ) where
  pub few_words : words < 906 → room_for n words room ≡ Err OutputTooSmall
  unfolding room_for decided
  few_words h = simp (lt-leb 906 words h)

  module _ (h : 906 ≤ words) where
    by-texts : room_for n words room ≡ cond (leb n room) (Ok tt) (Err OutputTooSmall)
    unfolding room_for decided
    by-texts = simp (le-leb 906 words h)

    module _ {b : Bool} (e : b ≡ leb n room) where
      by-told : room_for n words room ≡ cond b (Ok tt) (Err OutputTooSmall)
      by-told = by-texts ∙ ap (λ (c : Bool). cond c (Ok tt) (Err OutputTooSmall)) (sym e)

      pub room-short : not b ≡ true → room_for n words room ≡ Err OutputTooSmall
      room-short g = by-told ∙ simp (not-true b g)

      pub room-kept : not b ≡ true → (ys d : List ℕ) → d ≡ holding (room_for n words room) ys d
      room-kept g ys d = refused-kept (room-short g) ys d

      pub room-enough : not b ≡ false → room_for n words room ≡ Ok tt
      room-enough g = by-told ∙ simp (not-false b g)

      pub texts-lent : (ys d : List ℕ) {z : List ℕ} → z ≡ cond b (front ys d) d → z ≡ holding (room_for n words room) ys d
      texts-lent ys d g = g ∙ by b ∙ ap (λ (v : Verdict). holding v ys d) (sym by-told)
        where
          by : (c : Bool) → cond c (front ys d) d ≡ holding (cond c (Ok tt) (Err OutputTooSmall)) ys d
          by true = refl
          by false = refl

pub ruleset putting =
    (refused-number, refused-kept, taken-number, taken-kept, few_words, room-short, room-kept, room-enough, texts-lent, few-titles, texts-end, untitled-taken)

-- the reader's refusals first, here too
module _ (s : List ℕ) (words room : ℕ) where
  abbrev lent : Verdict
  lent = room_for (length (texts_in s)) words room

  pub record-refused : {r : Refusal} → reading s ≡ Err r → Err r ≡ record_lent s words room
  unfolding record_lent
  record-refused f = sym (ap (λ (x : Reading). and_then (reading_verdict x) lent) f)

  pub record-taken : {m : Record} → reading s ≡ Ok m → room_for (length (texts_in s)) words room ≡ record_lent s words room
  unfolding record_lent
  record-taken f = sym (ap (λ (x : Reading). and_then (reading_verdict x) lent) f)

pub ruleset record_read = (record-refused, record-taken)

-- ---- words for a record
module _ (w : List ℕ) where
  module _ {b : Bool} (e : b ≡ words_valid w) (f : not b ≡ false) where
    both : (leb 906 (length w) ≡ true) × (fields_fit w ≡ true)
    unfolding words_valid
    both = and_both (leb 906 (length w)) (fields_fit w) (sym e ∙ not-false b f)

  module _ (t s : List ℕ) (room : ℕ) {b : Bool} (e : b ≡ words_valid w) where
    module _ (f : not b ≡ true) where
      unfit : words_writing w t s room ≡ Err FormatWrong
      unfolding words_writing
      unfit = ap (λ (c : Bool). cond c (writing (record_from w) t s room) (Err FormatWrong)) (sym e ∙ not-true b f)

      pub words_left : (ys d : List ℕ) → d ≡ holding (written_verdict (words_writing w t s room)) ys d
      words_left ys d = ap (λ (v : Written). holding (written_verdict v) ys d) (sym unfit)

    module _ (f : not b ≡ false) {m : Record} (g : m ≡ record_from w) {x : Written} (h : x ≡ writing m t s room) where
      fit : x ≡ words_writing w t s room
      unfolding words_writing
      fit =
          h
          ∙ ap (λ (r : Record). writing r t s room) g
          ∙ ap (λ (c : Bool). cond c (writing (record_from w) t s room) (Err FormatWrong)) (sym (not-false b f) ∙ e)
