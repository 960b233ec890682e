-- Demand 2 of written files: each by what the file of a record holds, and by what the verdict on it says. Assumes nothing.
use mathlib.Core.Logic.{◌⊎◌, inl, inr}
use mathlib.Core.Path.{◌≡◌, refl, sym, ap, ◌∙◌, subst}
use mathlib.Core.Bool.{Bool, true, false, cond}
use mathlib.Core.List.{List, [], append-nil}
use Prim.Native.Nat.{ℕ, ◌+◌, ◌%◌, ◌≤◌, ◌<◌}
use native.Mathlib.Omega.{arith}
use lib.Dec.{leb}
use lib.ListN.{length, take}
use borrow.Author.Tests.{leb-true, leb-false, le-leb}
use Rattle.units.specs.declared.BytePlace.{BytePlace}
use Rattle.units.specs.declared.Refusal.{Refusal}
use Rattle.units.specs.declared.Refusal.TheVariants.{LengthOutOfRange, FormatWrong, FactWrong, OutputTooSmall, TitlesWrong}
use Rattle.units.specs.Refusals.{file_limit, verdict_number, Verdict}
use Rattle.units.specs.Checks.{decided, and_then, number_by}
use Rattle.units.proofs.Checks.{number-row}
use Rattle.riff.proofs.Walking.{whole-limit, too_long}
use Rattle.riff.specs.Laying.{given, pieces_of}
use Rattle.riff.proofs.Laying.{length-laid}
use Rattle.tables.specs.Cues.{names_in}
use Rattle.titles.specs.Titles.{Entry, entries_of, texts_of}
use Rattle.titles.specs.Writing.{list_bytes}
use Rattle.titles.proofs.Round.{round-texts, fault-said, no-entries, no-list, list-even}
use Rattle.rules.specs.declared.Record.{Record}
use Rattle.rules.specs.Rules.{record_checks, record_verdict, Writable, record_in, reading_verdict}
use Rattle.rules.specs.Written.{record_kept, RecordFits, FaultSaid}
use Rattle.rules.proofs.Taken.{record-keeps, record-taken}
use Rattle.rules.proofs.Back.{no-fault}
use Rattle.reader.specs.Content.{Content, holds, content_in, content_of, reading_of, sound_of, reading, sound_in, titles_in, texts_in}
use Rattle.reader.specs.Demands.{TitlesTold}
use Rattle.reader.proofs.Titles.{titles-told, texts-held, read_right}
use Rattle.reader.proofs.Kept.{held, content-taken, content-rules}
use Rattle.reader.proofs.Again.{content-fits, content-kept-read}
use Rattle.writer.specs.File.{titles_chunk, size_of, parts_of, file_of, right_titles, write_checks, settled, written_by, writing_by, writing, written_number}
use Rattle.writer.specs.Demands.{Back, Again, file_again, Same, SameNumber, WriteNumbered, Untitled}
use Rattle.writer.proofs.Settling.{Settled, settled-then, writing-by, told-long, settled_says}
pub use Rattle.writer.proofs.Settling.{bytes-say}
use Rattle.writer.proofs.Back.{ruled-back, titles-back, content-back, entries-back}
use Rattle.writer.proofs.Room.{not-longer}
use Rattle.writer.proofs.Sizes.{as_written}
use Rattle.riff.specs.Chunks.{Walked}
use Rattle.std.specs.Prelude.{Err, Ok}

-- ---- what an answer says of the verdict
module _ (x : Bool) (m : Record) (b w : List ℕ) (room : ℕ) where
  pub refused_says : (r : Refusal) → writing_by x m b w room ≡ Err r → settled x m b w room ≡ Err r
  unfolding writing_by
  refused_says r = by (settled x m b w room)
    where
      by : (v : Verdict) → written_by v (size_of (file_of m b w)) ≡ Err r → v ≡ Err r
      by (Ok _) e = let z : ◌≡◌ {A = ℕ} 0 1 = cc in absurd (omega arith)
      by (Err q) e = cc

-- ---- what is written reads back
module _ (m : Record) (b w : List ℕ) (room : ℕ) (n : BytePlace) (h : RecordFits m) (e : writing m b w room ≡ Ok n) where
  says : Settled (right_titles m b) m b w room
  says = settled_says (right_titles m b) m b w room (bytes-say (right_titles m b) m b w room n e)

  pub content-written : content_of (file_of m b w) ≡ holds (record_kept m) w
  content-written = content-back m b w h (no-fault says.rules) says.limit (record-taken says.rules) says.titles

  pub titles-written : titles_in (file_of m b w) ≡ entries_of b m.titles
  titles-written = entries-back m b w h (no-fault says.rules) says.limit (record-taken says.rules) says.titles

  texts-written : texts_in (file_of m b w) ≡ take (length (texts_in (file_of m b w))) b
  texts-written =
      let e = titles-written in
      subst (λ (es : List Entry). texts_of es ≡ take (length (texts_of es)) b) (sym e)
      (round-texts (names_in m.cues) b m.titles h.titles says.titles)

pub back : Back
unfolding Back reading sound_in
back m b w room n h e =
    let c = content-written m b w room n h e in
    record {
      long = told-long (right_titles m b) m b w room n e;
      verdict = ap (λ (x : Content). reading_verdict (reading_of x)) c;
      made = ap (λ (x : Content). record_in (reading_of x)) c;
      sound = ap sound_of c;
      titles = titles-written m b w room n h e;
      texts = texts-written m b w room n h e;
    }

-- ---- what is read is written again
pub accepted : (m : Record) (b w : List ℕ) (room : ℕ) → Writable m (size_of w) → right_titles m b ≡ true → length (file_of m b w) ≤ file_limit
    → length (file_of m b w) ≤ room → writing m b w room ≡ Ok (size_of (file_of m b w))
accepted m b w room k t l r =
    let file : ℕ = length (file_of m b w) in
    writing-by (right_titles m b) m b w room refl refl (record-taken k) (le-leb file file_limit l) (le-leb file room r) ∙ simp t

pub again : Again
unfolding Again
again s e =
    let m : Record = (record_in (reading s)) in
    let w : List ℕ = sound_in s in
    let c : holds m w ≡ content_of s = content-taken s refl e refl in
    let h = held s c in
    let n = not-longer s h.places h.walked h.format_there h.sound_there h.verdict (texts_in s) (texts-held s h) in
    let padded : ℕ = length s + length s % 2 in
    let f : length (file_of m (texts_in s) w) ≤ padded = subst (λ (k : ℕ). k ≤ padded) (λ i. length (file_of (h.made i) (texts_in s) (h.sound i))) n in
    let i = whole-limit s refl h.walked in
    record { written = λ room l. accepted m (texts_in s) w room (content-rules s c) (read_right s) (omega arith) l; not_longer = f }

-- ---- and read again it is the same
pub same-again : Same
unfolding Same Again reading sound_in TitlesTold
same-again s b e =
    let m : Record = (record_in (reading s)) in
    let w : List ℕ = sound_in s in
    let c : holds m w ≡ content_of s = content-taken s refl e refl in
    let n : ℕ = length (file_again s) in
    let g = (again s e).written n (omega arith) in
    let x : content_of (file_again s) ≡ content_of s =
    content-written m (texts_in s) w n (record { 0 = n }) (content-fits s c b) g
    ∙ ap (λ (y : Record). holds y w) (content-kept-read s c)
    ∙ c in
    let told : entries_of (texts_in s) m.titles ≡ titles_in s = ap (λ (y : List ℕ). entries_of y m.titles) (sym (append-nil (texts_in s))) ∙ titles-told s [] in
    record {
      read = ap reading_of x;
      sound = ap sound_of x;
      titles = titles-written m (texts_in s) w n (record { 0 = n }) (content-fits s c b) g ∙ told;
    }

-- ---- a refusal is the number that reading gives
same : (q r : Refusal) → ◌≡◌ {A = Verdict} (Err q) (Err r) → q ≡ r
same q r e = cc

-- within the limit, a refusal for something other than room is the rules', or that of the titles where the rules accept
ruled : (x : Bool) (m : Record) (b w : List ℕ) (room : ℕ) (r : Refusal) → length (file_of m b w) ≤ file_limit → (r ≡ OutputTooSmall → ⊥)
    → settled x m b w room ≡ Err r
    → (record_verdict m (size_of w) ≡ Err r) ⊎ ((record_verdict m (size_of w) ≡ Ok tt) × (x ≡ false) × (r ≡ TitlesWrong))
unfolding decided
ruled x m b w room r l n e =
    by (record_verdict m (size_of w)) x (leb file file_limit) (leb file room) (le-leb file file_limit l) (sym (settled-then x m b w room) ∙ e)
  where
    file : ℕ
    file = length (file_of m b w)

    by : (v : Verdict) (t y z : Bool) → y ≡ true
        → and_then v (cond t (cond y (cond z (Ok tt) (Err OutputTooSmall)) (Err LengthOutOfRange)) (Err TitlesWrong)) ≡ Err r
        → (v ≡ Err r) ⊎ ((v ≡ Ok tt) × (t ≡ false) × (r ≡ TitlesWrong))
    by (Err q) t y z g e = inl e
    by (Ok _) false y z g e = inr (refl, refl, sym (same TitlesWrong r e))
    by (Ok _) true true true g e = let z : ◌≡◌ {A = ℕ} 0 1 = cc in absurd (omega arith)
    by (Ok _) true true false g e = absurd (n (sym (same OutputTooSmall r e)))
    by (Ok _) true false z g e = let z : ◌≡◌ {A = ℕ} 0 1 = cc in absurd (omega arith)

-- the list of a file within the limit is within it; where it is left out, it is its four letters
list-within : (m : Record) (b w : List ℕ) → length (file_of m b w) ≤ file_limit → length (list_bytes (entries_of b m.titles)) ≤ file_limit
unfolding file_of parts_of
list-within m b w l = by (leb 1 m.titles.count) refl
  where
    by : (x : Bool) → leb 1 m.titles.count ≡ x → length (list_bytes (entries_of b m.titles)) ≤ file_limit
    by true e =
        let n = as_written (titles_chunk b m.titles) {x = true} {k = 8 + length (list_bytes (entries_of b m.titles))} (sym e) refl (list-even (entries_of b m.titles)) refl in
        omega (arith, n, length-laid (parts_of m b w))
    by false e =
        let n = ap (λ (es : List Entry). length (list_bytes es)) (no-entries b m.titles (leb-false 1 m.titles.count e)) in
        omega (arith, n, no-list)

reading-long : (s : List ℕ) → file_limit < length s → reading_verdict (reading s) ≡ Err LengthOutOfRange
unfolding reading content_of
reading-long s h = ap (λ (x : Walked). reading_verdict (reading_of (content_in s x))) (too_long s h)

pub same_number : SameNumber
unfolding SameNumber reading
same_number m b w room r h k e = by (leb (length (file_of m b w)) file_limit) refl
  where
    at : length (file_of m b w) ≤ file_limit
        → (record_verdict m (size_of w) ≡ Err r) ⊎ ((record_verdict m (size_of w) ≡ Ok tt) × (right_titles m b ≡ false) × (r ≡ TitlesWrong))
        → reading_verdict (reading (file_of m b w)) ≡ Err r
    at l (inl v) =
        let c : FaultSaid m (size_of w) =
        record { format = λ x. k.format (same r FormatWrong (sym v ∙ x)); frames = λ x. k.frames (same r FactWrong (sym v ∙ x)) } in
        ap (λ (x : Content). reading_verdict (reading_of x)) (ruled-back m b w h c l v)
    at l (inr p) =
        let c : FaultSaid m (size_of w) = no-fault (record-keeps m (size_of w) p.0) in
        let f = fault-said (names_in m.cues) b m.titles h.titles (k.titles p.2) (list-within m b w l) p.1 in
        ap (λ (x : Content). reading_verdict (reading_of x)) (titles-back m b w h c l p.0 f) ∙ ap Err (sym p.2)

    by : (y : Bool) → leb (length (file_of m b w)) file_limit ≡ y → reading_verdict (reading (file_of m b w)) ≡ Err r
    by true t =
        let l = leb-true (length (file_of m b w)) file_limit t in
        at l (ruled (right_titles m b) m b w room r l k.room (refused_says (right_titles m b) m b w room r e))
    by false t =
        let l = leb-false (length (file_of m b w)) file_limit t in
        reading-long (file_of m b w) l ∙ ap Err (sym (k.limit l))

-- ---- each check is a row of the table
answer-row : (v : Verdict) (n : BytePlace) → written_number (written_by v n) ≡ verdict_number v
answer-row (Ok _) n = refl
answer-row (Err r) n = refl

pub numbered : WriteNumbered
unfolding WriteNumbered writing_by write_checks record_checks number_by
numbered m b w room =
    answer-row (settled (right_titles m b) m b w room) (size_of (file_of m b w)) ∙ number-row (write_checks (right_titles m b) m b w room)

-- ---- without titles the list is not written
pub untitled : Untitled
unfolding Untitled file_of parts_of pieces_of given
untitled m b w e = simp e
