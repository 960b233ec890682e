-- The promises of adding and of an empty side, from the answer and the buffer; and that they leave one of each. Assumes nothing.
use mathlib.Core.Path.{◌≡◌, sym, ap, ◌∙◌}
use mathlib.Core.List.{List, []}
use Prim.Native.Nat.{ℕ}
use native.Mathlib.Omega.{arith}
use lib.ListN.{length}
use Rattle.little.specs.Writing.{holding}
use Rattle.little.proofs.Promise.{one_each}
use Rattle.units.specs.declared.BytePlace.{BytePlace}
use Rattle.units.specs.declared.Donation.{Donation}
use Rattle.units.specs.declared.Frames.{Frames}
use Rattle.reader.specs.Content.{reading, sound_in, texts_in}
use Rattle.writer.specs.File.{file_of, right_titles, writing, written_verdict, written_number, Written}
use Rattle.writer.proofs.Settling.{told-long}
use Rattle.side.specs.Adding.{add_verdict, new_record, new_sound, new_file, added_by, adding, empty_side}
use Rattle.side.specs.Demands.{EmptyNumbered, AddNumbered}
use Rattle.side.specs.Promise.{AddPromise, OneAdding, EmptyPromise, OneEmpty}
use Rattle.side.proofs.EmptySide.{empty-numbered}
use Rattle.side.proofs.Rows.{numbered}
use Rattle.units.specs.Refusals.{Verdict}
use Rattle.std.specs.Prelude.{Err, Ok}

-- where a song is added, the answer is writing's
passed : (v : Verdict) {x : Written} {n : BytePlace} → added_by v x ≡ Ok n → x ≡ Ok n
passed (Ok _) e = e
passed (Err r) e = let z : ◌≡◌ {A = ℕ} 0 1 = cc in absurd (omega arith)

pub add_kept : (s t : List ℕ) (number : Donation) (limit : Frames) (d : List ℕ) {r : Written} {e : List ℕ}
    → r ≡ adding s t number limit (length d) → e ≡ holding (written_verdict r) (new_file s t number) d → AddPromise s t number limit d r e
unfolding AddNumbered adding new_file
add_kept s t number limit d f g =
    record {
      answer = f;
      refusal = ap written_number f ∙ numbered s t number limit (length d);
      size = λ n h.
          ap (λ (x : BytePlace). x.0)
          (told-long (right_titles (new_record s t number) (texts_in s)) (new_record s t number) (texts_in s) (new_sound s t) (length d) n
          (passed (add_verdict (reading s) (sound_in s) (reading t) (sound_in t) number limit) (sym f ∙ h)));
      buffer = g;
    }

pub one-adding : OneAdding
unfolding OneAdding
one-adding s t number limit d r r' e e' p q =
    one_each written_verdict (new_file s t number) d p.answer q.answer p.buffer q.buffer

pub empty-kept : (channels rate : ℕ) (d : List ℕ) {r : Written} {e : List ℕ} → r ≡ writing (empty_side channels rate) [] [] (length d)
    → e ≡ holding (written_verdict r) (file_of (empty_side channels rate) [] []) d → EmptyPromise channels rate d r e
unfolding EmptyNumbered
empty-kept channels rate d f g =
    record {
      answer = f;
      number = ap written_number f ∙ empty-numbered channels rate (length d);
      size = λ n h. ap (λ (x : BytePlace). x.0) (told-long (right_titles (empty_side channels rate) []) (empty_side channels rate) [] [] (length d) n (sym f ∙ h));
      buffer = g;
    }

pub one-empty : OneEmpty
unfolding OneEmpty
one-empty channels rate d r r' e e' p q =
    one_each written_verdict (file_of (empty_side channels rate) [] []) d p.answer q.answer p.buffer q.buffer
