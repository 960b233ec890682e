-- The promise of writing, from the answer and the buffer; and that it leaves one of each. Assumes nothing.
use mathlib.Core.Path.{◌≡◌, sym, ap, ◌∙◌}
use mathlib.Core.List.{List}
use Prim.Native.Nat.{ℕ}
use lib.ListN.{length}
use Rattle.little.specs.Writing.{holding}
use Rattle.little.proofs.Promise.{one_each}
use Rattle.units.specs.declared.BytePlace.{BytePlace}
use Rattle.rules.specs.declared.Record.{Record}
use Rattle.writer.specs.File.{file_of, right_titles, writing, written_verdict, written_number, Written}
use Rattle.writer.specs.Promise.{WritePromise, OneWriting}
use Rattle.writer.specs.Demands.{WriteNumbered}
use Rattle.writer.proofs.Settling.{told-long}
use Rattle.writer.proofs.Demands.{numbered}

pub write_kept : (m : Record) (b w d : List ℕ) {r : Written} {e : List ℕ} → r ≡ writing m b w (length d)
    → e ≡ holding (written_verdict r) (file_of m b w) d → WritePromise m b w d r e
unfolding WriteNumbered
write_kept m b w d f g =
    record {
      answer = f;
      number = ap written_number f ∙ numbered m b w (length d);
      size = λ n h. ap (λ (x : BytePlace). x.0) (told-long (right_titles m b) m b w (length d) n (sym f ∙ h));
      buffer = g;
    }

pub one-writing : OneWriting
unfolding OneWriting
one-writing m b w d r r' e e' p q = one_each written_verdict (file_of m b w) d p.answer q.answer p.buffer q.buffer
