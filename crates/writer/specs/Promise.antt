-- What writing promises: one answer, with its number and its value in document 01's terms, and one content of the lent buffer.
-- Assumes nothing.
use Rattle.std.specs.Prelude.{ℕ, ◌≡◌, not, cond, List, leb, length, Ok}
use Rattle.little.specs.Writing.{holding}
use Rattle.units.specs.Refusals.{file_limit}
use Rattle.units.specs.declared.BytePlace.{BytePlace}
use Rattle.formats.specs.Format.{format_rule}
use Rattle.formats.specs.Frames.{whole_blocks, frames_rule}
use Rattle.tables.specs.Cues.{cues_rule}
use Rattle.tables.specs.Plays.{plays_rule}
use Rattle.rules.specs.declared.Record.{Record}
use Rattle.writer.specs.File.{size_of, file_of, right_titles, writing, written_verdict, written_number, Written}

-- the number, in the order of checks and the numbers of document 01; 0 where the file is written
abbrev pub write_number : Record → List ℕ → List ℕ → ℕ → ℕ
write_number m b w room =
    cond (not (format_rule m.format)) 9
    (cond (not (whole_blocks m.format (size_of w))) 10
    (cond (not (frames_rule m.format (size_of w) m.frames)) 11
    (cond (not (cues_rule m.cues m.frames)) 12
    (cond (not (plays_rule m.playlist m.cues m.frames)) 13
    (cond (not (right_titles m b)) 21
    (cond (not (leb (length (file_of m b w)) file_limit)) 1
    (cond (not (leb (length (file_of m b w)) room)) 14
    0)))))))

-- of a record m, the texts b of its titles and its sound w, with a lent buffer that held d: the answer r, and the buffer then holds e
pub record WritePromise (m : Record) (b w d : List ℕ) (r : Written) (e : List ℕ) : Type 0 where
  pub answer : r ≡ writing m b w (length d)
  pub number : written_number r ≡ write_number m b w (length d)
  pub size : (n : BytePlace) → r ≡ Ok n → n.0 ≡ length (file_of m b w)
  pub buffer : e ≡ holding (written_verdict r) (file_of m b w) d

-- two answers with their buffers that keep it are the same
unfoldable pub OneWriting : Type 0
OneWriting =
    (m : Record) (b w d : List ℕ) (r r' : Written) (e e' : List ℕ) → WritePromise m b w d r e → WritePromise m b w d r' e'
    → (r ≡ r') × (e ≡ e')
