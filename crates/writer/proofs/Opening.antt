-- What stands before the tables is put as three writes behind one another. Assumes nothing.
use mathlib.Core.Path.{◌≡◌, ap, ◌∙◌}
use mathlib.Core.List.{List, ◌++◌}
use Prim.Native.Nat.{ℕ, ◌+◌, ◌-◌, ◌≤◌}
use native.Mathlib.Omega.{arith}
use lib.ListN.{length, length-append}
use Rattle.little.specs.Writing.{Put}
use Rattle.little.proofs.Filling.{put-long, put_next, next-room, both-put, first-room}
use Rattle.units.specs.declared.Frames.{Frames}
use Rattle.codes.specs.declared.Code.TheVariants as code
use Rattle.riff.specs.Laying.{piece, piece_bytes, part_bytes, riff_bytes}
use Rattle.riff.proofs.Laying.{length-riff}
use Rattle.formats.specs.declared.Format.{Format}
use Rattle.formats.specs.Bytes.{format_bytes}
use Rattle.writer.specs.File.{fact_chunk, until_tables}

abbrev pub form_of : Format → List ℕ
form_of f = piece_bytes (piece code.Format (format_bytes f))

abbrev pub count_of : Format → Frames → List ℕ
count_of f frames = part_bytes code.Fact (fact_chunk f frames)

module _ (size : ℕ) (f : Format) (frames : Frames) where
  abbrev form : List ℕ
  form = form_of f

  abbrev count : List ℕ
  count = count_of f frames

  length-opening : length (until_tables size f frames) ≡ 12 + length (form ++ count)
  unfolding until_tables
  length-opening = length-append (riff_bytes (size - 8)) (form ++ count) ∙ ap (λ (k : ℕ). k + length (form ++ count)) (length-riff (size - 8))

  pub riff-room : {m : ℕ} → length (until_tables size f frames) ≤ m → 12 ≤ m
  riff-room h = omega (arith, length-opening)

  pub opening-end : {next end : ℕ} → next ≡ 12 + length form → end ≡ next + length count → end ≡ length (until_tables size f frames)
  opening-end a b = omega (arith, length-opening, length-append form count)

  -- the rooms do not depend on the number that R is
  module _ {d e : List ℕ} (r : ℕ) (h : length (until_tables size f frames) ≤ length d) (p : Put d 0 (riff_bytes r) e) where
    long : 12 + length (form ++ count) ≤ length e
    long = let l = put-long p (omega (arith, length-riff r, length-opening)) in omega (arith, length-opening)

    pub format-room : 12 + length form ≤ length e
    format-room = first-room form count 12 long

    module _ {g : List ℕ} {next : ℕ} (q : Put e 12 form g) (a : next ≡ 12 + length form) where
      pub fact-room : next + length count ≤ length g
      fact-room = next-room form count long q a

  pub opening-put : {d e g z : List ℕ} {next : ℕ} → length (until_tables size f frames) ≤ length d → Put d 0 (riff_bytes (size - 8)) e
      → Put e 12 form g → next ≡ 12 + length form → Put g next count z → Put d 0 (until_tables size f frames) z
  unfolding until_tables
  opening-put h p q a r =
      put_next p (both-put form count (long (size - 8) h p) q a r) (omega (arith, length-riff (size - 8))) (omega (arith, length-opening))

pub ruleset openings = (riff-room, opening-end, format-room, fact-room, opening-put)
