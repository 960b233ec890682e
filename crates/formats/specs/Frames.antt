-- The chunks `data` and `fact`: whole blocks, the number of frames, and what both together must keep. Assumes nothing.
use Rattle.std.specs.Prelude.{ℕ, ◌-◌, ◌*◌, ◌/◌, ◌%◌, ◌≡◌, Bool, true, not, cond, ◌&&◌, List, ltb, leb, eqb, length}
use Rattle.little.specs.Numbers.{number_at}
use Rattle.units.specs.declared.BytePlace.{BytePlace}
use Rattle.units.specs.declared.Frames.{Frames}
use Rattle.formats.specs.declared.Format.{Format}
use Rattle.formats.specs.Format.{format_rule}

-- n bytes of sound data are a multiple of align; an align of 0, which is 9 before, has no multiples here
unfoldable pub whole_blocks : Format → BytePlace → Bool
whole_blocks f n = leb 1 f.align && eqb (n.0 % f.align) 0

-- how many blocks they are; of PCM, how many frames
unfoldable pub blocks_in : Format → BytePlace → ℕ
blocks_in f n = n.0 / f.align

-- PCM frames F = length / align; for ADPCM, F is the fact count
unfoldable pub frames_of : Format → BytePlace → List ℕ → Frames
frames_of f n fact = record { 0 = cond (eqb f.tag 1) (blocks_in f n) (number_at 4 fact 0) }

-- a fact is not shorter than 4 bytes
unfoldable pub fact_form : List ℕ → Bool
fact_form fact = leb 4 (length fact)

-- ADPCM sound needs a fact, PCM none
unfoldable pub needs_fact : Format → Bool
needs_fact f = not (eqb f.tag 1)

-- with B blocks of S samples, F = 0 if B = 0, else (B-1) x S < F <= B x S
unfoldable pub count_fits : ℕ → ℕ → ℕ → Bool
count_fits b s f = cond (eqb b 0) (eqb f 0) (ltb ((b - 1) * s) f && leb f (b * s))

-- F frames are what n bytes of sound can have
unfoldable pub frames_rule : Format → BytePlace → Frames → Bool
frames_rule f n frames =
    cond (eqb f.tag 1) (eqb frames.0 (blocks_in f n)) (count_fits (blocks_in f n) f.samples frames.0)

-- sound data w of a format that is taken, whole blocks of it, with a number of frames that they can have: 9, 10 and the count of 11
pub record Sounding (f : Format) (frames : Frames) (w : List ℕ) : Type 0 where
  pub rule : format_rule f ≡ true
  pub whole : whole_blocks f (record { 0 = length w }) ≡ true
  pub count : frames_rule f (record { 0 = length w }) frames ≡ true
