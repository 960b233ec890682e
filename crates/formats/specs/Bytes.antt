-- The bytes of `fmt ` and `fact`, as the writer puts them. Assumes nothing.
use Rattle.std.specs.Prelude.{ℕ, ◌*◌, ◌/◌, ◌<◌, cond, List, [], ◌∷◌, ◌++◌, eqb, ℤ, pos, get_or}
use Rattle.little.specs.Numbers.{bytes_of}
use Rattle.samples.specs.Sound.{bits_of}
use Rattle.units.specs.declared.Frames.{Frames}
use Rattle.formats.specs.declared.Format.{Format}
use Rattle.formats.specs.Format.{by_tag, pairs}

-- PCM: average = rate x align; ADPCM: rate x align / samples per block, rounded down
unfoldable pub average_of : Format → ℕ
average_of f = cond (eqb f.tag 1) (f.rate * f.align) (f.rate * f.align / f.samples)

-- tag, channels, rate, average, align and bits
unfoldable pub shared_bytes : Format → List ℕ
shared_bytes f =
    bytes_of 2 f.tag
    ++ (bytes_of 2 f.channels
    ++ (bytes_of 4 f.rate
    ++ (bytes_of 4 (average_of f)
    ++ (bytes_of 2 f.align
    ++ bytes_of 2 f.bits))))

-- extension size and samples per block
unfoldable pub extension_bytes : ℕ → Format → List ℕ
extension_bytes size f = bytes_of 2 size ++ bytes_of 2 f.samples

-- the pairs, each as two signed 16-bit numbers
unfoldable pub pairs_bytes : List (List ℤ) → List ℕ
pairs_bytes [] = []
pairs_bytes (p ∷ ps) = (bytes_of 2 (bits_of (get_or p 0 (pos 0))) ++ bytes_of 2 (bits_of (get_or p 1 (pos 0)))) ++ pairs_bytes ps

-- the pair count and the seven pairs
unfoldable pub coefficient_bytes : List ℕ
coefficient_bytes = bytes_of 2 7 ++ pairs_bytes pairs

-- `fmt `: 16, 20 or 50 bytes
unfoldable pub format_bytes : Format → List ℕ
format_bytes f =
    shared_bytes f ++ by_tag f.tag [] (extension_bytes 2 f) (extension_bytes 32 f ++ coefficient_bytes) []

-- `fact`: F
unfoldable pub fact_bytes : Frames → List ℕ
fact_bytes frames = bytes_of 4 frames.0

-- what a `fmt ` says of a format: of PCM not its samples per block, which are read as 1
unfoldable pub said_format : Format → Format
said_format f =
    record {
      tag = f.tag;
      channels = f.channels;
      rate = f.rate;
      bits = f.bits;
      align = f.align;
      samples = cond (eqb f.tag 1) 1 f.samples;
    }

-- the numbers of a format fit the fields that they are written to, as those of the code's types do
pub record FormatFits (f : Format) : Type 0 where
  pub tag : f.tag < 65536
  pub channels : f.channels < 65536
  pub rate : f.rate < 4294967296
  pub bits : f.bits < 65536
  pub align : f.align < 65536
  pub samples : f.samples < 65536
