-- An IMA block: the part of each channel, its header and its codes. Assumes nothing.
use Rattle.std.specs.Prelude.{ℕ, ◌*◌, ◌/◌, List, [], leb, length, drop, get_or}
use Rattle.lists.specs.Turns.{picked}
use Rattle.samples.specs.Sound.{sample_at}
use Rattle.formats.specs.Format.{ima_samples}
use Rattle.codec.specs.Codec.{Codec, low, high, nibbles}
use Rattle.ima_code.specs.declared.ImaState.{ImaState}
use Rattle.ima_code.specs.Code.{after_code}

-- what a block of c channels has of one channel: four bytes of each channel stand in turn
unfoldable pub channel_part : ℕ → List ℕ → ℕ → List ℕ
channel_part c b ch = picked 4 (4 * c) b (4 * ch) (length b / (4 * c))

-- its header: a signed sample, an index byte, and a reserved byte that is ignored
unfoldable pub ima_opened : List ℕ → ImaState
ima_opened p = record { last = sample_at p 0; index = get_or p 2 0 }

-- an index above 88 is out of range; codes stand low nibble first; the header sample is the first output
abbrev pub ima : Codec ImaState
ima =
    record {
      header = 4;
      unit = λ c. 4 * c;
      samples = ima_samples;
      valid = λ c b ch. leb (ima_opened (channel_part c b ch)).index 88;
      opened = λ c b ch. ima_opened (channel_part c b ch);
      codes = λ c b ch. nibbles low high (drop 4 (channel_part c b ch));
      step = after_code;
      sample = λ t. t.last;
      before = λ t. [];
    }
