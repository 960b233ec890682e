-- A Microsoft block: the header and the nibbles of each channel. Assumes nothing.
use Rattle.std.specs.Prelude.{ℕ, ◌+◌, ◌-◌, ◌*◌, ◌/◌, List, [], ◌∷◌, leb, ℤ, pos, length, drop, get_or}
use Rattle.formats.specs.Format.{pairs, ms_samples}
use Rattle.lists.specs.Turns.{picked}
use Rattle.codec.specs.Codec.{Codec, low, high, nibbles}
use Rattle.ms_code.specs.declared.MsState.{MsState}
use Rattle.ms_code.specs.Nibble.{after_nibble}
use Rattle.samples.specs.Sound.{sample_at}

-- predictor byte per channel
unfoldable pub predictor_of : List ℕ → ℕ → ℕ
predictor_of b ch = get_or b ch 0

-- c1 or c2 of a predictor's pair
unfoldable pub coefficient : ℕ → ℕ → ℤ
coefficient predictor i = get_or (get_or pairs predictor []) i (pos 0)

-- the header of channel ch: behind the predictor bytes delta, newer sample, older sample, each signed 16-bit and per channel
unfoldable pub ms_opened : ℕ → List ℕ → ℕ → MsState
ms_opened c b ch =
    record {
      first = coefficient (predictor_of b ch) 0;
      second = coefficient (predictor_of b ch) 1;
      delta = sample_at b (c + 2 * ch);
      newer = sample_at b (3 * c + 2 * ch);
      older = sample_at b (5 * c + 2 * ch);
    }

-- the nibbles of channel ch: behind the headers one of each channel stands in turn, so in stereo the high one is left
unfoldable pub channel_nibbles : ℕ → List ℕ → ℕ → List ℕ
channel_nibbles c b ch = picked 1 c (nibbles high low (drop (7 * c) b)) ch ((length b - 7 * c) * 2 / c)

-- a predictor above 6 is out of range; output the older, then the newer, then what is heard of the nibbles
abbrev pub microsoft : Codec MsState
microsoft =
    record {
      header = 7;
      unit = λ c. 1;
      samples = ms_samples;
      valid = λ c b ch. leb (predictor_of b ch) 6;
      opened = ms_opened;
      codes = channel_nibbles;
      step = after_nibble;
      sample = λ t. t.newer;
      before = λ t. t.older ∷ [];
    }
