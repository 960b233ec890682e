-- A codec of blocks. In a block each channel has a header, which opens its state, and codes, each of which leads to the next
-- state; of every state one sample is heard. IMA and Microsoft are its two instances. Assumes nothing.
use Rattle.std.specs.Prelude.{ℕ, ◌*◌, ◌/◌, ◌%◌, ◌≤◌, ◌≡◌, Bool, true, List, [], ◌∷◌, ◌++◌, map, ℤ, length}
use Rattle.lists.specs.Every.{every}
use Rattle.lists.specs.States.{through}
use Rattle.lists.specs.Turns.{values, in_turn}

-- c is the number of channels, b a block, and ch a channel, counted from 0
pub record Codec (S : Type 0) : Type 0 where
  -- the bytes of a channel's header
  pub header : ℕ
  -- what the bytes of a block of c channels are a multiple of
  pub unit : ℕ → ℕ
  -- samples per block, of c channels and so many bytes
  pub samples : ℕ → ℕ → ℕ
  -- whether the header of channel ch is in range
  pub valid : ℕ → List ℕ → ℕ → Bool
  -- the state that it opens
  pub opened : ℕ → List ℕ → ℕ → S
  -- the codes of channel ch
  pub codes : ℕ → List ℕ → ℕ → List ℕ
  -- the state after a code
  pub step : S → ℕ → S
  -- the sample that is heard of a state
  pub sample : S → ℤ
  -- the samples of a header that are heard before that of the state which it opens
  pub before : S → List ℤ

-- ---- what is heard
module _ {S : Type 0} (k : Codec S) where
  -- of codes, from a state on
  unfoldable pub heard_from : S → List ℕ → List ℤ
  heard_from t ks = map k.sample (through k.step t ks)

  -- the states of channel ch: the one that its header opens, and one after each code
  unfoldable pub channel_states : ℕ → List ℕ → ℕ → List S
  channel_states c b ch = k.opened c b ch ∷ through k.step (k.opened c b ch) (k.codes c b ch)

  -- the sound of channel ch
  unfoldable pub channel_heard : ℕ → List ℕ → ℕ → List ℤ
  channel_heard c b ch = k.before (k.opened c b ch) ++ map k.sample (channel_states c b ch)

  -- the first n frames of a block: one sample of each channel in turn
  unfoldable pub frames_heard : ℕ → ℕ → List ℕ → List ℤ
  frames_heard c n b = in_turn 1 n (values (channel_heard c b) 0 c)

  -- every header is in range; one that is not gives 15
  unfoldable pub headers_valid : ℕ → List ℕ → Bool
  headers_valid c b = every (k.valid c b) 0 c

-- ---- a block of one or two channels, of which n frames can be decoded
pub record Decodable {S : Type 0} (k : Codec S) (c n : ℕ) (b : List ℕ) : Type 0 where
  pub least : 1 ≤ c
  pub most : c ≤ 2
  pub whole : length b % k.unit c ≡ 0
  pub headed : k.header * c ≤ length b
  pub enough : n ≤ k.samples c (length b)
  pub valid : headers_valid k c b ≡ true

-- ---- the codes of bytes: two nibbles of each, one of them first
abbrev pub low : ℕ → ℕ
low byte = byte % 16

abbrev pub high : ℕ → ℕ
high byte = byte / 16

unfoldable pub nibbles : (ℕ → ℕ) → (ℕ → ℕ) → List ℕ → List ℕ
nibbles first second [] = []
nibbles first second (b ∷ bs) = first b ∷ second b ∷ nibbles first second bs
