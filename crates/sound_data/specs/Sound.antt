-- The sound of data in a format: its channels, its blocks, and the whole. Assumes nothing.
use Rattle.std.specs.Prelude.{ℕ, ◌*◌, Bool, true, cond, ◌&&◌, List, [], ◌∷◌, ltb, eqb, ℤ, length, take, drop, get_or}
use Rattle.lists.specs.Every.{every}
use Rattle.lists.specs.Turns.{values, joined, in_turn}
use Rattle.samples.specs.Sound.{sample_at, eight}
use Rattle.formats.specs.declared.Format.{Format}
use Rattle.formats.specs.Format.{by_tag}
use Rattle.formats.specs.Frames.{needs_fact, blocks_in}
use Rattle.codec.specs.Codec.{channel_heard, headers_valid}
use Rattle.ima_block.specs.Block.{ima}
use Rattle.ms_block.specs.Block.{microsoft}

-- ---- a block of c channels; a PCM block is one frame

-- the sample of channel ch in a PCM frame: 8 bits or 16
unfoldable pub pcm_sample : ℕ → List ℕ → ℕ → ℤ
pcm_sample bits b ch = cond (eqb bits 8) (eight (get_or b ch 0)) (sample_at b (2 * ch))

-- the sound of channel ch of a block
unfoldable pub channel_sound : Format → List ℕ → ℕ → List ℤ
channel_sound f b ch =
    by_tag f.tag (pcm_sample f.bits b ch ∷ []) (channel_heard ima f.channels b ch) (channel_heard microsoft f.channels b ch) []

-- the first n frames of a block: one sample of each channel in turn
unfoldable pub block_frames : Format → ℕ → List ℕ → List ℤ
block_frames f n b = in_turn 1 n (values (channel_sound f b) 0 f.channels)

-- every header of a block has an index in range; PCM has no headers
unfoldable pub block_valid : Format → List ℕ → Bool
block_valid f b = by_tag f.tag true (headers_valid ima f.channels b) (headers_valid microsoft f.channels b) true

-- ---- sound data w, which are blocks one after the other

-- how many blocks they are
unfoldable pub block_count : Format → List ℕ → ℕ
block_count f w = blocks_in f (record { 0 = length w })

-- block k, counted from 0
unfoldable pub block_at : Format → List ℕ → ℕ → List ℕ
block_at f w k = take f.align (drop (k * f.align) w)

-- there is a block k, and it can be decoded alone: PCM, which alone needs no fact, has no such blocks
unfoldable pub has_block : Format → List ℕ → ℕ → Bool
has_block f w k = needs_fact f && ltb k (block_count f w)

-- the sound of block k: all its frames, so with its fill
unfoldable pub block_sound : Format → List ℕ → ℕ → List ℤ
block_sound f w k = block_frames f f.samples (block_at f w k)

-- the whole sound: the first F frames of the blocks one after the other
unfoldable pub whole_sound : Format → ℕ → List ℕ → List ℤ
whole_sound f frames w = take (frames * f.channels) (joined (values (block_sound f w) 0 (block_count f w)))

-- the headers of all blocks are valid
unfoldable pub data_valid : Format → List ℕ → Bool
data_valid f w = every (λ k. block_valid f (block_at f w k)) 0 (block_count f w)
