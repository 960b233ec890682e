-- One channel's part of a block: its samples, its header and its codes. Assumes nothing.
use Rattle.std.specs.Prelude.{ℕ, zero, suc, ◌+◌, ◌-◌, ◌*◌, ◌≤◌, ◌<◌, min, ◌≡◌, Bool, false, cond, List, [], ◌∷◌, ◌++◌, ℤ, pos, length, get_or, take}
use Rattle.samples.specs.Sound.{sample_bytes}
use Rattle.ima_code.specs.Machine.{codes_of, after, chased_of}
use Rattle.ima_coder.specs.declared.Channel.{Channel}
use Rattle.ima_coder.specs.declared.Channels.{Channels}
use Rattle.ima_coder.specs.declared.Samples.{Samples}
use Rattle.little.specs.Writing.{Put}

-- n samples of a channel, the first at index x of the sound and each of the others a stride further; the channel's last
-- one is at index last, and past it that one is repeated
unfoldable pub samples_from : List ℤ → ℕ → ℕ → ℕ → ℕ → List ℤ
samples_from s stride last x zero = []
samples_from s stride last x (suc n) = get_or s (min x last) (pos 0) ∷ samples_from s stride last (x + stride) n

-- so many of those that the code names
abbrev pub samples_of : List ℤ → Samples → ℕ → List ℤ
samples_of s which n = samples_from s which.stride which.last which.at n

-- codes in bytes, low nibble first
unfoldable pub packed : List ℕ → List ℕ
packed [] = []
packed (k ∷ []) = k ∷ []
packed (k ∷ l ∷ ks) = (k + 16 * l) ∷ packed ks

-- a header: the signed sample, the index byte, and the reserved byte, written 0
unfoldable pub block_head : ℤ → ℕ → List ℕ
block_head x i = sample_bytes x ++ (i ∷ 0 ∷ [])

-- a block of one channel that opens at index i: its first sample in the header, the codes of the others behind it
unfoldable pub coded_part : ℕ → List ℤ → List ℕ
coded_part i [] = []
coded_part i (x ∷ xs) = block_head x i ++ packed (codes_of (record { last = x; index = i }) xs)

-- the index that such a block leaves
unfoldable pub closing_index : ℕ → List ℤ → ℕ
closing_index i [] = i
closing_index i (x ∷ xs) = (after (record { last = x; index = i }) xs).index

-- which of its samples are chased; the first never is
unfoldable pub chased_part : ℕ → List ℤ → List Bool
chased_part i [] = []
chased_part i (x ∷ xs) = false ∷ chased_of (record { last = x; index = i }) xs

-- how many are chased
unfoldable pub count_of : List Bool → ℕ
count_of [] = 0
count_of (b ∷ bs) = cond b 1 0 + count_of bs

-- a channel after samples, of which the first n are the sound's and the others fill, which is not counted
unfoldable pub channel_after : Channel → ℕ → List ℤ → Channel
channel_after t n xs =
    record { state = after t.state xs; chased = t.chased + count_of (take n (chased_of t.state xs)) }

-- a channel that opens a block with a sample
unfoldable pub opened_with : Channel → ℤ → Channel
opened_with t x = record { state = record { last = x; index = t.state.index }; chased = t.chased }

-- and after that block
unfoldable pub channel_after_block : Channel → ℕ → List ℤ → Channel
channel_after_block t n [] = t
channel_after_block t n (x ∷ xs) = channel_after (opened_with t x) (n - 1) xs

-- ---- one channel: n samples, the first at index at
abbrev pub monos_from : List ℤ → ℕ → ℕ → List ℤ
monos_from s at n = samples_from s 1 (length s - 1) at n

-- ---- two channels: n samples of the left one, whose next is at index at, and n of the right one beside it
abbrev pub lefts_from : List ℤ → ℕ → ℕ → List ℤ
lefts_from s at n = samples_from s 2 (length s - 2) at n

abbrev pub rights_from : List ℤ → ℕ → ℕ → List ℤ
rights_from s at n = samples_from s 2 (length s - 1) (at + 1) n

-- ---- what coding n samples into a buffer gives: the channel is then r, and the buffer, which was d, is e, with bytes at index to
abbrev pub Ran : Channel → ℕ → Channel → List ℕ → Channel → List ℕ → ℕ → List ℕ → Type 0
Ran from n after bytes r d to e =
    (r ≡ after) × (r.state.index < 89) × (r.chased ≤ from.chased + n) × Put d to bytes e

-- the same of n samples xs without their header, of which so many are there
abbrev pub RanOver : Channel → ℕ → ℕ → List ℤ → Channel → List ℕ → ℕ → List ℕ → Type 0
RanOver from n there xs r d to e = Ran from n (channel_after from there xs) (packed (codes_of from.state xs)) r d to e

-- of a block of a channel
abbrev pub RanBlock : Channel → ℕ → ℕ → List ℤ → Channel → List ℕ → ℕ → List ℕ → Type 0
RanBlock from n there xs r d to e = Ran from n (channel_after_block from there xs) (coded_part from.state.index xs) r d to e

-- the same of both channels
abbrev pub BothRan : Channels → ℕ → Channel → Channel → List ℕ → Channels → List ℕ → ℕ → List ℕ → Type 0
BothRan from n left right bytes r d to e =
    (r.left ≡ left) × (r.right ≡ right) × (r.left.state.index < 89) × (r.right.state.index < 89)
    × (r.left.chased ≤ from.left.chased + n)
    × (r.right.chased ≤ from.right.chased + n)
    × Put d to bytes e
