-- 16-bit sound: what bytes say of it, and the bytes that say it. Assumes nothing.
use Rattle.std.specs.Prelude.{ℕ, cond, List, [], ◌∷◌, ◌++◌, ℤ, pos, neg_ℤ, ◌-ℤ◌, ◌*ℤ◌}
use Rattle.std.specs.Int.Signed.{lt_z}
use Rattle.std.specs.Int.{w16}
use Rattle.std.proofs.Common.{to_z, of_z}
use Rattle.little.specs.Numbers.{number_in, number_at, bytes_of}

-- the signed number of 16 bits, n below 65536, in two's complement
unfoldable pub signed_of : ℕ → ℤ
signed_of n = to_z w16 n

-- the 16 bits of a signed number within -32768..32767
unfoldable pub bits_of : ℤ → ℕ
bits_of z = of_z w16 z

-- the sample at a place: two bytes, the less significant first
unfoldable pub sample_at : List ℕ → ℕ → ℤ
sample_at s at = signed_of (number_at 2 s at)

-- the two bytes of a sample
unfoldable pub sample_bytes : ℤ → List ℕ
sample_bytes z = bytes_of 2 (bits_of z)

-- 16-bit PCM: each two bytes are a sample, and a byte left over is none
unfoldable pub samples_in : List ℕ → List ℤ
samples_in [] = []
samples_in (a ∷ []) = []
samples_in (a ∷ b ∷ s) = signed_of (number_in (a ∷ b ∷ [])) ∷ samples_in s

-- the bytes of 16-bit PCM
unfoldable pub sound_bytes : List ℤ → List ℕ
sound_bytes [] = []
sound_bytes (z ∷ zs) = sample_bytes z ++ sound_bytes zs

-- 8-bit PCM: value u gives (u - 128) x 256
unfoldable pub eight : ℕ → ℤ
eight u = (pos u -ℤ pos 128) *ℤ pos 256

-- a number held within -32768..32767
unfoldable pub hold : ℤ → ℤ
hold z = cond (lt_z z (neg_ℤ (pos 32768))) (neg_ℤ (pos 32768)) (cond (lt_z (pos 32767) z) (pos 32767) z)
