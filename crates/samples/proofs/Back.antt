-- Sound there and back: the samples of the bytes of sound are that sound, and the bytes of the samples of an even number of bytes
-- are those bytes. By induction on the list, from one sample. Assumes nothing.
use mathlib.Core.Path.{◌≡◌, refl, ◌∙◌, ap}
use mathlib.Core.Bool.{true, ◌&&◌}
use mathlib.Core.List.{List, [], ◌∷◌, ◌++◌}
use Prim.Native.Nat.{ℕ, suc, ◌%◌, ◌<◌}
use native.Mathlib.Omega.{arith}
use lib.Dec.{T, ltb}
use lib.IntN.{ℤ, pos}
use lib.Pow.{are_bytes}
use lib.ListN.{length, get_or}
use mir.Syntax.{w16}
use mir.Val.{SFits, Fits}
use mir.Facts.{to_z-of_z, of_z-to_z, Fits-of_z, and_yes, yes_and, ltb_yes, yes_ltb}
use Rattle.little.specs.Numbers.{number_in, bytes_of}
use Rattle.little.proofs.Reading.{bytes-say, said-bytes}
use Rattle.samples.specs.Sound.{signed_of, bits_of, sample_bytes, samples_in, sound_bytes}

pub signed-bits : {z : ℤ} → SFits w16 z → signed_of (bits_of z) ≡ z
unfolding signed_of bits_of
signed-bits f = to_z-of_z f

pub bits-signed : {n : ℕ} → Fits w16 n → bits_of (signed_of n) ≡ n
unfolding signed_of bits_of
bits-signed f = of_z-to_z f

-- one sample of a sound, and the rest of it
said-sample : {z : ℤ} (s : List ℕ) → SFits w16 z → samples_in (sample_bytes z ++ s) ≡ z ∷ samples_in s
unfolding samples_in sample_bytes bytes_of bits_of
said-sample {z} s f =
    ap (λ (n : ℕ). signed_of n ∷ samples_in s) (bytes-say 2 (bits_of z) (Fits-of_z f).fits)
    ∙ ap (λ (x : ℤ). x ∷ samples_in s) (signed-bits f)

-- where every sample is one of 16 bits
pub samples-back : (s : List ℤ) → ((i : ℕ) → SFits w16 (get_or s i (pos 0))) → samples_in (sound_bytes s) ≡ s
unfolding sound_bytes samples_in
samples-back [] f = refl
samples-back (z ∷ s) f = said-sample (sound_bytes s) (f 0) ∙ ap (λ (l : List ℤ). z ∷ l) (samples-back s (λ i. f (suc i)))

-- the sample of two bytes, and its bytes
said-bytes-back : (a b : ℕ) → a < 256 → b < 256 → sample_bytes (signed_of (number_in (a ∷ b ∷ []))) ≡ a ∷ b ∷ []
unfolding sample_bytes number_in
said-bytes-back a b h k =
    let t = yes_and (ltb a 256) (ltb b 256 && true) (yes_ltb h) (yes_and (ltb b 256) true (yes_ltb k) tt) in
    ap (bytes_of 2) (bits-signed (record { fits = omega arith })) ∙ said-bytes (a ∷ b ∷ []) t

-- where they are bytes, and each sample has two
pub bytes_back : (s : List ℕ) → T (are_bytes s) → length s % 2 ≡ 0 → sound_bytes (samples_in s) ≡ s
unfolding sound_bytes samples_in
bytes_back [] t e = refl
bytes_back (a ∷ []) t e = absurd (omega arith)
bytes_back (a ∷ b ∷ s) t e =
    let p = and_yes (ltb a 256) (ltb b 256 && are_bytes s) t in
    let q = and_yes (ltb b 256) (are_bytes s) p.1 in
    (λ i. said-bytes-back a b (ltb_yes p.0) (ltb_yes q.0) i ++ bytes_back s q.1 (omega arith) i)
