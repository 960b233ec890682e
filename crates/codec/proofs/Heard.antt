-- Laws of what is heard: where the nibbles of bytes stand, the next code of a channel, and how many samples there are.
-- Assumes nothing.
use mathlib.Core.Path.{◌≡◌, refl, sym, ap, ◌∙◌}
use mathlib.Core.List.{List, [], ◌∷◌, map}
use Prim.Native.Nat.{ℕ, zero, suc, ◌+◌, ◌*◌, ◌<◌}
use native.Mathlib.Omega.{arith}
use lib.ListN.{length, drop, get_or, length-append, length-map}
use Rattle.little.proofs.Filling.{drop-next}
use Rattle.lists.specs.States.{through}
use Rattle.lists.proofs.States.{through-long}
use Rattle.codec.specs.Codec.{Codec, heard_from, channel_states, channel_heard, nibbles}

-- ---- the nibbles of bytes
module _ (first second : ℕ → ℕ) where
  pub nibbles-long : (s : List ℕ) → length (nibbles first second s) ≡ 2 * length s
  unfolding nibbles
  nibbles-long [] = refl
  nibbles-long (b ∷ s) = omega (arith, nibbles-long s)

  pub first-at : (s : List ℕ) (i : ℕ) → i < length s → get_or (nibbles first second s) (2 * i) 0 ≡ first (get_or s i 0)
  unfolding nibbles
  first-at [] i h = absurd (omega arith)
  first-at (b ∷ s) zero h = refl
  first-at (b ∷ s) (suc i) h =
      let e : 2 * suc i ≡ suc (suc (2 * i)) = omega arith in
      ap (λ (k : ℕ). get_or (nibbles first second (b ∷ s)) k 0) e ∙ first-at s i (omega arith)

  pub second_at : (s : List ℕ) (i : ℕ) → i < length s → get_or (nibbles first second s) (2 * i + 1) 0 ≡ second (get_or s i 0)
  unfolding nibbles
  second_at [] i h = absurd (omega arith)
  second_at (b ∷ s) zero h = refl
  second_at (b ∷ s) (suc i) h =
      let e : 2 * suc i + 1 ≡ suc (suc (2 * i + 1)) = omega arith in
      ap (λ (k : ℕ). get_or (nibbles first second (b ∷ s)) k 0) e ∙ second_at s i (omega arith)

module _ {S : Type 0} (k : Codec S) where
  -- ---- from code i of ks on, and from byte i of s on
  pub code-next : (t : S) (ks : List ℕ) (i : ℕ) {u : S} → i < length ks → u ≡ k.step t (get_or ks i 0)
      → heard_from k t (drop i ks) ≡ k.sample u ∷ heard_from k u (drop (i + 1) ks)
  unfolding heard_from through
  code-next t ks i h e =
      ap (heard_from k t) (drop-next ks i 0 h) ∙ ap (λ (v : S). k.sample v ∷ heard_from k v (drop (i + 1) ks)) (sym e)

  pub byte_next : (first second : ℕ → ℕ) (t : S) (s : List ℕ) (i : ℕ) {x y : S} → i < length s
      → x ≡ k.step t (first (get_or s i 0)) → y ≡ k.step x (second (get_or s i 0))
      → heard_from k t (nibbles first second (drop i s))
      ≡ k.sample x ∷ k.sample y ∷ heard_from k y (nibbles first second (drop (i + 1) s))
  unfolding heard_from through nibbles
  byte_next first second t s i {x} h e f =
      let g = ap (λ (u : S). k.step u (second (get_or s i 0))) (sym e) ∙ sym f in
      ap (λ (l : List ℕ). heard_from k t (nibbles first second l)) (drop-next s i 0 h)
      ∙ (λ j. k.sample (sym e j) ∷ k.sample (g j) ∷ heard_from k (g j) (nibbles first second (drop (i + 1) s)))

  -- ---- how many: what stands before, the opened state's sample, and one for each code
  pub heard-long : (c : ℕ) (b : List ℕ) (ch : ℕ)
      → length (channel_heard k c b ch) ≡ length (k.before (k.opened c b ch)) + suc (length (k.codes c b ch))
  unfolding channel_heard channel_states
  heard-long c b ch =
      length-append (k.before (k.opened c b ch)) (map k.sample (channel_states k c b ch))
      ∙ ap (λ (n : ℕ). length (k.before (k.opened c b ch)) + n)
      (length-map (channel_states k c b ch) k.sample
      ∙ ap suc (through-long k.step (k.opened c b ch) (k.codes c b ch)))
