-- Laws of the loops that turn bytes into samples and samples into bytes: how many there are, which one is next, and that every turn
-- writes it. Assumes nothing.
use mathlib.Core.Path.{◌≡◌, refl, sym, ◌∙◌, ap, subst}
use mathlib.Core.List.{List, [], ◌∷◌, ◌++◌, map, append-nil}
use Prim.Native.Nat.{ℕ, zero, suc, ◌+◌, ◌-◌, ◌*◌, ◌/◌, ◌%◌, ◌≤◌, ◌<◌}
use native.Mathlib.Omega.{arith}
use lib.IntN.{ℤ, pos}
use lib.Seq.{drop-nil, drop-length, drop-drop, drop-append-add, take_all}
use borrow.Rule.Slice.PartMut.{put_mid}
use Rattle.std.specs.Simd.{first_chunks}
use Rattle.std.proofs.lemmas.List.{get_or-map, take-map, drop-map}
use lib.ListN.{length, take, drop, get_or, set, length-map, length-append, length-drop, take-append-drop}
use mir.Syntax.{w16}
use mir.Val.{SFits}
use mir.Facts.{to_z-of_z}
use Rattle.little.specs.Numbers.{number_in}
use Rattle.little.specs.Writing.{Put, front}
use Rattle.little.proofs.Filling.{Written, put_part, put_rest, front-whole, part-long, drop-next, front-begins, front-next, front-piece, front_ends}
use Rattle.little.proofs.Reading.{length-bytes}
use Rattle.samples.specs.Sound.{signed_of, bits_of, sample_bytes, samples_in, sound_bytes}
use Rattle.samples.proofs.Signed.{back}

-- ---- how many samples PCM has, and which they are
pub length-samples : (s : List ℕ) → length (samples_in s) ≡ length s / 2
unfolding samples_in
length-samples [] = refl
length-samples (a ∷ []) = refl
length-samples (a ∷ b ∷ s) = omega (arith, length-samples s)

pub samples-more : (xs ys : List ℕ) → length xs % 2 ≡ 0 → samples_in (xs ++ ys) ≡ samples_in xs ++ samples_in ys
unfolding samples_in
samples-more [] ys e = refl
samples-more (x ∷ []) ys e = absurd (omega arith)
samples-more (x ∷ y ∷ xs) ys e = ap (λ (l : List ℤ). signed_of (number_in (x ∷ y ∷ [])) ∷ l) (samples-more xs ys (omega arith))

-- each two bytes, as the code takes them, say a sample
pub pairs_say : (s : List ℕ) → map (λ (pair : List ℕ). signed_of (number_in pair)) (first_chunks 2 (length s / 2) s) ≡ samples_in s
unfolding samples_in
pairs_say [] = refl
pairs_say (a ∷ []) = refl
pairs_say (a ∷ b ∷ s) =
    let e : suc (suc (length s)) / 2 ≡ suc (length s / 2) = omega arith in
    rw e (ap (λ (l : List ℤ). signed_of (number_in (a ∷ b ∷ [])) ∷ l) (pairs_say s))

-- ---- PCM of either width into samples, where f says what sample an element of s is
module _ {A : Type 0} (f : A → ℤ) (s : List A) {d d₀ : List ℤ} where
  -- the next one
  pub each-next : {v : ℤ} {x : A} (i : ℕ) → Written (map f s) 0 i d d₀ → i < length s → SFits w16 v → v ≡ f x → x ≡ get_or s i x
      → Written (map f s) 0 (i + 1) (set d i (back w16 v)) d₀
  each-next {x = x} i w h fits e g =
      front-next w (pos 0) (omega (arith, length-map s f))
      (to_z-of_z fits ∙ e ∙ ap f g ∙ sym (get_or-map f s i x (pos 0) h))

  pub each-ends : (i : ℕ) → Written (map f s) 0 i d d₀ → length s ≤ i → d ≡ front (map f s) d₀
  each-ends i w h = front_ends w (omega (arith, length-map s f))

  -- the next 64
  pub many-next : {e : List ℤ} (i : ℕ) → Written (map f s) 0 (64 * i) d d₀ → i < length s / 64
      → e ≡ map f (take (64 * i + 64 - 64 * i) (drop (64 * i) s))
      → Written (map f s) 0 (64 * (i + 1)) (put_mid (64 * i) (64 * i + 64 - 64 * i) d e) d₀
  many-next {e} i w h g =
      let k : ℕ = 64 * i in
      let n : k + 64 - k ≡ 64 = omega arith in
      let l : length e ≡ 64 = ap length g ∙ length-map (take (k + 64 - k) (drop k s)) f ∙ omega (arith, ap (λ (m : ℕ). length (take m (drop k s))) n, part-long s k 64 (omega arith)) in
      let q : e ≡ take 64 (drop k (map f s)) =
      g ∙ ap (λ (m : ℕ). map f (take m (drop k s))) n ∙ sym (take-map f 64 (drop k s)) ∙ ap (take 64) (sym (drop-map f k s)) in
      front-piece w (put_part k (k + 64 - k) (omega arith))
      (sym (take-append-drop 64 (drop k (map f s))) ∙ ap (λ (m : List ℤ). m ++ drop 64 (drop k (map f s))) (sym q)
      ∙ ap (λ (m : List ℤ). e ++ m) (drop-drop 64 k (map f s) ∙ ap (λ (j : ℕ). drop j (map f s)) (omega arith)))
      (omega arith)
      (omega (arith, length-map s f))

  -- and those that are left
  pub many-ends : {e : List ℤ} (i : ℕ) → Written (map f s) 0 (64 * i) d d₀ → length s / 64 ≤ i → i ≤ length s / 64
      → e ≡ front (map f (take (length s - 64 * (length s / 64)) (drop (64 * (length s / 64)) s))) (take (length d - 64 * (length s / 64)) (drop (64 * (length s / 64)) d))
      → put_mid (64 * (length s / 64)) (length d - 64 * (length s / 64)) d e ≡ front (map f s) d₀
  many-ends {e} i w h k g =
      let r : ℕ = 64 * (length s / 64) in
      let w' : Written (map f s) 0 r d d₀ = subst (λ (n : ℕ). Written (map f s) 0 n d d₀) (omega arith) w in
      let t : take (length s - r) (drop r s) ≡ drop r s = take_all (length s - r) (drop r s) (omega (arith, length-drop r s)) in
      let q : map f (take (length s - r) (drop r s)) ≡ drop r (map f s) = ap (map f) t ∙ sym (drop-map f r s) in
      let p : Put d r (drop r (map f s)) (put_mid r (length d - r) d e) = put_rest r (omega (arith, w'.filled.room)) (g ∙ ap (λ (l : List ℤ). front l (take (length d - r) (drop r d))) q) in
      front_ends
      (front-piece w' {j = length (map f s)} p
      (sym (append-nil (drop r (map f s))) ∙ ap (λ (l : List ℤ). drop r (map f s) ++ l) (sym (drop-length (map f s))))
      (omega (arith, length-drop r (map f s), length-map s f))
      (omega arith))
      (omega arith)

-- a part of its own, written whole
pub many-whole : {A : Type 0} (f : A → ℤ) (s : List A) (d : List ℤ) {e l : List ℤ} → l ≡ e → e ≡ front (map f s) d → length s ≡ 64 → length d ≡ 64 → l ≡ map f s
many-whole f s d g e h k = g ∙ e ∙ front-whole d (map f s) (omega (arith, length-map s f))

pub ruleset turning = (each-next, each-ends, many-next, many-ends, many-whole)

-- ---- samples into 16-bit PCM
pub length-sample : (z : ℤ) → length (sample_bytes z) ≡ 2
unfolding sample_bytes
length-sample z = length-bytes 2 (bits_of z)

pub length-sound : (s : List ℤ) → length (sound_bytes s) ≡ 2 * length s
unfolding sound_bytes
length-sound [] = refl
length-sound (z ∷ s) = omega (arith, length-append (sample_bytes z) (sound_bytes s), length-sample z, length-sound s)

sound-from : (s : List ℤ) (i : ℕ) → drop (2 * i) (sound_bytes s) ≡ sound_bytes (drop i s)
unfolding sound_bytes
sound-from s zero = refl
sound-from [] (suc i) = drop-nil (2 * suc i)
sound-from (z ∷ s) (suc i) =
    let e : 2 * suc i ≡ length (sample_bytes z) + 2 * i = omega (arith, length-sample z) in
    rw e (drop-append-add (sample_bytes z) (sound_bytes s) (2 * i) ∙ sound-from s i)

pub sound-begins : (s : List ℤ) {out : List ℕ} → 2 * length s ≤ length out → Written (sound_bytes s) 0 (2 * 0) out out
sound-begins s h = front-begins (omega (arith, length-sound s))

module _ (s : List ℤ) {out out₀ : List ℕ} (i : ℕ) (w : Written (sound_bytes s) 0 (2 * i) out out₀) where
  pub sound-room : i < length s → 2 * i + 2 ≤ length out
  sound-room h = omega (arith, length-sound s, w.room, w.filled.long)

  pub sound-next : {e : List ℕ} → i < length s → SFits w16 (get_or s i (pos 0))
      → Put out (2 * i) (sample_bytes (back w16 (get_or s i (pos 0)))) e → Written (sound_bytes s) 0 (2 * (i + 1)) e out₀
  unfolding sound_bytes
  sound-next h f p =
      let v : ℤ = get_or s i (pos 0) in
      let l : length (sample_bytes v) ≡ 2 = length-sample v in
      front-piece w (rw (to_z-of_z f) at p)
      (sound-from s i ∙ ap sound_bytes (drop-next s i (pos 0) h) ∙ ap (λ (m : List ℕ). sample_bytes v ++ m) (sym (sound-from s (i + 1))))
      (omega arith)
      (omega (arith, length-sound s))

  pub sound-ends : length s ≤ i → out ≡ front (sound_bytes s) out₀
  sound-ends h = front_ends w (omega (arith, length-sound s))

pub ruleset sound_turning = (sound-begins, sound-room, sound-next, sound-ends)
