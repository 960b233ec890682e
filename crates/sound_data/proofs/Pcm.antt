-- PCM sound in one go: the frames one after the other are the samples of all bytes. By induction over the frames, for
-- 8-bit and 16-bit sound alike. Assumes nothing.
use mathlib.Core.Path.{◌≡◌, refl, sym, ap, ◌∙◌}
use mathlib.Core.Bool.{false, cond}
use mathlib.Core.List.{List, [], ◌∷◌, ◌++◌, map, map-append}
use Prim.Native.Nat.{ℕ, zero, suc, ◌+◌, ◌*◌, ◌/◌, ◌≤◌, ◌<◌}
use native.Mathlib.Nat.{zero-add, add-mul, zero-mul, suc-mul, mul_left_comm}
use native.Mathlib.Omega.{arith}
use lib.Dec.{eqb}
use lib.IntN.{ℤ}
use lib.ListN.{length, take, drop, get_or, length-map, take-append-drop, drop_of_length-le}
use lib.Seq.{drop-drop, take_all}
use borrow.Author.Tests.{ne_eqb}
use Rattle.little.specs.Numbers.{number_at}
use Rattle.little.specs.Writing.{front}
use Rattle.little.proofs.Filling.{part-long}
use Rattle.lists.specs.Turns.{values, joined, in_turn}
use Rattle.samples.specs.Sound.{sample_at, samples_in, eight}
use Rattle.samples.proofs.Turning.{length-samples, samples-more}
use Rattle.units.specs.declared.Frames.{Frames}
use Rattle.formats.specs.declared.Format.{Format}
use Rattle.formats.specs.Frames.{needs_fact, Sounding}
use Rattle.formats.proofs.Taken.{taken-some, taken-two, taken-pcm, taken-eight, taken-sixteen, unneeded-tag, whole_says, frames-exactly}
use Rattle.sound_data.specs.Sound.{pcm_sample, block_frames, block_count, block_at, block_sound, whole_sound}
use Rattle.sound_data.proofs.Blocks.{sound-pcm}
use Rattle.sound_data.proofs.Laws.{block-sized}

-- ---- the bytes w in pieces of a, each turned by h
module _ (h : List ℕ → List ℤ) (a : ℕ) (none : h [] ≡ [])
    (more : (xs ys : List ℕ) → length xs ≡ a → h (xs ++ ys) ≡ h xs ++ h ys) (w : List ℕ) (g : ℕ → List ℤ) where
  pieces : (i n : ℕ) → length w ≡ (i + n) * a → ((k : ℕ) → i ≤ k → k < i + n → g k ≡ h (take a (drop (k * a) w)))
      → joined (values g i n) ≡ h (drop (i * a) w)
  unfolding values joined
  pieces i zero e p = sym (ap h (drop_of_length-le w {i = i * a} (omega (arith, add-mul i 0 a, zero-mul a))) ∙ none)
  pieces i (suc n) e p =
      let xs : List ℕ = take a (drop (i * a) w) in
      let ys : List ℕ = drop (suc i * a) w in
      let l : length w ≡ i * a + (n * a + a) = omega (arith, add-mul i (suc n) a, suc-mul n a) in
      let r : length w ≡ (suc i + n) * a = omega (arith, add-mul (suc i) n a, suc-mul i a) in
      let s : i * a + a ≡ suc i * a = omega (arith, suc-mul i a) in
      (λ j. p i (omega arith) (omega arith) j ++ pieces (suc i) n r (λ k u v. p k (omega arith) (omega arith)) j)
      ∙ sym (more xs ys (part-long w (i * a) a (omega arith)))
      ∙ ap (λ (l : List ℕ). h (xs ++ l)) (ap (λ (k : ℕ). drop k w) (sym s) ∙ sym (drop-drop a (i * a) w))
      ∙ ap h (take-append-drop a (drop (i * a) w))

-- ---- one frame
eight-frame : (c : ℕ) (b : List ℕ) → 1 ≤ c → c ≤ 2 → length b ≡ c
    → in_turn 1 1 (values (λ ch. eight (get_or b ch 0) ∷ []) 0 c) ≡ map eight b
unfolding in_turn values joined
eight-frame zero b l u e = absurd (omega arith)
eight-frame (suc zero) [] l u e = absurd (omega arith)
eight-frame (suc zero) (x ∷ []) l u e = refl
eight-frame (suc zero) (x ∷ y ∷ b) l u e = absurd (omega arith)
eight-frame (suc (suc zero)) [] l u e = absurd (omega arith)
eight-frame (suc (suc zero)) (x ∷ []) l u e = absurd (omega arith)
eight-frame (suc (suc zero)) (x ∷ y ∷ []) l u e = refl
eight-frame (suc (suc zero)) (x ∷ y ∷ z ∷ b) l u e = absurd (omega arith)
eight-frame (suc (suc (suc c))) b l u e = absurd (omega arith)

sixteen-frame : (c : ℕ) (b : List ℕ) → 1 ≤ c → c ≤ 2 → length b ≡ 2 * c
    → in_turn 1 1 (values (λ ch. sample_at b (2 * ch) ∷ []) 0 c) ≡ samples_in b
unfolding in_turn values joined samples_in sample_at number_at
sixteen-frame zero b l u e = absurd (omega arith)
sixteen-frame (suc zero) [] l u e = absurd (omega arith)
sixteen-frame (suc zero) (x ∷ []) l u e = absurd (omega arith)
sixteen-frame (suc zero) (x ∷ y ∷ []) l u e = refl
sixteen-frame (suc zero) (x ∷ y ∷ z ∷ b) l u e = absurd (omega arith)
sixteen-frame (suc (suc zero)) [] l u e = absurd (omega arith)
sixteen-frame (suc (suc zero)) (x ∷ []) l u e = absurd (omega arith)
sixteen-frame (suc (suc zero)) (x ∷ y ∷ []) l u e = absurd (omega arith)
sixteen-frame (suc (suc zero)) (x ∷ y ∷ z ∷ []) l u e = absurd (omega arith)
sixteen-frame (suc (suc zero)) (x ∷ y ∷ z ∷ v ∷ []) l u e = refl
sixteen-frame (suc (suc zero)) (x ∷ y ∷ z ∷ v ∷ a ∷ b) l u e = absurd (omega arith)
sixteen-frame (suc (suc (suc c))) b l u e = absurd (omega arith)

-- ---- the frames of PCM data
module _ (f : Format) (frames : Frames) (w : List ℕ) (q : Sounding f frames w) (z : needs_fact f ≡ false) where
  tag : f.tag ≡ 1
  tag = unneeded-tag f z

  sized : length w ≡ block_count f w * f.align
  unfolding block_count
  sized = whole_says f (record { 0 = length w }) q.whole

  counted : frames.0 ≡ block_count f w
  unfolding block_count
  counted = frames-exactly f (record { 0 = length w }) frames q.count tag

  -- the whole sound, where each block is turned by h
  by-pieces : (h : List ℕ → List ℤ) → h [] ≡ []
      → ((xs ys : List ℕ) → length xs ≡ f.align → h (xs ++ ys) ≡ h xs ++ h ys)
      → ((k : ℕ) → k < block_count f w → block_sound f w k ≡ h (block_at f w k))
      → length (h w) ≡ frames.0 * f.channels
      → whole_sound f frames.0 w ≡ h w
  unfolding whole_sound block_at
  by-pieces h none more p l =
      let n : length w ≡ (0 + block_count f w) * f.align =
      sized ∙ ap (λ (k : ℕ). k * f.align) (sym (zero-add (block_count f w))) in
      ap (take (frames.0 * f.channels))
      (pieces h f.align none more w (block_sound f w) 0 (block_count f w) n (λ k u v. p k (omega arith))
      ∙ ap (λ (k : ℕ). h (drop k w)) (zero-mul f.align))
      ∙ take_all (frames.0 * f.channels) (h w) (omega arith)

  -- a block, by its samples
  block_of : (k : ℕ) (s : ℕ → ℤ) → ((ch : ℕ) → pcm_sample f.bits (block_at f w k) ch ≡ s ch)
      → block_sound f w k ≡ in_turn 1 1 (values (λ ch. s ch ∷ []) 0 f.channels)
  unfolding block_sound block_frames
  block_of k s e =
      ap (λ (n : ℕ). block_frames f n (block_at f w k)) (taken-pcm f q.rule tag).samples
      ∙ (λ i.
      in_turn 1 1 (values (λ ch. (sound-pcm f (block_at f w k) ch tag ∙ ap (λ (x : ℤ). x ∷ []) (e ch)) i) 0 f.channels))

  module _ (t : f.bits ≡ 8) where
    byte-sample : (b : List ℕ) (ch : ℕ) → pcm_sample f.bits b ch ≡ eight (get_or b ch 0)
    unfolding pcm_sample
    byte-sample b ch = ap (λ (n : ℕ). cond (eqb n 8) (eight (get_or b ch 0)) (sample_at b (2 * ch))) t

    eight-size : length w ≡ frames.0 * f.channels
    eight-size = sized ∙ (λ i. sym counted i * taken-eight f q.rule tag t i)

    pub eight-whole : whole_sound f frames.0 w ≡ map eight w
    eight-whole =
        by-pieces (map eight) refl (λ xs ys l. map-append eight xs ys)
        (λ k h. block_of k (λ ch. eight (get_or (block_at f w k) ch 0)) (byte-sample (block_at f w k))
        ∙ eight-frame f.channels (block_at f w k) (taken-some f q.rule) (taken-two f q.rule)
        (block-sized f w k h ∙ taken-eight f q.rule tag t))
        (length-map w eight ∙ eight-size)

    pub eight_fits : (d : List ℤ) → frames.0 * f.channels ≤ length d → length w ≤ length d
    eight_fits d r = omega (arith, eight-size)

    pub eight-put : (d : List ℤ) {d' : List ℤ} → d' ≡ front (map eight w) d → d' ≡ front (whole_sound f frames.0 w) d
    eight-put d e = e ∙ ap (λ (l : List ℤ). front l d) (sym eight-whole)

  module _ (t : f.bits ≡ 8 → ⊥) where
    wide-sample : (b : List ℕ) (ch : ℕ) → pcm_sample f.bits b ch ≡ sample_at b (2 * ch)
    unfolding pcm_sample
    wide-sample b ch = simp (ne_eqb f.bits 8 t)

    sixteen-size : length w ≡ 2 * (frames.0 * f.channels)
    sixteen-size =
        sized
        ∙ (λ i. sym counted i * taken-sixteen f q.rule tag t i)
        ∙ mul_left_comm frames.0 2 f.channels

    pub sixteen-whole : whole_sound f frames.0 w ≡ samples_in w
    unfolding samples_in
    sixteen-whole =
        by-pieces samples_in refl
        (λ xs ys l. samples-more xs ys (omega (arith, taken-sixteen f q.rule tag t)))
        (λ k h. block_of k (λ ch. sample_at (block_at f w k) (2 * ch)) (wide-sample (block_at f w k))
        ∙ sixteen-frame f.channels (block_at f w k) (taken-some f q.rule) (taken-two f q.rule)
        (block-sized f w k h ∙ taken-sixteen f q.rule tag t))
        (length-samples w ∙ omega (arith, sixteen-size))

    pub sixteen-fits : (d : List ℤ) → frames.0 * f.channels ≤ length d → length w / 2 ≤ length d
    sixteen-fits d r = omega (arith, sixteen-size)

    pub sixteen-put : (d : List ℤ) {d' : List ℤ} → d' ≡ front (samples_in w) d → d' ≡ front (whole_sound f frames.0 w) d
    sixteen-put d e = e ∙ ap (λ (l : List ℤ). front l d) (sym sixteen-whole)

pub ruleset plain = (eight_fits, eight-put, sixteen-fits, sixteen-put)
