-- The loop over ADPCM blocks: what is left to write makes the whole, and every turn writes a block, or what the frames
-- that are left take of it. Assumes nothing.
use mathlib.Core.Path.{◌≡◌, refl, sym, ap, ◌∙◌, subst}
use mathlib.Core.Bool.{true}
use mathlib.Core.List.{List, [], ◌++◌}
use Prim.Native.Nat.{ℕ, ◌+◌, ◌-◌, ◌*◌, ◌^◌, ◌≤◌, ◌<◌, min}
use native.Mathlib.Nat.{sub-zero, zero-mul, one-mul, add-mul, mul_comm, mul-sub, mul-le-mul_right, min-eq_left, min-eq_right, le_of_lt}
use native.Mathlib.Omega.{arith}
use lib.IntN.{ℤ}
use lib.ListN.{length, take}
use lib.Seq.{take_all, take-nil}
use mir.Syntax.{w64}
use mir.Val.{Fits}
use Rattle.little.specs.Writing.{Put, front}
use Rattle.little.proofs.Filling.{Filled, filled_none, filled-piece, filled-all}
use Rattle.lists.specs.Turns.{values, joined}
use Rattle.lists.proofs.Cuts.{take-both}
use Rattle.lists.proofs.Turns.{joined-next}
use Rattle.samples.proofs.Signed.{by-leb}
use Rattle.units.specs.declared.Frames.{Frames}
use Rattle.formats.specs.declared.Format.{Format}
use Rattle.formats.specs.Format.{format_rule}
use Rattle.formats.specs.Frames.{needs_fact, Sounding}
use Rattle.formats.proofs.Taken.{taken-samples, wanted-tag, frames-begun}
use Rattle.sound_data.specs.Sound.{block_frames, block_valid, block_count, block_at, block_sound, whole_sound, data_valid}
use Rattle.sound_data.proofs.Blocks.{all-long, frames-first, frames-long}
use Rattle.sound_data.proofs.Laws.{block-sized, all_valid}

-- ---- numbers
pub times-less : (a b c : ℕ) → (a - b) * c ≡ a * c - b * c
times-less a b c = mul_comm (a - b) c ∙ mul-sub c a b ∙ (λ i. mul_comm c a i - mul_comm c b i)

-- l times c of s times c elements, and the same where l is held to s
take-least : (l s c : ℕ) (xs : List ℤ) → length xs ≡ s * c → take (l * c) xs ≡ take (min l s * c) xs
take-least l s c xs e =
    by-leb l s (λ _. take (l * c) xs ≡ take (min l s * c) xs)
    (λ h. ap (λ (k : ℕ). take (k * c) xs) (sym (min-eq_left h)))
    (λ h.
    take_all (l * c) xs (omega (arith, mul-le-mul_right {m = s} {n = l} c (le_of_lt h)))
    ∙ sym (take_all (s * c) xs (omega arith))
    ∙ ap (λ (k : ℕ). take (k * c) xs) (sym (min-eq_right (le_of_lt h))))

-- ---- k of n blocks are written; left frames of all are to follow, from index to on
pub record Sofar (f : Format) (w : List ℕ) (out₀ : List ℤ) (c s n all : ℕ)
    (out : List ℤ) (left to k : ℕ) : Type 0 where
  pub rule : format_rule f ≡ true
  pub valid : data_valid f w ≡ true
  pub channels : c ≡ f.channels
  pub samples : s ≡ f.samples
  pub blocks : n ≡ block_count f w
  pub begun : (i : ℕ) → i < block_count f w → i * f.samples < all
  pub small : length out₀ * 2 < 2 ^ 63
  pub upto : k ≤ n
  pub frames : left ≡ all - k * f.samples
  pub room : to + left * f.channels ≤ length out
  pub filled : Filled (whole_sound f all w)
      (take (left * f.channels) (joined (values (block_sound f w) k (n - k)))) to out out₀

pub sofar-begins : {f : Format} {frames : Frames} {w : List ℕ} {n : ℕ} {out : List ℤ}
    → Sounding f frames w → needs_fact f ≡ true → data_valid f w ≡ true → frames.0 * f.channels ≤ length out
    → length out * 2 < 2 ^ 63 → n ≡ block_count f w
    → Sofar f w out f.channels f.samples n frames.0 out frames.0 0 0
unfolding whole_sound block_count
sofar-begins {f} {frames} {w} {n} {out} q a d r l b =
    record {
      rule = q.rule;
      valid = d;
      channels = refl;
      samples = refl;
      blocks = b;
      begun = λ i h. frames-begun f (record { 0 = length w }) frames q.count i (wanted-tag f a) h;
      small = l;
      upto = omega arith;
      frames = omega (arith, zero-mul f.samples);
      room = omega arith;
      filled = rw (sub-zero n, b) (filled_none (omega arith));
    }

module _ {f : Format} {w : List ℕ} {out₀ : List ℤ} {c s n all : ℕ} {out : List ℤ} {left to k : ℕ}
    (q : Sofar f w out₀ c s n all out left to k) where
  -- a turn: m frames of block k
  module _ (h : k < n) where
    among : k < block_count f w
    among = omega (arith, q.blocks)

    -- no proof asks for it, but a program that puts the first block again and again is refused where it is wrong
    pub first-valid : {b : List ℕ} → b ≡ block_at f w 0 → block_valid f b ≡ true
    first-valid g = ap (block_valid f) g ∙ all_valid f w q.valid 0 (omega (arith, among))

    module _ {m : ℕ} (e : m ≡ min left s) where
      pub turn-some : 1 ≤ m
      turn-some = omega (arith, q.begun k among, q.frames, taken-samples f q.rule, q.samples)

      pub turn-most : m ≤ f.samples
      turn-most = omega (arith, q.samples)

      turn-less : m ≤ left
      turn-less = omega arith

      turn-times : c * m ≤ left * f.channels
      turn-times =
          omega (
            arith,
            ap (λ (i : ℕ). i * m) q.channels,
            mul_comm f.channels m,
            mul-le-mul_right f.channels turn-less,
          )

      pub turn-room : to + f.channels * m ≤ length out
      turn-room = omega (arith, q.room, turn-times, ap (λ (i : ℕ). i * m) q.channels)

      pub turn-fits : Fits w64 (c * m)
      turn-fits = record { fits = omega (arith, q.room, q.small, q.filled.long, turn-times) }

      pub turn-moves : Fits w64 (to + c * m)
      turn-moves = record { fits = omega (arith, q.room, q.small, q.filled.long, turn-times) }

      module _ {b : List ℕ} (g : b ≡ block_at f w k) where
        pub turn-valid : block_valid f b ≡ true
        turn-valid = ap (block_valid f) g ∙ all_valid f w q.valid k among

        whole_long : length (block_sound f w k) ≡ f.samples * f.channels
        unfolding block_sound
        whole_long = all-long f q.rule (block_at f w k) (block-sized f w k among)

        piece : take (left * f.channels) (block_sound f w k) ≡ block_frames f m b
        unfolding block_sound
        piece =
            let i : min left f.samples ≡ m = omega (arith, q.samples) in
            take-least left f.samples f.channels (block_sound f w k) whole_long
            ∙ ap (λ (j : ℕ). take (j * f.channels) (block_sound f w k)) i
            ∙ sym (frames-first f q.rule (block_at f w k) (block-sized f w k among) m turn-most)
            ∙ ap (block_frames f m) (sym g)

        turn-rest : take (left * f.channels) (joined (values (block_sound f w) k (n - k)))
            ≡ block_frames f m b
            ++ take ((left - m) * f.channels) (joined (values (block_sound f w) (k + 1) (n - (k + 1))))
        turn-rest =
            let r : List ℤ = joined (values (block_sound f w) (k + 1) (n - (k + 1))) in
            let i : left - f.samples ≡ left - m = omega (arith, q.samples) in
            let j : left * f.channels - length (block_sound f w k) ≡ (left - m) * f.channels =
            ap (λ (x : ℕ). left * f.channels - x) whole_long
            ∙ sym (times-less left f.samples f.channels)
            ∙ ap (λ (x : ℕ). x * f.channels) i in
            ap (take (left * f.channels)) (joined-next (block_sound f w) k n h)
            ∙ take-both (left * f.channels) (block_sound f w k) r
            ∙ (λ x. piece x ++ take (j x) r)

        turn-long : length (block_frames f m b) ≡ c * m
        turn-long =
            frames-long f q.rule b (ap length g ∙ block-sized f w k among) m turn-most
            ∙ mul_comm m f.channels
            ∙ ap (λ (i : ℕ). i * m) (sym q.channels)

        pub turn-next : {d : List ℤ} → Put out to (block_frames f m b) d
            → Sofar f w out₀ c s n all d (left - m) (to + c * m) (k + 1)
        turn-next {d} p =
            let o : to + c * m ≤ length out = omega (arith, q.room, turn-times) in
            let z = filled-piece q.filled p turn-rest (ap (λ (i : ℕ). to + i) (sym turn-long)) o in
            let t = times-less left m f.channels in
            let v : m * f.channels ≡ c * m = mul_comm m f.channels ∙ ap (λ (i : ℕ). i * m) (sym q.channels) in
            record {
              rule = q.rule;
              valid = q.valid;
              channels = q.channels;
              samples = q.samples;
              blocks = q.blocks;
              begun = q.begun;
              small = q.small;
              upto = omega arith;
              frames = omega (arith, q.frames, q.samples, add-mul k 1 f.samples, one-mul f.samples);
              room = omega (arith, q.room, z.long, q.filled.long, turn-times);
              filled = z;
            }

  pub sofar-ends : n ≤ k → out ≡ front (whole_sound f all w) out₀
  unfolding values joined
  sofar-ends h =
      let i : n - k ≡ 0 = omega arith in
      let e : take (left * f.channels) (joined (values (block_sound f w) k (n - k))) ≡ [] =
      ap (λ (j : ℕ). take (left * f.channels) (joined (values (block_sound f w) k j))) i
      ∙ take-nil (left * f.channels) in
      filled-all (subst (λ (l : List ℤ). Filled (whole_sound f all w) l to out out₀) e q.filled)

pub ruleset looping =
    (sofar-begins, first-valid, turn-some, turn-most, turn-room, turn-fits, turn-moves, turn-valid, turn-next, sofar-ends)
