-- The whole sound and its blocks, for the crates above: how long each is, that block k is its part of the whole, and that a
-- frame of the whole is that frame of its block.
-- Assumes nothing.
use mathlib.Core.Path.{◌≡◌, sym, ap, ◌∙◌}
use mathlib.Core.Bool.{true}
use mathlib.Core.List.{List}
use Prim.Native.Nat.{ℕ, ◌+◌, ◌-◌, ◌*◌, ◌≤◌, ◌<◌}
use native.Mathlib.Nat.{zero-add, mul_comm, mul_assoc, mul-add, mul-one, mul-le-mul_left, mul-le-mul_right}
use native.Mathlib.Omega.{arith}
use lib.IntN.{ℤ, pos}
use lib.ListN.{length, take, drop, get_or}
use lib.Seq.{length-take-le, get_or-take, get_or-drop}
use Rattle.lists.specs.Turns.{values, joined}
use Rattle.lists.proofs.Cuts.{drop-take, take-swap}
use Rattle.lists.proofs.Turns.{pieces-long, piece-at}
use Rattle.units.specs.declared.Frames.{Frames}
use Rattle.formats.specs.declared.Format.{Format}
use Rattle.formats.specs.Frames.{Sounding}
use Rattle.formats.specs.Format.{format_rule}
use Rattle.formats.proofs.Taken.{frames-most}
use Rattle.sound_data.specs.Sound.{block_count, block_at, block_sound, whole_sound}
use Rattle.sound_data.proofs.Blocks.{all-long}
use Rattle.sound_data.proofs.Laws.{block-sized}
use Rattle.sound_data.proofs.Loops.{times-less}

-- a block has samples x channels of them
pub block-long : (f : Format) (w : List ℕ) (k : ℕ) → format_rule f ≡ true → k < block_count f w
    → length (block_sound f w k) ≡ f.samples * f.channels
unfolding block_sound
block-long f w k e h = all-long f e (block_at f w k) (block-sized f w k h)

-- sample ch of frame j stands before the end of n frames of c channels
before-end : {c j ch n : ℕ} → j < n → ch < c → c * j + ch < n * c
before-end {c} {j} {ch} {n} h l =
    let m : c * (j + 1) ≤ c * n = mul-le-mul_left c (omega arith) in
    omega (arith, mul-add c j 1, mul-one c, mul_comm n c)

module _ {f : Format} {frames : Frames} {w : List ℕ} (q : Sounding f frames w) where
  abbrev all : List ℤ
  all = joined (values (block_sound f w) 0 (block_count f w))

  each_long : (k : ℕ) → 0 ≤ k → k < 0 + block_count f w → length (block_sound f w k) ≡ f.samples * f.channels
  each_long k l h = block-long f w k q.rule (omega arith)

  within : frames.0 * f.channels ≤ length all
  unfolding block_count
  within =
      let m : frames.0 * f.channels ≤ block_count f w * f.samples * f.channels =
      mul-le-mul_right f.channels (frames-most f (record { 0 = length w }) frames q.count q.rule) in
      omega (
        arith,
        pieces-long (block_sound f w) (f.samples * f.channels) 0 (block_count f w) each_long,
        mul_assoc (block_count f w) f.samples f.channels,
      )

  -- the whole has F x channels
  pub whole_long : length (whole_sound f frames.0 w) ≡ frames.0 * f.channels
  unfolding whole_sound
  whole_long = length-take-le (frames.0 * f.channels) all within

  -- frames k x S up to (k + 1) x S of the whole are what the F frames take of block k
  pub block-of-whole : (k : ℕ) → k < block_count f w
      → take (f.samples * f.channels) (drop (k * (f.samples * f.channels)) (whole_sound f frames.0 w))
      ≡ take ((frames.0 - k * f.samples) * f.channels) (block_sound f w k)
  unfolding whole_sound
  block-of-whole k h =
      let a : ℕ = f.samples * f.channels in
      let n : frames.0 * f.channels - k * a ≡ (frames.0 - k * f.samples) * f.channels =
      ap (λ (i : ℕ). frames.0 * f.channels - i) (sym (mul_assoc k f.samples f.channels))
      ∙ sym (times-less frames.0 (k * f.samples) f.channels) in
      ap (take a) (drop-take (k * a) (frames.0 * f.channels) all)
      ∙ take-swap a (frames.0 * f.channels - k * a) (drop (k * a) all)
      ∙ (λ i.
      take (n i) ((piece-at (block_sound f w) a 0 (block_count f w) k each_long h ∙ ap (block_sound f w) (zero-add k)) i))

  -- frame j of block k
  pub frame-of-whole : (k j ch : ℕ) → k < block_count f w → j < f.samples → ch < f.channels
      → k * f.samples + j < frames.0
      → get_or (whole_sound f frames.0 w) (f.channels * (k * f.samples + j) + ch) (pos 0)
      ≡ get_or (block_sound f w k) (f.channels * j + ch) (pos 0)
  frame-of-whole k j ch h g l u =
      let c : ℕ = f.channels in
      let n : ℕ = f.samples in
      let i : ℕ = c * j + ch in
      let whole : List ℤ = whole_sound f frames.0 w in
      let e : c * (k * n + j) + ch ≡ k * (n * c) + i =
      omega (arith, mul-add c (k * n) j, mul_comm c (k * n), mul_assoc k n c) in
      ap (λ (m : ℕ). get_or whole m (pos 0)) e
      ∙ sym (get_or-drop (k * (n * c)) whole i (pos 0))
      ∙ sym (get_or-take (n * c) (drop (k * (n * c)) whole) i (pos 0) (before-end g l))
      ∙ ap (λ (xs : List ℤ). get_or xs i (pos 0)) (block-of-whole k h)
      ∙ get_or-take ((frames.0 - k * n) * c) (block_sound f w k) i (pos 0) (before-end (omega arith) l)
