-- The blocks of data: how many there are, where each stands, and the test of their headers. Assumes nothing.
use mathlib.Core.Path.{◌≡◌, refl, sym, ap, ◌∙◌}
use mathlib.Core.Bool.{Bool, true, false}
use mathlib.Core.List.{List}
use Prim.Native.Nat.{ℕ, ◌+◌, ◌-◌, ◌*◌, ◌/◌, ◌^◌, ◌≤◌, ◌<◌}
use native.Mathlib.Nat.{mul-le-mul_right, add-mul, one-mul, div-mul-le_self}
use native.Mathlib.Omega.{arith}
use lib.ListN.{length, take, drop}
use mir.Syntax.{w64}
use mir.Val.{Fits}
use borrow.Author.Tests.{not-true, not-false}
use Rattle.little.proofs.Filling.{part-long}
use Rattle.lists.proofs.Laws.{Holding, hold-begins, hold-ends, hold-fails, hold-next, every-all, every-at}
use Rattle.formats.specs.declared.Format.{Format}
use Rattle.formats.specs.Frames.{blocks_in}
use Rattle.formats.proofs.Taken.{taken-align}
use Rattle.sound_data.specs.Sound.{block_valid, block_count, block_at, data_valid}
use Rattle.sound_data.proofs.Blocks.{fine-pcm}

-- ---- how many, and where
module _ (f : Format) (w : List ℕ) where
  pub count-is : length w / f.align ≡ block_count f w
  unfolding block_count blocks_in
  count-is = refl

  module _ (k : ℕ) (h : k < block_count f w) where
    pub block_room : k * f.align + f.align ≤ length w
    unfolding block_count blocks_in
    block_room =
        let m : (k + 1) * f.align ≤ length w / f.align * f.align = mul-le-mul_right f.align (omega arith) in
        omega (arith, add-mul k 1 f.align, one-mul f.align, div-mul-le_self (length w) f.align)

    pub block-starts : length w * 1 < 2 ^ 63 → Fits w64 (k * f.align)
    block-starts l = record { fits = omega (arith, block_room) }

    pub block-ends : length w * 1 < 2 ^ 63 → Fits w64 (k * f.align + f.align)
    block-ends l = record { fits = omega (arith, block_room) }

    pub block-is : take (k * f.align + f.align - k * f.align) (drop (k * f.align) w) ≡ block_at f w k
    unfolding block_at
    block-is =
        let e : k * f.align + f.align - k * f.align ≡ f.align = omega arith in
        ap (λ (n : ℕ). take n (drop (k * f.align) w)) e

    pub block-sized : length (block_at f w k) ≡ f.align
    unfolding block_at
    block-sized = part-long w (k * f.align) f.align block_room

    pub block_size : length (take (k * f.align + f.align - k * f.align) (drop (k * f.align) w)) ≡ f.align
    block_size = ap length block-is ∙ block-sized

pub ruleset placing = (taken-align, count-is, block_room, block-starts, block-ends, block-is, block_size)

-- ---- the headers of the first k of n blocks are valid
abbrev pub Tested : Format → List ℕ → ℕ → ℕ → Type 0
Tested f w n k = Holding (λ i. block_valid f (block_at f w i)) n k

module _ (f : Format) (w : List ℕ) {n : ℕ} (g : n ≡ block_count f w) where
  -- no proof asks for it, but a program that tests the first block again and again is refused where it is wrong
  pub test-first : {k : ℕ} {b : List ℕ} {r : Bool} → k < n → b ≡ block_at f w 0 → r ≡ block_valid f b → r ≡ false
      → false ≡ data_valid f w
  unfolding data_valid
  test-first h e q x = rw (sym g) (hold-fails hold-begins (omega arith) (q ∙ ap (block_valid f) e) x)

  module _ {k : ℕ} (t : Tested f w n k) where
    pub test-ends : n ≤ k → true ≡ data_valid f w
    unfolding data_valid
    test-ends h = rw (sym g) (hold-ends t h)

    module _ (h : k < n) {b : List ℕ} {r : Bool} (e : b ≡ block_at f w k) (q : r ≡ block_valid f b) where
      same : r ≡ block_valid f (block_at f w k)
      same = q ∙ ap (block_valid f) e

      pub test-fails : r ≡ false → false ≡ data_valid f w
      unfolding data_valid
      test-fails x = rw (sym g) (hold-fails t h same x)

      pub test-next : r ≡ true → Tested f w n (k + 1)
      test-next x = hold-next t h same x

module _ (f : Format) (w : List ℕ) where
  -- PCM has no headers to test
  pub test-pcm : f.tag ≡ 1 → true ≡ data_valid f w
  unfolding data_valid
  test-pcm t =
      sym (every-all (λ k. block_valid f (block_at f w k)) 0 (block_count f w) (λ k h g. sym (fine-pcm f (block_at f w k) t)))

  -- where all are valid, each is
  pub all_valid : data_valid f w ≡ true → (k : ℕ) → k < block_count f w → block_valid f (block_at f w k) ≡ true
  unfolding data_valid
  all_valid e k h = every-at (λ k. block_valid f (block_at f w k)) 0 (block_count f w) k e (omega arith) (omega arith)

pub ruleset heading = (hold-begins, test-ends, test-first, test-fails, test-next, test-pcm, not-true, not-false)
