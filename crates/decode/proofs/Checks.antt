-- The checks of decoding, one law for each way out, in the words of the code. Assumes nothing.
use mathlib.Core.Path.{◌≡◌, sym, ap, ◌∙◌}
use mathlib.Core.Bool.{Bool, true, false, not}
use mathlib.Core.List.{List}
use Prim.Native.Nat.{ℕ, ◌*◌, ◌≤◌, ◌<◌}
use native.Mathlib.Nat.{mul-le-mul, le_of_lt}
use native.Mathlib.Omega.{arith}
use lib.Dec.{ltb}
use lib.IntN.{ℤ}
use mir.Syntax.{w16, w32, w64}
use mir.Val.{Fits}
use borrow.Author.Tests.{not-true, not-false, ltb-true}
use Rattle.little.specs.Writing.{front}
use Rattle.little.proofs.Tests.{tests}
use Rattle.lists.proofs.Laws.{and_both}
use Rattle.units.specs.declared.Refusal.TheVariants.{OutputTooSmall, BlockHeaderWrong, NoSuchBlock}
use Rattle.units.specs.Checks.{decided}
use Rattle.formats.specs.declared.Format.{Format}
use Rattle.formats.specs.Frames.{needs_fact}
use Rattle.sound_data.specs.Sound.{block_frames, block_valid, block_count, block_at, has_block, block_sound, data_valid}
use Rattle.decode.specs.Decoding.{whole_verdict, block_verdict, decoded_by}
use Rattle.std.specs.Prelude.{Err, Ok}

-- frames of all channels are counted in 64 bits
product : {a b : ℕ} → a ≤ 4294967296 → b ≤ 65536 → a * b ≤ 4294967296 * 65536
product h g = mul-le-mul h g

room_fits : {a b : ℕ} → a ≤ 4294967296 → b ≤ 65536 → Fits w64 (a * b)
room_fits {a} {b} h g = record { fits = omega (arith, product h g) }

pub frames-fit : {a b : ℕ} → Fits w32 a → Fits w16 b → Fits w64 (a * b)
frames-fit f g = room_fits (le_of_lt f.fits) (le_of_lt g.fits)

pub block-fits : {a b : ℕ} → Fits w16 a → Fits w16 b → Fits w64 (a * b)
block-fits f g = room_fits (omega (arith, f.fits)) (le_of_lt g.fits)

-- ---- 14, then 15 for any block
module _ (f : Format) (n : ℕ) (w : List ℕ) (room : ℕ) where
  pub whole-small : room < n * f.channels → Err OutputTooSmall ≡ decoded_by (whole_verdict f n w room) n
  unfolding whole_verdict decided
  whole-small h = simp tests

  module _ (h : n * f.channels ≤ room) {valid : Bool} (e : valid ≡ data_valid f w) where
    pub whole-wrong : not valid ≡ true → Err BlockHeaderWrong ≡ decoded_by (whole_verdict f n w room) n
    unfolding whole_verdict decided
    whole-wrong t = let u : data_valid f w ≡ false = sym e ∙ not-true valid t in simp (tests, u)

    pub whole-valid : not valid ≡ false → Ok (record { 0 = n }) ≡ decoded_by (whole_verdict f n w room) n
    unfolding whole_verdict decided
    whole-valid t = let u : data_valid f w ≡ true = sym e ∙ not-false valid t in simp (tests, u)

pub is-valid : (b : Bool) {valid : Bool} → valid ≡ b → not valid ≡ false → b ≡ true
is-valid b {valid} e t = sym e ∙ not-false valid t

pub ruleset whole = (frames-fit, whole-small, whole-wrong, whole-valid, is-valid)

-- ---- whether there is such a block
module _ (f : Format) (w : List ℕ) (k : ℕ) where
  module _ {alone : Bool} (e : alone ≡ needs_fact f) where
    pub block_none : not alone ≡ true → false ≡ has_block f w k
    unfolding has_block
    block_none t = let u : needs_fact f ≡ false = sym e ∙ not-true alone t in simp u

    pub block-counted : {n : ℕ} → not alone ≡ false → n ≡ block_count f w → ltb k n ≡ has_block f w k
    unfolding has_block
    block-counted t g = let u : needs_fact f ≡ true = sym e ∙ not-false alone t in simp (u, g)

pub ruleset counted = (block_none, block-counted)

-- ---- 20, then 14, then 15
module _ (f : Format) (w : List ℕ) (k room : ℕ) {there : Bool} (e : there ≡ has_block f w k) where
  pub part_none : not there ≡ true → Err NoSuchBlock ≡ decoded_by (block_verdict f w k room) f.samples
  unfolding block_verdict decided
  part_none t = let u : has_block f w k ≡ false = sym e ∙ not-true there t in simp u

  module _ (t : not there ≡ false) where
    is-there : has_block f w k ≡ true
    is-there = sym e ∙ not-false there t

    pub part_small : room < f.samples * f.channels → Err OutputTooSmall ≡ decoded_by (block_verdict f w k room) f.samples
    unfolding block_verdict decided
    part_small h = simp (tests, is-there)

    module _ (h : f.samples * f.channels ≤ room) {b : List ℕ} (g : b ≡ block_at f w k) {valid : Bool} (i : valid ≡ block_valid f b) where
      fine-is : {v : Bool} → valid ≡ v → block_valid f (block_at f w k) ≡ v
      fine-is u = ap (block_valid f) (sym g) ∙ sym i ∙ u

      pub part-wrong : not valid ≡ true → Err BlockHeaderWrong ≡ decoded_by (block_verdict f w k room) f.samples
      unfolding block_verdict decided
      part-wrong u = let v = fine-is (not-true valid u) in simp (tests, is-there, v)

      pub part-valid : not valid ≡ false → Ok (record { 0 = f.samples }) ≡ decoded_by (block_verdict f w k room) f.samples
      unfolding block_verdict decided
      part-valid u = let v = fine-is (not-false valid u) in simp (tests, is-there, v)

-- what a block that is there promises
module _ (f : Format) (w : List ℕ) (k : ℕ) {there : Bool} (e : there ≡ has_block f w k) (t : not there ≡ false) where
  both : (needs_fact f ≡ true) × (ltb k (block_count f w) ≡ true)
  unfolding has_block
  both = and_both (needs_fact f) (ltb k (block_count f w)) (sym e ∙ not-false there t)

  pub part-counted : k < block_count f w
  part-counted = ltb-true k (block_count f w) both.1

  pub part-adpcm : needs_fact f ≡ true
  part-adpcm = both.0

pub part_sound : (f : Format) (w : List ℕ) (k : ℕ) (d : List ℤ) {b : List ℕ} {out : List ℤ}
    → b ≡ block_at f w k → out ≡ front (block_frames f f.samples b) d → out ≡ front (block_sound f w k) d
unfolding block_sound
part_sound f w k d g h = h ∙ ap (λ (b : List ℕ). front (block_frames f f.samples b) d) g

pub ruleset parts = (block-fits, is-valid, part_none, part_small, part-wrong, part-valid, part-counted, part-adpcm, part_sound)
