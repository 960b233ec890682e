-- What decoding promises besides its definition: each by the cases of what a file holds. Assumes nothing.
use mathlib.Core.Path.{◌≡◌, refl, sym, ◌∙◌}
use mathlib.Core.Bool.{true, false, not, cond}
use mathlib.Core.List.{List, [], map}
use Prim.Native.Nat.{ℕ, ◌-◌, ◌*◌, ◌≤◌, ◌<◌}
use native.Mathlib.Nat.{div-le_self}
use native.Mathlib.Omega.{arith}
use lib.Dec.{leb, eqb}
use lib.ListN.{length, take, drop}
use Rattle.units.specs.declared.Frames as units
use Rattle.units.specs.Refusals.{verdict_number, Verdict}
use Rattle.units.specs.Checks.{number_by, number_or, AllMet}
use Rattle.units.proofs.Checks.{all-met, number-row}
use borrow.Author.Tests.{leb-true}
use Rattle.samples.specs.Sound.{samples_in, eight}
use Rattle.formats.specs.declared.Format.{Format}
use Rattle.formats.specs.Frames.{needs_fact, blocks_in, Sounding}
use Rattle.lists.proofs.Laws.{by_eqb}
use Rattle.formats.proofs.Taken.{frames-begun, wanted-tag}
use Rattle.rules.specs.Rules.{blank, record_in, reading_verdict}
use Rattle.reader.specs.Content.{Content, refused, holds, content_of, reading_of, sound_of, reading, sound_in}
use Rattle.reader.proofs.Kept.{content-kept}
use Rattle.sound_data.specs.Sound.{block_valid, block_count, block_at, has_block, whole_sound, data_valid}
use Rattle.sound_data.proofs.Pcm.{eight-whole, sixteen-whole}
use Rattle.sound_data.proofs.Whole.{whole_long, block-long, block-of-whole}
use Rattle.decode.specs.Decoding.{whole_checks, whole_verdict, block_checks, block_verdict, decoded_by, whole_answer, block_answer, decoding, block_decoding, content_sound, content_block, file_sound, file_block, decoded_frames, decoded_number}
use Rattle.decode.specs.Demands.{Told, WholeTold, BlockTold, OneOfAll, PcmSound, DecodeNumbered, BlockNumbered}
use Rattle.decode.proofs.Checks.{part-counted, part-adpcm}
use Rattle.std.specs.Prelude.{Err, Ok}

-- ---- an answer that is frames
frames-are : (v : Verdict) (k : ℕ) (n : units.Frames) → decoded_by v k ≡ Ok n
    → (v ≡ Ok tt) × (decoded_frames (decoded_by v k) ≡ k)
frames-are (Ok _) k n e = (refl, refl)
frames-are (Err r) k n e = let z : ◌≡◌ {A = ℕ} 0 1 = cc in absurd (omega arith)

-- ---- a verdict that is taken: there is room, and there is such a block
room-is : (f : Format) (n : ℕ) (w : List ℕ) (room : ℕ) → whole_verdict f n w room ≡ Ok tt → n * f.channels ≤ room
unfolding whole_verdict AllMet
room-is f n w room e = leb-true (n * f.channels) room (all-met (whole_checks f n w room) e).0

module _ (f : Format) (w : List ℕ) (k room : ℕ) (e : block_verdict f w k room ≡ Ok tt) where
  met : (has_block f w k ≡ true) × (leb (f.samples * f.channels) room ≡ true)
  unfolding block_verdict AllMet
  met = let p = all-met (block_checks f w k room) e in (p.0, p.1.0)

  there-is : k < block_count f w
  there-is = part-counted f w k {there = true} (sym met.0) refl

-- ---- what is told is put out
pub whole-told : WholeTold
unfolding WholeTold decoding file_sound reading
whole-told s room n = by (content_of s) refl
  where
    by : (c : Content) → c ≡ content_of s → whole_answer c room ≡ Ok n
        → Told (whole_answer c room) (content_sound c) (record_in (reading_of c)).frames.0 (record_in (reading_of c)).format.channels room
    by (refused r) e h = let z : ◌≡◌ {A = ℕ} 0 1 = cc in absurd (omega arith)
    by (holds m w) e h =
        let v : Verdict = whole_verdict m.format m.frames.0 w room in
        let p = frames-are v m.frames.0 n h in
        let l = whole_long (content-kept s e) in
        record { frames = p.1; long = l; room = omega (arith, l, room-is m.format m.frames.0 w room p.0) }

pub block-told : BlockTold
unfolding BlockTold block_decoding file_block reading
block-told s k room n = by (content_of s) refl
  where
    by : (c : Content) → c ≡ content_of s → block_answer c k room ≡ Ok n
        → Told (block_answer c k room) (content_block c k) (record_in (reading_of c)).format.samples (record_in (reading_of c)).format.channels room
    by (refused r) e h = let z : ◌≡◌ {A = ℕ} 0 1 = cc in absurd (omega arith)
    by (holds m w) e h =
        let f : Format = m.format in
        let p = frames-are (block_verdict f w k room) f.samples n h in
        let l = block-long f w k (content-kept s e).rule (there-is f w k room p.0) in
        record {
          frames = p.1;
          long = l;
          room = omega (arith, l, leb-true (f.samples * f.channels) room (met f w k room p.0).1);
        }

-- ---- the record of a refused file is all zero: it has no blocks, and is not PCM
none : (k : ℕ) → has_block blank.format [] k ≡ true → ⊥
unfolding block_count blocks_in
none k e = omega (arith, part-counted blank.format [] k {there = true} (sym e) refl, div-le_self 0 0)

some-fact : needs_fact blank.format ≡ false → ⊥
unfolding needs_fact
some-fact e = let z : ◌≡◌ {A = ℕ} 0 1 = cc in absurd (omega arith)

begun-is : (f : Format) (n : units.Frames) (w : List ℕ) (k : ℕ) → Sounding f n w → needs_fact f ≡ true → k < block_count f w
    → k * f.samples < n.0
unfolding block_count
begun-is f n w k q a g = frames-begun f (record { 0 = length w }) n q.count k (wanted-tag f a) g

-- ---- a block is its part of the whole
pub one_of_all : OneOfAll
unfolding OneOfAll file_sound file_block reading sound_in
one_of_all s k h = let p = by (content_of s) refl h in record { begun = p.0; same = p.1 }
  where
    by : (c : Content) → c ≡ content_of s → has_block (record_in (reading_of c)).format (sound_of c) k ≡ true
        → (k * (record_in (reading_of c)).format.samples < (record_in (reading_of c)).frames.0)
        × (take ((record_in (reading_of c)).format.samples * (record_in (reading_of c)).format.channels)
        (drop (k * ((record_in (reading_of c)).format.samples * (record_in (reading_of c)).format.channels)) (content_sound c))
        ≡ take (((record_in (reading_of c)).frames.0 - k * (record_in (reading_of c)).format.samples) * (record_in (reading_of c)).format.channels) (content_block c k))
    by (refused r) e h = absurd (none k h)
    by (holds m w) e h =
        let q = content-kept s e in
        let g = part-counted m.format w k {there = true} (sym h) refl in
        let a = part-adpcm m.format w k {there = true} (sym h) refl in
        (begun-is m.format m.frames w k q a g, block-of-whole q k g)

-- ---- PCM in one go
pub pcm-sound : PcmSound
unfolding PcmSound file_sound reading sound_in
pcm-sound s h = by (content_of s) refl h
  where
    by : (c : Content) → c ≡ content_of s → needs_fact (record_in (reading_of c)).format ≡ false
        → content_sound c ≡ cond (eqb (record_in (reading_of c)).format.bits 8) (map eight (sound_of c)) (samples_in (sound_of c))
    by (refused r) e h = absurd (some-fact h)
    by (holds m w) e h =
        let q = content-kept s e in
        let f : Format = m.format in
        by_eqb f.bits 8 (λ b. whole_sound f m.frames.0 w ≡ cond b (map eight w) (samples_in w))
        (λ t. eight-whole f m.frames w q h t)
        (λ t. sixteen-whole f m.frames w q h t)

-- ---- the numbers: each check is a row
answer-number : (v : Verdict) (n : ℕ) → decoded_number (decoded_by v n) ≡ verdict_number v
answer-number (Ok _) n = refl
answer-number (Err r) n = refl

pub numbered : DecodeNumbered
unfolding DecodeNumbered decoding reading sound_in whole_verdict number_by
numbered s room = by (content_of s)
  where
    by : (c : Content)
        → decoded_number (whole_answer c room)
        ≡ number_or (reading_verdict (reading_of c))
        (cond (not (leb ((record_in (reading_of c)).frames.0 * (record_in (reading_of c)).format.channels) room)) 14
        (cond (not (data_valid (record_in (reading_of c)).format (sound_of c))) 15 0))
    by (refused r) = refl
    by (holds m w) = answer-number (whole_verdict m.format m.frames.0 w room) m.frames.0 ∙ number-row (whole_checks m.format m.frames.0 w room)

pub block-numbered : BlockNumbered
unfolding BlockNumbered block_decoding reading sound_in block_verdict number_by
block-numbered s k room = by (content_of s)
  where
    by : (c : Content)
        → decoded_number (block_answer c k room)
        ≡ number_or (reading_verdict (reading_of c))
        (cond (not (has_block (record_in (reading_of c)).format (sound_of c) k)) 20
        (cond (not (leb ((record_in (reading_of c)).format.samples * (record_in (reading_of c)).format.channels) room)) 14
        (cond (not (block_valid (record_in (reading_of c)).format (block_at (record_in (reading_of c)).format (sound_of c) k))) 15 0)))
    by (refused r) = refl
    by (holds m w) = answer-number (block_verdict m.format w k room) m.format.samples ∙ number-row (block_checks m.format w k room)
