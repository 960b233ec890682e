-- The file of a copy: its record is read back as it was written, since its tables are empty, and the file is never above the
-- limit, since a block has no more bytes than samples. Assumes nothing.
use mathlib.Core.Path.{◌≡◌, refl, sym}
use mathlib.Core.Bool.{true}
use mathlib.Core.List.{List, []}
use Prim.Native.Nat.{ℕ, ◌+◌, ◌-◌, ◌*◌, ◌/◌, ◌%◌, ◌≤◌}
use native.Mathlib.Nat.{mul_comm, mul_left_comm, mul-add, mul-le-mul_left, div-mul-le_self}
use native.Mathlib.Omega.{arith}
use lib.IntN.{ℤ}
use lib.ListN.{length, length-replicate}
use Rattle.lists.specs.Among.{distinct}
use Rattle.lists.specs.Every.{every}
use Rattle.units.specs.Refusals.{file_limit}
use Rattle.units.specs.declared.BytePlace.{BytePlace}
use Rattle.units.specs.declared.Frames.{Frames}
use Rattle.formats.specs.Frames.{needs_fact}
use Rattle.formats.proofs.Bounds.{taken-fits, frames-bound}
use Rattle.formats.proofs.Lengths.{format-ima-long, fact-long}
use Rattle.tables.specs.Tables.{held}
use Rattle.tables.specs.Cues.{no_cue}
use Rattle.tables.specs.Plays.{no_play}
use Rattle.tables.specs.Bytes.{zero_past, cues_kept, plays_kept, CuesFit, PlaysFit}
use Rattle.tables.proofs.Entries.{all-zero}
use Rattle.titles.specs.Titles.{first_entries, each_rule, names_by, entries_rule, table_of}
use Rattle.titles.specs.Writing.{titles_right, texts_in_row, titles_kept, TitlesFit}
use Rattle.rules.specs.Rules.{Writable}
use Rattle.rules.specs.Written.{record_kept, RecordFits}
use Rattle.rules.proofs.Again.{none-fit}
use Rattle.writer.specs.File.{fact_chunk, cues_chunk, plays_chunk, titles_chunk, file_of, right_titles}
use Rattle.writer.proofs.Sizes.{left_out, as_written, file-size}
use Rattle.formats.specs.Format.{ima_samples, ima_format}
use Rattle.encode.specs.Encoding.{blocks_for, encoded_bytes}
use Rattle.formats.proofs.Making.{Codable}
use Rattle.encode.proofs.Heard.{by-channels}
use Rattle.approval.specs.Approval.{approval_record}
use Rattle.approval.specs.Demands.{record_for}
use Rattle.approval.proofs.Rules.{sound-long}

-- ---- the tables are empty
module _ (c rate a : ℕ) (frames : Frames) where
  pub kept_same : record_kept (approval_record c rate a frames) ≡ approval_record c rate a frames
  unfolding record_kept cues_kept plays_kept titles_kept zero_past held table_of approval_record
  kept_same = refl

  cues-fit : CuesFit (approval_record c rate a frames).cues
  unfolding approval_record
  cues-fit =
      record {
        count = omega arith;
        room = length-replicate 64 no_cue;
        name = λ i. rw (all-zero no_cue 64 i) (omega arith);
        position = λ i. rw (all-zero no_cue 64 i) (omega arith);
        place = λ i. rw (all-zero no_cue 64 i) (omega arith);
      }

  plays-fit : PlaysFit (approval_record c rate a frames).playlist
  unfolding approval_record
  plays-fit =
      record {
        count = omega arith;
        room = length-replicate 64 no_play;
        name = λ i. rw (all-zero no_play 64 i) (omega arith);
        long = λ i. rw (all-zero no_play 64 i) (omega arith);
        times = λ i. rw (all-zero no_play 64 i) (omega arith);
      }

  titles-fit : TitlesFit (approval_record c rate a frames).titles
  unfolding approval_record
  titles-fit = none-fit

  -- titles that there are none of need no texts
  pub titles-right : right_titles (approval_record c rate a frames) [] ≡ true
  unfolding approval_record titles_right texts_in_row entries_rule each_rule every names_by distinct first_entries
  titles-right = refl

  -- a record that keeps the rules fits its fields
  pub record-fits : {n : BytePlace} → Writable (approval_record c rate a frames) n → n.0 ≤ file_limit
      → RecordFits (approval_record c rate a frames)
  record-fits {n} k l =
      let m = approval_record c rate a frames in
      record {
        format = taken-fits m.format k.format;
        frames = frames-bound m.format n m.frames k.format k.count l;
        cues = cues-fit;
        plays = plays-fit;
        titles = titles-fit;
      }

-- ---- the limit
module _ (s : List ℤ) (c rate a : ℕ) (w : Codable c a) where
  abbrev bytes : List ℕ
  bytes = encoded_bytes c a s

  -- 12 bytes, `fmt ` of 20, `fact` of 4, and the sound, with eight before each
  file-long : length (file_of (record_for s c rate a) [] bytes) ≡ 60 + (length bytes + length bytes % 2)
  unfolding approval_record ima_format needs_fact
  file-long =
      let m = record_for s c rate a in
      let n : ◌≡◌ {A = ℕ} 17 1 → ⊥ = λ e. omega arith in
      let l = file-size m [] bytes (format-ima-long m.format n refl) refl
      (as_written (fact_chunk m.format m.frames) {x = true} refl (sym (fact-long m.frames)) refl refl) (left_out (cues_chunk m.cues) refl)
      (left_out (plays_chunk m.playlist) refl) (left_out (titles_chunk [] m.titles) refl) in
      omega arith

  -- a block has no more bytes than samples
  dense : a ≤ c * ima_samples c a
  unfolding ima_samples
  dense = by-channels (λ n. a ≤ n * ima_samples n a) w (λ e. omega (arith, w.least)) (λ e. omega (arith, w.least))

  -- and half a byte for each sample at least
  spare : c * ima_samples c a ≤ 2 * a
  unfolding ima_samples
  spare = by-channels (λ n. n * ima_samples n a ≤ 2 * a) w (λ e. omega (arith, w.least)) (λ e. omega (arith, w.least))

  -- no more bytes than samples, but for what fills the last block
  sound-bound : length bytes ≤ length s + 8192
  unfolding blocks_for
  sound-bound =
      let p : ℕ = ima_samples c a in
      let f : ℕ = length s / c in
      let b : ℕ = (f + p - 1) / p in
      let x : b * a ≤ b * (c * p) = mul-le-mul_left b dense in
      let y : c * (b * p) ≤ c * (f + p - 1) = mul-le-mul_left c (div-mul-le_self (f + p - 1) p) in
      let z : c * (f + p - 1) ≤ c * (f + p) = mul-le-mul_left c (omega arith) in
      let l : length bytes ≡ b * a = sound-long w s in
      omega (arith, spare, w.most, mul_left_comm b c p, mul-add c f p, mul_comm f c, div-mul-le_self (length s) c)

  pub file-below : length s ≤ 536870912 → length (file_of (record_for s c rate a) [] bytes) ≤ file_limit
  file-below h = omega (arith, file-long, sound-bound)
