-- How long a chunk, the sound and the file are, in the words of the code. Assumes nothing.
use mathlib.Core.Path.{◌≡◌, refl, sym, ap, ◌∙◌}
use mathlib.Core.Bool.{Bool, true, false, cond}
use mathlib.Core.List.{List, ◌++◌}
use Prim.Native.Nat.{ℕ, ◌+◌, ◌%◌}
use native.Mathlib.Omega.{arith}
use lib.ListN.{length, length-append}
use lib.Dec.{leb}
use Rattle.riff.specs.Laying.{Part, extent, extent_if}
use Rattle.riff.proofs.Laying.{length-laid}
use Rattle.formats.specs.Frames.{needs_fact}
use Rattle.formats.specs.Bytes.{format_bytes}
use Rattle.formats.proofs.Lengths.{fact-long}
use Rattle.tables.specs.Bytes.{cues_bytes, plays_bytes}
use Rattle.titles.specs.Titles.{entries_of}
use Rattle.titles.specs.Writing.{list_bytes}
use Rattle.rules.specs.declared.Record.{Record}
use Rattle.writer.specs.File.{fact_chunk, cues_chunk, plays_chunk, titles_chunk, parts_of, file_of}

-- ---- a chunk that is written or left out
module _ (p : Part) where
  pub left_out : p.there ≡ false → 0 ≡ extent_if p
  unfolding extent_if
  left_out e = simp e

  pub as_written : {x : Bool} {n k : ℕ} → x ≡ p.there → n ≡ length p.bytes → n % 2 ≡ 0 → k ≡ cond x (8 + n) 0 → k ≡ extent_if p
  unfolding extent_if
  as_written {x} {n} there long even e = e ∙ ap (λ (b : Bool). cond b (8 + n) 0) there ∙ by p.there
    where
      by : (b : Bool) → cond b (8 + n) 0 ≡ cond b (extent (length p.bytes)) 0
      by true = omega (arith, long)
      by false = refl

-- ---- the sound in two parts
pub sound-size : (x y : List ℕ) → length x + length y ≡ length (x ++ y)
sound-size x y = sym (length-append x y)

-- ---- the file
module _ (m : Record) (b w : List ℕ) {fmt : ℕ} (a : fmt ≡ length (format_bytes m.format)) (e : fmt % 2 ≡ 0) where
  -- by what its chunks take
  pub file-size : {fact cue plst adtl : ℕ} → fact ≡ extent_if (fact_chunk m.format m.frames) → cue ≡ extent_if (cues_chunk m.cues)
      → plst ≡ extent_if (plays_chunk m.playlist) → adtl ≡ extent_if (titles_chunk b m.titles)
      → 12 + 8 + fmt + fact + cue + plst + adtl + 8 + length w + length w % 2 ≡ length (file_of m b w)
  unfolding file_of parts_of
  file-size c d f g = let laid = length-laid (parts_of m b w) in omega arith

  -- by how the code counts them
  module _ {x : Bool} {fact cue plst adtl : ℕ} (c : x ≡ needs_fact m.format) (d : fact ≡ cond x (8 + 4) 0)
      {cues : ℕ} (f : cues ≡ length (cues_bytes m.cues)) (g : cues % 2 ≡ 0) (h : cue ≡ cond (leb 1 m.cues.count) (8 + cues) 0)
      {plays : ℕ} (i : plays ≡ length (plays_bytes m.playlist)) (j : plays % 2 ≡ 0)
      (k : plst ≡ cond (leb 1 m.playlist.count) (8 + plays) 0)
      {titles : ℕ} (l : titles ≡ length (list_bytes (entries_of b m.titles))) (n : titles % 2 ≡ 0)
      (o : adtl ≡ cond (leb 1 m.titles.count) (8 + titles) 0) where
    pub file-counted : {size : ℕ} → size ≡ length w
        → 12 + 8 + fmt + fact + cue + plst + adtl + 8 + size + size % 2 ≡ length (file_of m b w)
    file-counted q =
        rw q (file-size (as_written (fact_chunk m.format m.frames) c (sym (fact-long m.frames)) refl d)
        (as_written (cues_chunk m.cues) refl f g h) (as_written (plays_chunk m.playlist) refl i j k)
        (as_written (titles_chunk b m.titles) refl l n o))

pub ruleset sizes = (file-counted)
