-- A record that was read is written in no more bytes than the file it was read from has with its last pad: chunk by chunk, as each
-- is written in its shortest form. Assumes nothing.
use mathlib.Core.Path.{◌≡◌, refl, sym, ap, subst}
use mathlib.Core.Bool.{Bool, true, false, cond}
use mathlib.Core.List.{List, []}
use Prim.Native.Nat.{ℕ, ◌+◌, ◌%◌, ◌≤◌}
use native.Mathlib.Omega.{arith}
use lib.Dec.{leb}
use lib.ListN.{length}
use borrow.Author.Tests.{leb-true}
use Rattle.little.specs.Numbers.{number_at, number_in}
use Rattle.units.specs.declared.Frames.{Frames}
use Rattle.riff.specs.declared.Directory.{Directory}
use Rattle.riff.specs.Chunks.{is_there, pad_lost, Spot}
use Rattle.riff.specs.Walk.{part_of, directory_of}
use Rattle.riff.specs.Laying.{extent, extent_if}
use Rattle.riff.specs.Demands.{spot_extent}
use Rattle.riff.proofs.Laying.{length-laid}
use Rattle.riff.proofs.Tiling.{room-for-all}
use Rattle.formats.specs.Format.{format_of}
use Rattle.formats.specs.Frames.{fact_form, needs_fact}
use Rattle.formats.specs.Bytes.{fact_bytes}
use Rattle.formats.proofs.Lengths.{fact-long}
use Rattle.formats.proofs.Written.{format-shortest}
use Rattle.tables.specs.Tables.{count_in}
use Rattle.tables.specs.Cues.{names_in, cues_of}
use Rattle.tables.specs.Plays.{plays_of}
use Rattle.tables.specs.Bytes.{cues_bytes, plays_bytes}
use Rattle.tables.proofs.Written.{cues-read-long, plays-read-long}
use Rattle.titles.specs.declared.Titles.{Titles}
use Rattle.titles.specs.Titles.{Entry, entries_of}
use Rattle.titles.specs.Lists.{entries_in, list_valid, titles_of}
use Rattle.titles.specs.Writing.{list_bytes}
use Rattle.titles.proofs.Round.{none-titles, valid-shorter}
use Rattle.rules.specs.Rules.{record_of}
use Rattle.reader.specs.Content.{zeros, format_part, sound_part, cue_part, playlist_part, titles_part, record_at, verdict_at}
use Rattle.reader.proofs.Kept.{formed, titles-valid}
use Rattle.writer.specs.File.{titles_chunk, parts_of, file_of}
use Rattle.std.specs.Prelude.{None, Ok, Some}

-- ---- a chunk that stands in the file
wider : {n m : ℕ} → n ≤ m → extent n ≤ extent m
wider h = omega arith

stands : (s : List ℕ) (spot : Spot) {n : ℕ} → is_there spot ≡ true → n ≤ length (part_of s spot []) → extent n ≤ spot_extent s spot
stands s (Some p) t h = wider h
stands s None t h = absurd (subst (λ (b : Bool). cond b ⊥ (Unit {0})) t tt)

-- ---- the fact
fact-fits : (s : List ℕ) (spot : Spot) (b : Bool) (frames : Frames) → fact_form (part_of s spot (cond b [] zeros)) ≡ true
    → extent_if (record { there = b; bytes = fact_bytes frames }) ≤ spot_extent s spot
unfolding extent_if fact_form
fact-fits s (Some p) true frames e = wider (omega (arith, fact-long frames, leb-true 4 (length (part_of s (Some p) [])) e))
fact-fits s None true frames e = absurd (subst (λ (b : Bool). cond b ⊥ (Unit {0})) e tt)
fact-fits s (Some p) false frames e = omega arith
fact-fits s None false frames e = omega arith

-- ---- a table, of which an absent one has no entries
table_fits : (s : List ℕ) (spot : Spot) (bytes : List ℕ → List ℕ) → length (bytes (part_of s spot zeros)) ≡ length (part_of s spot zeros)
    → extent_if (record { there = leb 1 (count_in (part_of s spot zeros)); bytes = bytes (part_of s spot zeros) }) ≤ spot_extent s spot
unfolding extent_if count_in number_at number_in
table_fits s (Some p) bytes e = by (leb 1 (count_in (part_of s (Some p) zeros)))
  where
    by : (b : Bool) → cond b (extent (length (bytes (part_of s (Some p) zeros)))) 0 ≤ extent (length (part_of s (Some p) []))
    by true = wider (omega (arith, e))
    by false = omega arith
table_fits s None bytes e = omega arith

-- ---- the list of titles: each of them was there, and its other chunks are left out
titles-fit : (s : List ℕ) (spot : Spot) (b : List ℕ) (lost : Bool) (names : List ℕ) → list_valid lost (part_of s spot []) names ≡ true
    → entries_of b (titles_of (part_of s spot [])) ≡ entries_in (part_of s spot [])
    → extent_if (titles_chunk b (titles_of (part_of s spot []))) ≤ spot_extent s spot
unfolding extent_if
titles-fit s (Some p) b lost names v e = by (leb 1 (titles_of l).count) refl
  where
    l : List ℕ
    l = part_of s (Some p) []

    by : (x : Bool) → leb 1 (titles_of l).count ≡ x → cond x (extent (length (list_bytes (entries_of b (titles_of l))))) 0 ≤ extent (length l)
    by true t =
        let n : length (list_bytes (entries_of b (titles_of l))) ≡ length (list_bytes (entries_in l)) = ap (λ (es : List Entry). length (list_bytes es)) e in
        omega (arith, n, valid-shorter lost l names v (leb-true 1 (titles_of l).count t))
    by false t = omega arith
titles-fit s None b lost names v e =
    let n : (titles_of []).count ≡ 0 = ap (λ (t : Titles). t.count) none-titles in
    subst (λ (k : ℕ). cond (leb 1 k) (extent (length (list_bytes (entries_of b (titles_of []))))) 0 ≤ 0) (sym n) (omega arith)

module _ (s : List ℕ) (d : Directory) (walked : directory_of s ≡ Ok d) (f : is_there d.format ≡ true) (g : is_there d.sound ≡ true)
    (e : verdict_at s d ≡ Ok tt) (b : List ℕ) (told : entries_of b (titles_of (titles_part s d)) ≡ entries_in (titles_part s d)) where
  pub not-longer : length (file_of (record_at s d) b (sound_part s d)) ≤ length s + length s % 2
  unfolding file_of parts_of record_of cues_of plays_of
  not-longer =
      let k = formed s d e in
      let a = stands s d.format f (format-shortest (format_part s d) k.format) in
      let x = fact-fits s d.fact (needs_fact (format_of (format_part s d))) (record_at s d).frames k.fact in
      let c = table_fits s d.cues (λ p. cues_bytes (cues_of p)) (cues-read-long (cue_part s d) k.cues) in
      let p = table_fits s d.plays (λ p. plays_bytes (plays_of p)) (plays-read-long (playlist_part s d) k.plays) in
      let t = titles-fit s d.titles b (pad_lost d.titles) (names_in (record_at s d).cues) (titles-valid s d k) told in
      let w = stands s d.sound {n = length (sound_part s d)} g (omega arith) in
      omega (arith, length-laid (parts_of (record_at s d) b (sound_part s d)), room-for-all s d walked, a, x, c, p, t, w)
