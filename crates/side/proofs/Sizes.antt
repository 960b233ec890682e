-- How long the file of a PCM record with cues and entries is: each table is 12 bytes and its entries. Assumes nothing.
use mathlib.Core.Path.{◌≡◌, refl, sym}
use mathlib.Core.List.{List}
use Prim.Native.Nat.{ℕ, ◌+◌, ◌*◌, ◌%◌, ◌≤◌}
use native.Mathlib.Omega.{arith}
use lib.ListN.{length}
use borrow.Author.Tests.{le-leb}
use Rattle.formats.proofs.Taken.{fact-unneeded}
use Rattle.formats.proofs.Lengths.{format-pcm-long}
use Rattle.tables.proofs.Entries.{held_all}
use Rattle.tables.proofs.Lengths.{cues-long, plays-long}
use Rattle.rules.specs.declared.Record.{Record}
use Rattle.riff.specs.Laying.{extent_if}
use Rattle.writer.specs.File.{fact_chunk, cues_chunk, plays_chunk, titles_chunk, file_of}
use Rattle.writer.proofs.Sizes.{left_out, as_written, file-size}

pub file-long : (m : Record) (b w : List ℕ) (n : ℕ) → m.format.tag ≡ 1 → m.cues.count ≡ n → m.playlist.count ≡ n → 1 ≤ n → n ≤ 64
    → length m.cues.list ≡ 64 → length m.playlist.list ≡ 64 → length w % 2 ≡ 0
    → length (file_of m b w) ≡ 68 + 36 * n + extent_if (titles_chunk b m.titles) + length w
file-long m b w n tag c p some few cue_room play_room even =
    let a = held_all m.cues.count (omega arith) in
    let h = held_all m.playlist.count (omega arith) in
    let i = sym (le-leb 1 m.cues.count (omega arith)) in
    let j = sym (le-leb 1 m.playlist.count (omega arith)) in
    let d = as_written (cues_chunk m.cues) {n = 4 + 24 * n} i (omega (arith, cues-long m.cues cue_room)) (omega arith) refl in
    let e = as_written (plays_chunk m.playlist) {n = 4 + 12 * n} j (omega (arith, plays-long m.playlist play_room)) (omega arith) refl in
    let f = left_out (fact_chunk m.format m.frames) (fact-unneeded m.format tag) in
    omega (arith, file-size m b w (format-pcm-long m.format tag) refl f d e refl)
