-- A record that was read of a file of bytes fits the fields that it is written to, and is as it would be read back: each of its
-- chunks is a part of the file, or absent. Assumes nothing.
use mathlib.Core.Path.{◌≡◌, refl, subst}
use mathlib.Core.List.{List, []}
use Prim.Native.Nat.{ℕ}
use native.Mathlib.Omega.{arith}
use lib.Dec.{T}
use lib.Pow.{are_bytes}
use Rattle.riff.proofs.Parting.{part_bytes_lem, part-within}
use Rattle.riff.proofs.Walking.{whole-limit}
use Rattle.rules.specs.declared.Record.{Record}
use Rattle.rules.specs.Written.{record_kept, RecordFits}
use Rattle.riff.specs.Chunks.{pad_lost}
use Rattle.tables.specs.Cues.{names_in}
use Rattle.titles.specs.Lists.{titles_of}
use Rattle.titles.proofs.Round.{titles-kept, titles-fit, valid-few}
use Rattle.rules.specs.Rules.{record_of}
use Rattle.rules.proofs.Again.{record-fits, titled-fits, titled-kept-read}
use Rattle.reader.specs.Content.{holds, zeros, titles_part, chunks_at, record_at, content_of}
use Rattle.reader.proofs.Kept.{held, formed, titles-valid}

module _ (s : List ℕ) {m : Record} {w : List ℕ} (e : holds m w ≡ content_of s) where
  pub content-fits : T (are_bytes s) → RecordFits m
  content-fits t =
      let h = held s e in
      let d = h.places in
      let l = whole-limit s refl h.walked in
      let f = formed s d h.verdict in
      let r = f.rules in
      let few = valid-few (pad_lost d.titles) (titles_part s d) (names_in (record_at s d).cues) (titles-valid s d f) in
      subst RecordFits h.made
      (titled-fits (record_of (chunks_at s d)) (titles_of (titles_part s d))
      (record-fits (chunks_at s d) (part_bytes_lem s d.cues zeros t tt) (part_bytes_lem s d.plays zeros t tt)
      (omega (arith, part-within s d.sound))
      (record { format = r.format; whole = r.whole; count = r.count; cues = r.cues; plays = r.plays }))
      (titles-fit (titles_part s d) (part_bytes_lem s d.titles [] t tt) few))

  pub content-kept-read : record_kept m ≡ m
  content-kept-read =
      let h = held s e in
      subst (λ (x : Record). record_kept x ≡ x) h.made (titled-kept-read (chunks_at s h.places) (titles-kept (titles_part s h.places)))
