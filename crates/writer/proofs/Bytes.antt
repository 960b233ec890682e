-- A written file is bytes where its sound and the texts of its titles are, since each of its chunks is. Assumes nothing.
use mathlib.Core.List.{List}
use Prim.Native.Nat.{ℕ}
use lib.Dec.{T}
use lib.Pow.{are_bytes}
use Rattle.riff.proofs.Bytes.{laid-bytes}
use Rattle.formats.proofs.Bytes.{format-bytes, fact-bytes}
use Rattle.tables.proofs.Bytes.{cues-bytes, plays-bytes}
use Rattle.titles.proofs.Round.{list-bytes}
use Rattle.rules.specs.declared.Record.{Record}
use Rattle.writer.specs.File.{parts_of, file_of}

pub file-bytes : (m : Record) (b w : List ℕ) → T (are_bytes b) → T (are_bytes w) → T (are_bytes (file_of m b w))
unfolding file_of parts_of
file-bytes m b w u t =
    laid-bytes (parts_of m b w) (format-bytes m.format) (fact-bytes m.frames) (cues-bytes m.cues) (plays-bytes m.playlist)
    (list-bytes b m.titles u) t
