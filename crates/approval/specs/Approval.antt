-- The record of an approval copy. Assumes nothing.
use Rattle.std.specs.Prelude.{ℕ}
use Rattle.units.specs.declared.Frames.{Frames}
use Rattle.formats.specs.Format.{ima_format}
use Rattle.rules.specs.declared.Record.{Record}
use Rattle.rules.specs.Rules.{bare}

-- c channels at a rate in IMA blocks of align a, so many frames; no cues, no playlist and no titles
unfoldable pub approval_record : ℕ → ℕ → ℕ → Frames → Record
approval_record c rate a frames = bare (ima_format c rate a) frames
