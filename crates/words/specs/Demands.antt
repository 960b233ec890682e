-- What holds of every record and its words. Assumes nothing.
use Rattle.std.specs.Prelude.{ℕ, ◌≡◌, List, ◌++◌, length}
use Rattle.rules.specs.declared.Record.{Record}
use Rattle.words.specs.Words.{record_words, record_from}

-- a record of the code's types has room for 64 cues, 64 entries and 128 titles
pub record Roomy (m : Record) : Type 0 where
  pub cues : length m.cues.list ≡ 64
  pub plays : length m.playlist.list ≡ 64
  pub titles : length m.titles.list ≡ 128

-- there are 906 words
unfoldable pub Long : Type 0
Long = (m : Record) → Roomy m → length (record_words m) ≡ 906

-- and they say the record again, whatever follows them
unfoldable pub WordsBack : Type 0
WordsBack = (m : Record) (rest : List ℕ) → Roomy m → record_from (record_words m ++ rest) ≡ m
