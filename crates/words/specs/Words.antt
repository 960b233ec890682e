-- A record as 906 words: put into words, and taken from them. Assumes nothing.
use Rattle.std.specs.Prelude.{ℕ, zero, suc, ◌+◌, ◌*◌, Bool, List, [], ◌∷◌, ◌++◌, get_or, set, replicate}
use Rattle.lists.specs.Every.{all_below}
use Rattle.formats.specs.declared.Format.{Format}
use Rattle.tables.specs.declared.Cue.{Cue}
use Rattle.tables.specs.declared.Play.{Play}
use Rattle.tables.specs.Cues.{no_cue}
use Rattle.tables.specs.Plays.{no_play}
use Rattle.tables.specs.Bytes.{entry_bytes}
use Rattle.titles.specs.declared.Title.{Title}
use Rattle.titles.specs.declared.Titles.{Titles}
use Rattle.titles.specs.Titles.{no_title}
use Rattle.rules.specs.declared.Record.{Record}

-- ---- into words

-- tag, channels, rate, bits, align, samples, frames, cue count, play count
abbrev pub head_words : Record → List ℕ
head_words m =
    m.format.tag
    ∷ m.format.channels
    ∷ m.format.rate
    ∷ m.format.bits
    ∷ m.format.align
    ∷ m.format.samples
    ∷ m.frames.0
    ∷ m.cues.count
    ∷ m.playlist.count
    ∷ []

-- name, position, place
abbrev pub cue_words : Cue → List ℕ
cue_words c = c.name.0 ∷ c.position.0 ∷ c.place.0 ∷ []

-- name, length, times
abbrev pub play_words : Play → List ℕ
play_words p = p.name.0 ∷ p.length.0 ∷ p.times ∷ []

-- kind, name, start of the text, bytes before its zero
abbrev pub title_words : Title → List ℕ
title_words t = t.kind ∷ t.name.0 ∷ t.start.0 ∷ t.length.0 ∷ []

-- title count, 128 titles
unfoldable pub titles_words : Titles → List ℕ
titles_words t = t.count ∷ entry_bytes title_words t.list

-- 64 cues, and 64 entries
abbrev pub table_words : Record → List ℕ
table_words m = entry_bytes cue_words m.cues.list ++ entry_bytes play_words m.playlist.list

-- the numbers, the two tables, and the titles
unfoldable pub record_words : Record → List ℕ
record_words m = head_words m ++ (table_words m ++ titles_words m.titles)

-- ---- from words

abbrev pub word : List ℕ → ℕ → ℕ
word w i = get_or w i 0

-- tag, channels, bits, align and samples have fields of 16 bits
unfoldable pub fields_fit : List ℕ → Bool
fields_fit w = all_below 65536 (word w 0 ∷ word w 1 ∷ word w 3 ∷ word w 4 ∷ word w 5 ∷ [])

unfoldable pub format_from : List ℕ → Format
format_from w =
    record {
      tag = word w 0;
      channels = word w 1;
      rate = word w 2;
      bits = word w 3;
      align = word w 4;
      samples = word w 5;
    }

abbrev pub cue_from : List ℕ → ℕ → Cue
cue_from w at =
    record { name = record { 0 = word w at }; position = record { 0 = word w (at + 1) }; place = record { 0 = word w (at + 2) } }

abbrev pub play_from : List ℕ → ℕ → Play
play_from w at = record { name = record { 0 = word w at }; length = record { 0 = word w (at + 1) }; times = word w (at + 2) }

abbrev pub title_from : List ℕ → ℕ → Title
title_from w at =
    record {
      kind = word w at;
      name = record { 0 = word w (at + 1) };
      start = record { 0 = word w (at + 2) };
      length = record { 0 = word w (at + 3) };
    }

-- room for 64 cues, of which the first n are those of w, from word 9 on
unfoldable pub cues_from : List ℕ → ℕ → List Cue
cues_from w zero = replicate 64 no_cue
cues_from w (suc n) = set (cues_from w n) n (cue_from w (9 + 3 * n))

-- room for 64 entries, of which the first n are those of w, from word 201 on
unfoldable pub entries_from : List ℕ → ℕ → List Play
entries_from w zero = replicate 64 no_play
entries_from w (suc n) = set (entries_from w n) n (play_from w (201 + 3 * n))

-- room for 128 titles, of which the first n are those of w, from word 394 on
unfoldable pub titles_from : List ℕ → ℕ → List Title
titles_from w zero = replicate 128 no_title
titles_from w (suc n) = set (titles_from w n) n (title_from w (394 + 4 * n))

unfoldable pub record_from : List ℕ → Record
record_from w =
    record {
      format = format_from w;
      frames = record { 0 = word w 6 };
      cues = record { count = word w 7; list = cues_from w 64 };
      playlist = record { count = word w 8; list = entries_from w 64 };
      titles = record { count = word w 393; list = titles_from w 128 };
    }
