-- Titles with their texts: what a table of them says of some bytes, the rule on them, and their texts one after the other. Assumes
-- nothing.
use Rattle.std.specs.Prelude.{ℕ, ◌+◌, ◌-◌, Bool, cond, ◌&&◌, List, [], ◌∷◌, ◌++◌, map, ltb, leb, eqb, length, take, drop, get_or, replicate}
use Rattle.lists.specs.Among.{index_in, has, distinct}
use Rattle.lists.specs.Every.{every}
use Rattle.tables.specs.Bytes.{entry_bytes}
use Rattle.titles.specs.declared.Title.{Title}
use Rattle.titles.specs.declared.Titles.{Titles}

-- ---- a title with its text

-- `labl` 0 or `note` 1, the name of its cue, and the text with its zero
pub record Entry : Type 0 where
  pub kind : ℕ
  pub name : ℕ
  pub text : List ℕ

-- what a title says, whose text stands in some bytes
abbrev pub entry_in : List ℕ → Title → Entry
entry_in s t = record { kind = t.kind; name = t.name.0; text = take (t.length.0 + 1) (drop t.start.0 s) }

-- the first n titles of a list, and those that a table counts
unfoldable pub first_entries : List ℕ → List Title → ℕ → List Entry
first_entries s list n = map (entry_in s) (take n list)

abbrev pub entries_of : List ℕ → Titles → List Entry
entries_of s t = first_entries s t.list t.count

-- ---- the rule on them

-- "closed by a zero byte .. which is last and only there": the first zero is the last byte
unfoldable pub closed : List ℕ → Bool
closed text = eqb (index_in 0 text + 1) (length text)

-- a label or a note, whose text has at most 255 bytes before its zero, and which names a cue
unfoldable pub entry_rule : List ℕ → Entry → Bool
entry_rule names e = ltb e.kind 2 && leb (length e.text) 256 && closed e.text && has e.name names

abbrev pub no_entry : Entry
no_entry = record { kind = 0; name = 0; text = [] }

unfoldable pub each_rule : List ℕ → List Entry → Bool
each_rule names es = every (λ i. entry_rule names (get_or es i no_entry)) 0 (length es)

-- the cues that entries of a kind name
unfoldable pub names_by : ℕ → List Entry → List ℕ
names_by kind [] = []
names_by kind (e ∷ es) = cond (eqb e.kind kind) (e.name ∷ names_by kind es) (names_by kind es)

-- each keeps its rule, and there is "at most one of each chunk per cue"; names are those of the cues
unfoldable pub entries_rule : List ℕ → List Entry → Bool
entries_rule names es = each_rule names es && distinct (names_by 0 es) && distinct (names_by 1 es)

-- ---- their texts with their zeros, one after the other, and the titles with their places there

abbrev pub text_of : Entry → List ℕ
text_of e = e.text

unfoldable pub texts_of : List Entry → List ℕ
texts_of es = entry_bytes text_of es

-- where the texts start at a place
unfoldable pub placed_from : ℕ → List Entry → List Title
placed_from at [] = []
placed_from at (e ∷ es) =
    record {
      kind = e.kind;
      name = record { 0 = e.name };
      start = record { 0 = at };
      length = record { 0 = length e.text - 1 };
    }
    ∷ placed_from (at + length e.text) es

-- ---- a table of titles: room for 128, zero past them

abbrev pub no_title : Title
no_title = record { kind = 0; name = record { 0 = 0 }; start = record { 0 = 0 }; length = record { 0 = 0 } }

abbrev pub no_titles : Titles
no_titles = record { count = 0; list = replicate 128 no_title }

unfoldable pub table_of : List Title → Titles
table_of ts = record { count = length ts; list = ts ++ replicate (128 - length ts) no_title }

-- of entries whose texts stand one after the other from the start of a buffer
abbrev pub table_for : List Entry → Titles
table_for es = table_of (placed_from 0 es)

-- the same of titles that stand elsewhere, which the code moves
abbrev pub moved_to : ℕ → Title → Title
moved_to at t = record { kind = t.kind; name = t.name; start = record { 0 = at }; length = t.length }

unfoldable pub moved_in_turn : ℕ → List Title → List Title
moved_in_turn at [] = []
moved_in_turn at (t ∷ ts) = moved_to at t ∷ moved_in_turn (at + (t.length.0 + 1)) ts

-- where the last text of a table ends
abbrev pub end_of : Title → ℕ
end_of t = t.start.0 + t.length.0 + 1

unfoldable pub texts_end : Titles → ℕ
texts_end t = cond (leb 1 t.count) (end_of (get_or t.list (t.count - 1) no_title)) 0
