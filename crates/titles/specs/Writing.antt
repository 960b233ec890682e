-- A list `adtl` as it is written, and which titles may be written. Assumes nothing.
use Rattle.std.specs.Prelude.{ℕ, ◌+◌, ◌≤◌, ◌<◌, ◌≡◌, Bool, true, cond, ◌&&◌, List, [], ◌∷◌, ◌++◌, map, leb, eqb, length, take, get_or}
use Rattle.little.specs.Numbers.{bytes_of}
use Rattle.codes.specs.Codes.{code_bytes}
use Rattle.codes.specs.declared.Code.{Code}
use Rattle.codes.specs.declared.Code.TheVariants as code
use Rattle.riff.specs.Laying.{Piece, piece, piece_bytes, body_bytes}
use Rattle.titles.specs.declared.Title.{Title}
use Rattle.titles.specs.declared.Titles.{Titles}
use Rattle.titles.specs.Titles.{Entry, entry_in, entries_of, entries_rule, no_title, table_of}

-- ---- the bytes

abbrev pub title_code : ℕ → Code
title_code kind = cond (eqb kind 0) code.Label code.Note

-- `labl` or `note`: the name of a cue, and the text
unfoldable pub piece_of : Entry → Piece
piece_of e = piece (title_code e.kind) (bytes_of 4 e.name ++ e.text)

abbrev pub chunk_of : Entry → List ℕ
chunk_of e = piece_bytes (piece_of e)

-- `adtl`, and the chunks
unfoldable pub list_bytes : List Entry → List ℕ
list_bytes es = code_bytes code.Titles ++ body_bytes (map piece_of es)

-- the list of titles that a file has, nothing where there is none
abbrev pub list_part : List ℕ → Titles → List ℕ
list_part s t = cond (leb 1 t.count) (list_bytes (entries_of s t)) []

-- ---- titles that may be written: they are as reading gives them

-- the first text stands at a place, each right after the last, and all within so many bytes
unfoldable pub texts_in_row : ℕ → ℕ → List Title → Bool
texts_in_row room at [] = true
texts_in_row room at (t ∷ ts) =
    eqb t.start.0 at && leb (at + (t.length.0 + 1)) room && texts_in_row room (at + (t.length.0 + 1)) ts

-- at most 128; their texts in a row from the start of s; and the rule kept. Names are those of the cues
unfoldable pub titles_right : List ℕ → List ℕ → Titles → Bool
titles_right names s t = leb t.count 128 && texts_in_row (length s) 0 (take t.count t.list) && entries_rule names (entries_of s t)

-- what is read back of a table that is written: its room past the count zero
unfoldable pub titles_kept : Titles → Titles
titles_kept t = table_of (take t.count t.list)

-- its numbers fit the fields that they are written to, as those of the code's types do
pub record TitlesFit (t : Titles) : Type 0 where
  pub room : length t.list ≡ 128
  pub name : (i : ℕ) → (get_or t.list i no_title).name.0 < 4294967296

-- the first n titles have no text of more than 256 bytes
pub record Short (s : List ℕ) (list : List Title) (n : ℕ) : Type 0 where
  pub few : n ≤ 128
  pub texts : (i : ℕ) → i < n → length (entry_in s (get_or list i no_title)).text ≤ 256

-- a list says all of titles that are at most 128, stand in a row from the start of s, and are labels or notes
pub record Sayable (s : List ℕ) (t : Titles) : Type 0 where
  pub few : t.count ≤ 128
  pub row : texts_in_row (length s) 0 (take t.count t.list) ≡ true
  pub kinds : (i : ℕ) → i < t.count → (get_or t.list i no_title).kind < 2
