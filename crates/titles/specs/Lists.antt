-- The list `adtl` of a file: the titles in it, its form, and what is read of it. The walk over its chunks goes by what is left of the
-- list: it takes the chunk at the front, and goes on with the rest. Assumes nothing.
use Rattle.std.specs.Prelude.{ℕ, zero, suc, ◌+◌, ◌-◌, ◌<◌, ◌≡◌, Bool, true, false, not, cond, ◌&&◌, List, [], ◌∷◌, ltb, leb, length, take, drop, get_or, Option, None, Some, MatchOption}
use Rattle.little.specs.Numbers.{number_at}
use Rattle.codes.specs.Codes.{is_at}
use Rattle.codes.specs.declared.Code.TheVariants.{Label, Note}
use Rattle.riff.specs.declared.Pad.{Pad}
use Rattle.riff.specs.declared.Pad.TheVariants.{NotNeeded, There, Absent}
use Rattle.riff.specs.Chunks.{size_at, pad_at, next_at, passes}
use Rattle.titles.specs.declared.Title.{Title}
use Rattle.titles.specs.declared.Titles.{Titles}
use Rattle.titles.specs.declared.Front.{Front}
use Rattle.titles.specs.Titles.{Entry, entry_in, entries_of, entries_rule, no_title, table_for}

-- ---- the chunk at the front of what is left of a list

-- what it is: `labl` 0, `note` 1, any other 2
unfoldable pub front_kind : List ℕ → ℕ
front_kind l = cond (is_at l 0 Label) 0 (cond (is_at l 0 Note) 1 2)

-- the kind of a title, and none of any other chunk
abbrev pub title_kind : List ℕ → Option ℕ
title_kind l = cond (ltb (front_kind l) 2) (Some (front_kind l)) None

-- the name of a cue, and behind it the text
unfoldable pub front_entry : List ℕ → Entry
front_entry l = record { kind = front_kind l; name = number_at 4 l 8; text = take (size_at l 0 - 4) (drop 12 l) }

-- what is left behind it
abbrev pub front_rest : List ℕ → List ℕ
front_rest l = drop (next_at l 0) l

-- ---- the titles: "other chunks in the list are skipped"

abbrev pub with_entry : ℕ → Entry → List Entry → List Entry
with_entry kind e es = cond (ltb kind 2) (e ∷ es) es

-- of n chunks at most; a chunk that passes the end is none
unfoldable pub entries_by : ℕ → List ℕ → List Entry
entries_by zero l = []
entries_by (suc n) l = cond (passes l 0) [] (with_entry (front_kind l) (front_entry l) (entries_by n (front_rest l)))

-- the chunks of a list stand behind its four letters
unfoldable pub entries_in : List ℕ → List Entry
entries_in l = entries_by (length l) (drop 4 l)

-- ---- its form

-- a pad is in the list; the last one may be absent where the list's own is, as the file ends there
abbrev pub pad_fits : Bool → Pad → Bool
pad_fits lost NotNeeded = true
pad_fits lost There = true
pad_fits lost Absent = lost

-- a title has its name and 1 to 256 bytes of text; of other chunks "only their sizes count"
unfoldable pub size_fits : ℕ → ℕ → Bool
size_fits kind size = cond (ltb kind 2) (leb 5 size && leb size 260) true

-- the chunk at the front does not pass the end, and has such a pad and size
unfoldable pub front_fits : Bool → List ℕ → Bool
front_fits lost l = not (passes l 0) && pad_fits lost (pad_at l 0) && size_fits (front_kind l) (size_at l 0)

-- the chunks with their pads tile what is left
unfoldable pub tiles_by : Bool → ℕ → List ℕ → Bool
tiles_by lost zero l = true
tiles_by lost (suc n) l = cond (ltb 0 (length l)) (front_fits lost l && tiles_by lost n (front_rest l)) true

unfoldable pub tiles : Bool → List ℕ → Bool
tiles lost l = tiles_by lost (length l) (drop 4 l)

-- and there are at most 128 titles
unfoldable pub list_form : Bool → List ℕ → Bool
list_form lost l = tiles lost l && leb (length (entries_in l)) 128

-- ---- the whole: it has its form, and its titles keep the rule; names are those of the cues
unfoldable pub list_valid : Bool → List ℕ → List ℕ → Bool
list_valid lost l names = list_form lost l && entries_rule names (entries_in l)

-- its titles, as a record holds them
abbrev pub titles_of : List ℕ → Titles
titles_of l = table_for (entries_in l)

-- its titles where it is valid
unfoldable pub list_read : Bool → List ℕ → List ℕ → Option Titles
list_read lost l names = cond (list_valid lost l names) (Some (titles_of l)) None

-- ---- what the code finds: the chunk at the front, and where the titles stand in the list

unfoldable pub front_of : Bool → List ℕ → Option Front
front_of lost l = cond (front_fits lost l) (Some (record { kind = title_kind l; size = size_at l 0; next = next_at l 0 })) None

-- a title whose text stands in the list, as the chunk at a place says
pub record SaysAt (l : List ℕ) (at : ℕ) (t : Title) : Type 0 where
  pub entry : entry_in l t ≡ front_entry (drop at l)
  pub long : length (entry_in l t).text ≡ t.length.0 + 1

-- a table whose titles, with their texts in the list, are those of the list
pub record Stands (l : List ℕ) (t : Titles) : Type 0 where
  pub room : length t.list ≡ 128
  pub many : t.count ≡ length (entries_in l)
  pub entries : entries_of l t ≡ entries_in l
  pub long : (i : ℕ) → i < t.count → length (entry_in l (get_or t.list i no_title)).text ≡ (get_or t.list i no_title).length.0 + 1

-- of a list of that form
pub record Formed (lost : Bool) (l : List ℕ) (t : Titles) : Type 0 where
  pub form : list_form lost l ≡ true
  pub stands : Stands l t

-- and none of any other
abbrev pub FoundIn : Bool → List ℕ → Option Titles → Type 0
FoundIn lost l r = MatchOption r (list_form lost l ≡ false) (Formed lost l)
