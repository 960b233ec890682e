-- The bytes of `cue ` and `plst`, as the writer puts them. Assumes nothing.
use Rattle.std.specs.Prelude.{ℕ, ◌-◌, ◌<◌, ◌≤◌, ◌≡◌, refl, List, [], ◌∷◌, ◌++◌, length, take, get_or, replicate}
use lib.Dec.{lit≤}
use Rattle.little.specs.Numbers.{bytes_of}
use Rattle.codes.specs.Codes.{code_bytes}
use Rattle.codes.specs.declared.Code.TheVariants.{Data}
use Rattle.tables.specs.declared.Cue.{Cue}
use Rattle.tables.specs.declared.Cues.{Cues}
use Rattle.tables.specs.declared.Play.{Play}
use Rattle.tables.specs.declared.Playlist.{Playlist}
use Rattle.tables.specs.Tables.{held}
use Rattle.tables.specs.Cues.{no_cue}
use Rattle.tables.specs.Plays.{no_play}

-- ---- a table: its count, and its entries one after the other

unfoldable pub entry_bytes : {A : Type 0} → (A → List ℕ) → List A → List ℕ
entry_bytes bytes [] = []
entry_bytes bytes (e ∷ es) = bytes e ++ entry_bytes bytes es

-- the room past the count is no part of it: the entries are the first of a list that has room for 64
unfoldable pub table_bytes : {A : Type 0} → (A → List ℕ) → ℕ → List A → List ℕ
table_bytes bytes count list = bytes_of 4 count ++ entry_bytes bytes (take (held count) list)

-- the room past the count reads as zero
unfoldable pub zero_past : {A : Type 0} → A → ℕ → List A → List A
zero_past none count list = take (held count) list ++ replicate (64 - held count) none

-- ---- cues

-- name, position, chunk code `data`, chunk start 0, block start 0, sample offset
unfoldable pub cue_bytes : Cue → List ℕ
cue_bytes c =
    bytes_of 4 c.name.0
    ++ (bytes_of 4 c.position.0
    ++ (code_bytes Data
    ++ (bytes_of 4 0
    ++ (bytes_of 4 0
    ++ bytes_of 4 c.place.0))))

unfoldable pub cues_bytes : Cues → List ℕ
cues_bytes c = table_bytes cue_bytes c.count c.list

-- the table that is read back
unfoldable pub cues_kept : Cues → Cues
cues_kept c = record { count = c.count; list = zero_past no_cue c.count c.list }

-- ---- playlist

-- name, length, times
unfoldable pub play_bytes : Play → List ℕ
play_bytes p = bytes_of 4 p.name.0 ++ (bytes_of 4 p.length.0 ++ bytes_of 4 p.times)

unfoldable pub plays_bytes : Playlist → List ℕ
plays_bytes p = table_bytes play_bytes p.count p.list

unfoldable pub plays_kept : Playlist → Playlist
plays_kept p = record { count = p.count; list = zero_past no_play p.count p.list }

-- ---- an entry has one size: a cue 24 bytes, and a playlist entry 12

pub cue-long : (c : Cue) → length (cue_bytes c) ≡ 24
unfolding cue_bytes code_bytes bytes_of
cue-long c = refl

pub cue-small : 24 ≤ 24
cue-small = lit≤ tt

pub play-long : (p : Play) → length (play_bytes p) ≡ 12
unfolding play_bytes bytes_of
play-long p = refl

pub play-small : 12 ≤ 24
play-small = lit≤ tt

-- ---- the numbers of a table fit the fields that they are written to, as those of the code's types do

pub record CuesFit (c : Cues) : Type 0 where
  pub count : c.count < 4294967296
  pub room : length c.list ≡ 64
  pub name : (i : ℕ) → (get_or c.list i no_cue).name.0 < 4294967296
  pub position : (i : ℕ) → (get_or c.list i no_cue).position.0 < 4294967296
  pub place : (i : ℕ) → (get_or c.list i no_cue).place.0 < 4294967296

pub record PlaysFit (p : Playlist) : Type 0 where
  pub count : p.count < 4294967296
  pub room : length p.list ≡ 64
  pub name : (i : ℕ) → (get_or p.list i no_play).name.0 < 4294967296
  pub long : (i : ℕ) → (get_or p.list i no_play).length.0 < 4294967296
  pub times : (i : ℕ) → (get_or p.list i no_play).times < 4294967296
