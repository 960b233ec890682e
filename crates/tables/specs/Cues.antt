-- The chunk `cue `: what it says, its form, and the rule on what it says. Assumes nothing.
use Rattle.std.specs.Prelude.{ℕ, zero, suc, ◌+◌, ◌*◌, Bool, ◌&&◌, List, map, leb, eqb, take, set, replicate}
use Rattle.little.specs.Numbers.{number_at}
use Rattle.codes.specs.Codes.{is_at}
use Rattle.codes.specs.declared.Code.TheVariants.{Data}
use Rattle.lists.specs.Among.{distinct}
use Rattle.lists.specs.Every.{every, all_below}
use Rattle.units.specs.declared.Frames.{Frames}
use Rattle.tables.specs.declared.Cue.{Cue}
use Rattle.tables.specs.declared.Cues.{Cues}
use Rattle.tables.specs.Tables.{count_in, held, table_form}

-- ---- what it says

abbrev pub no_cue : Cue
no_cue = record { name = record { 0 = 0 }; position = record { 0 = 0 }; place = record { 0 = 0 } }

abbrev pub no_cues : Cues
no_cues = record { count = 0; list = replicate 64 no_cue }

-- a cue point: name, position, chunk code, chunk start, block start, sample offset; its place is its sample offset
unfoldable pub cue_at : List ℕ → ℕ → Cue
cue_at s at =
    record {
      name = record { 0 = number_at 4 s at };
      position = record { 0 = number_at 4 s (at + 4) };
      place = record { 0 = number_at 4 s (at + 20) };
    }

-- room for 64 cues, of which the first n are those of s, 24 bytes each
unfoldable pub cues_in : List ℕ → ℕ → List Cue
cues_in s zero = replicate 64 no_cue
cues_in s (suc n) = set (cues_in s n) n (cue_at s (4 + 24 * n))

unfoldable pub cues_of : List ℕ → Cues
cues_of s = record { count = count_in s; list = cues_in s (held (count_in s)) }

-- ---- its form: what the bytes must hold besides

-- chunk code `data`, chunk start 0, block start 0
unfoldable pub plain_cue : List ℕ → ℕ → Bool
plain_cue s at = is_at s (at + 8) Data && eqb (number_at 4 s (at + 12)) 0 && eqb (number_at 4 s (at + 16)) 0

unfoldable pub cues_form : List ℕ → Bool
cues_form s = table_form 24 s && every (λ i. plain_cue s (4 + 24 * i)) 0 (count_in s)

-- ---- the rule on what it says

abbrev pub name_of : Cue → ℕ
name_of c = c.name.0

abbrev pub place_of : Cue → ℕ
place_of c = c.place.0

-- the names of the cues in a table, and their places
unfoldable pub names_in : Cues → List ℕ
names_in c = take (held c.count) (map name_of c.list)

unfoldable pub places_in : Cues → List ℕ
places_in c = take (held c.count) (map place_of c.list)

-- at most 64; names differ; sample offset below F
unfoldable pub cues_rule : Cues → Frames → Bool
cues_rule c f = leb c.count 64 && distinct (names_in c) && all_below f.0 (places_in c)
