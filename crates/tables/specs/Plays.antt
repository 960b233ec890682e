-- The chunk `plst`: what it says, its form, and the rule on what it says. Assumes nothing.
use Rattle.std.specs.Prelude.{ℕ, zero, suc, ◌+◌, ◌*◌, Bool, ◌&&◌, List, leb, get_or, set, replicate}
use Rattle.little.specs.Numbers.{number_at}
use Rattle.lists.specs.Among.{index_in, has}
use Rattle.lists.specs.Every.{every}
use Rattle.units.specs.declared.Donation.{Donation}
use Rattle.units.specs.declared.Frames.{Frames}
use Rattle.tables.specs.declared.Cues.{Cues}
use Rattle.tables.specs.declared.Play.{Play}
use Rattle.tables.specs.declared.Playlist.{Playlist}
use Rattle.tables.specs.Tables.{count_in, held, table_form}
use Rattle.tables.specs.Cues.{names_in, places_in}

-- ---- what it says

abbrev pub no_play : Play
no_play = record { name = record { 0 = 0 }; length = record { 0 = 0 }; times = 0 }

abbrev pub no_plays : Playlist
no_plays = record { count = 0; list = replicate 64 no_play }

-- an entry: name, length, times
unfoldable pub play_at : List ℕ → ℕ → Play
play_at s at =
    record {
      name = record { 0 = number_at 4 s at };
      length = record { 0 = number_at 4 s (at + 4) };
      times = number_at 4 s (at + 8);
    }

-- room for 64 entries, of which the first n are those of s, 12 bytes each
unfoldable pub plays_in : List ℕ → ℕ → List Play
plays_in s zero = replicate 64 no_play
plays_in s (suc n) = set (plays_in s n) n (play_at s (4 + 12 * n))

unfoldable pub plays_of : List ℕ → Playlist
plays_of s = record { count = count_in s; list = plays_in s (held (count_in s)) }

-- ---- its form

unfoldable pub plays_form : List ℕ → Bool
plays_form s = table_form 12 s

-- ---- the rule on what it says

-- a cue has that name, and the place of the one that has it
unfoldable pub is_cue : Cues → Donation → Bool
is_cue c n = has n.0 (names_in c)

unfoldable pub cue_place : Cues → Donation → Frames
cue_place c n = record { 0 = get_or (places_in c) (index_in n.0 (names_in c)) 0 }

-- from a place, which is the cue's offset: length at least 1, offset + length at most F, times at least 1
unfoldable pub plays_from : Frames → Frames → Play → Bool
plays_from place f p = leb 1 p.length.0 && leb (place.0 + p.length.0) f.0 && leb 1 p.times

-- and its name is in the cue table
unfoldable pub playable : Cues → Frames → Play → Bool
playable c f p = is_cue c p.name && plays_from (cue_place c p.name) f p

unfoldable pub all_playable : Cues → Frames → List Play → ℕ → Bool
all_playable c f list n = every (λ i. playable c f (get_or list i no_play)) 0 n

-- at most 64 entries, each playable
unfoldable pub plays_rule : Playlist → Cues → Frames → Bool
plays_rule p c f = leb p.count 64 && all_playable c f p.list p.count
