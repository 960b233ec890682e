-- What a side is, and its songs in their running order. Assumes nothing.
use Rattle.std.specs.Prelude.{ℕ, ◌+◌, ◌*◌, Bool, false, cond, ◌&&◌, ◌||◌, List, [], ◌∷◌, eqb, take, drop, get_or, Err, Ok}
use Rattle.units.specs.declared.Donation.{Donation}
use Rattle.units.specs.declared.Frames.{Frames}
use Rattle.formats.specs.declared.Format.{Format}
use Rattle.tables.specs.declared.Cue.{Cue}
use Rattle.tables.specs.declared.Play.{Play}
use Rattle.tables.specs.Cues.{no_cue}
use Rattle.tables.specs.Plays.{no_play}
use Rattle.rules.specs.declared.Record.{Record}
use Rattle.reader.specs.Content.{reading, sound_in}
use Rattle.units.specs.Refusals.{Verdict}
use Rattle.rules.specs.Rules.{record_in, reading_verdict, Reading}

-- ---- a side

unfoldable pub sixteen_bit : Format → Bool
sixteen_bit f = eqb f.tag 1 && eqb f.bits 16

-- the cues that a record counts, and its playlist entries
unfoldable pub cue_list : Record → List Cue
cue_list m = take m.cues.count m.cues.list

unfoldable pub play_list : Record → List Play
play_list m = take m.playlist.count m.playlist.list

-- from frame `at` on, the cues in order tile the frames up to F, and the playlist plays each once, whole, in that order: a cue
-- stands where the one before it ends, an entry names it and plays it once, and it ends where the next one stands, the last at F
unfoldable pub tiled : List Cue → List Play → ℕ → ℕ → Bool
tiled [] [] at f = eqb at f
tiled (c ∷ cs) (p ∷ ps) at f =
    eqb c.place.0 at && eqb p.name.0 c.name.0 && eqb p.times 1 && tiled cs ps (at + p.length.0) f
tiled [] (p ∷ ps) at f = false
tiled (c ∷ cs) [] at f = false

-- 16-bit PCM, tiled from frame 0 to F; no cue, no entry and no frame is an empty side
unfoldable pub is_side : Record → Bool
is_side m = sixteen_bit m.format && tiled (cue_list m) (play_list m) 0 m.frames.0

-- the answer of reading a side file: it is taken, and it is a side
abbrev pub side_by : Verdict → Record → Bool
side_by (Ok _) m = is_side m
side_by (Err r) m = false

unfoldable pub side_read : Reading → Bool
side_read r = side_by (reading_verdict r) (record_in r)

-- ---- its songs

-- a song: its number, its position in the order of playing, its place, its frames, and its sound, byte for byte
pub record Song : Type 0 where
  pub number : Donation
  pub position : Frames
  pub place : Frames
  pub frames : Frames
  pub sound : List ℕ

-- how many bytes so many frames of PCM are
abbrev pub bytes_of_frames : Format → ℕ → ℕ
bytes_of_frames f frames = f.align * frames

-- so many frames of a sound w from a place on
unfoldable pub frames_at : Format → List ℕ → Frames → Frames → List ℕ
frames_at f w place frames = take (bytes_of_frames f frames.0) (drop (bytes_of_frames f place.0) w)

abbrev pub song_of : Format → List ℕ → Cue → Play → Song
song_of f w c p =
    record {
      number = c.name;
      position = c.position;
      place = c.place;
      frames = p.length;
      sound = frames_at f w c.place p.length;
    }

-- the sound of the song at index i
abbrev pub sound_at : Record → List ℕ → ℕ → List ℕ
sound_at m w i = frames_at m.format w (get_or m.cues.list i no_cue).place (get_or m.playlist.list i no_play).length

-- a song for each cue with its entry
unfoldable pub songs_of : Format → List ℕ → List Cue → List Play → List Song
songs_of f w (c ∷ cs) (p ∷ ps) = song_of f w c p ∷ songs_of f w cs ps
songs_of f w [] ps = []
songs_of f w (c ∷ cs) [] = []

-- the running order of a record and its sound
unfoldable pub songs_held : Record → List ℕ → List Song
songs_held m w = songs_of m.format w (cue_list m) (play_list m)

-- ---- a number among songs: the first song has it, or one of the others

unfoldable pub is_listed : Donation → List Song → Bool
is_listed n [] = false
is_listed n (x ∷ xs) = eqb x.number.0 n.0 || is_listed n xs

-- the sound of the song that has it
unfoldable pub listed_sound : Donation → List Song → List ℕ
listed_sound n [] = []
listed_sound n (x ∷ xs) = cond (eqb x.number.0 n.0) x.sound (listed_sound n xs)

-- ---- of a file

abbrev pub is_side_file : List ℕ → Bool
is_side_file s = side_read (reading s)

abbrev pub songs_in : List ℕ → List Song
songs_in s = songs_held (record_in (reading s)) (sound_in s)
