-- Adding a song to a side: the verdict, the file, and the answer. Assumes nothing.
use Rattle.std.specs.Prelude.{ℕ, ◌+◌, ◌≤◌, ◌≡◌, Bool, true, not, cond, ◌&&◌, List, [], ◌∷◌, ◌++◌, eqb, ltb, leb, length, Err, Ok}
use Rattle.little.specs.Same.{same_bytes}
use Rattle.units.specs.declared.Donation.{Donation}
use Rattle.units.specs.declared.Frames.{Frames}
use Rattle.units.specs.declared.Refusal.TheVariants.{FormatWrong, SongEmptyOrDifferent, NoPlaceOnSide, AlreadyListed, NotASide}
use Rattle.units.specs.Refusals.{file_limit, Verdict}
use Rattle.units.specs.Checks.{Check, check, decided, and_then}
use Rattle.formats.specs.declared.Format.{Format}
use Rattle.formats.specs.Format.{plain_format}
use Rattle.tables.specs.More.{cues_with, plays_with}
use Rattle.titles.specs.Titles.{entries_of, texts_of}
use Rattle.titles.specs.Lists.{entries_in, list_form, titles_of}
use Rattle.rules.specs.declared.Record.{Record}
use Rattle.rules.specs.Rules.{bare, record_in, reading_verdict, Reading}
use Rattle.reader.specs.Content.{reading, sound_in, texts_in}
use Rattle.writer.specs.File.{file_of, right_titles, writing, Written}
use Rattle.side.specs.Side.{sixteen_bit, side_read, songs_held, is_listed, listed_sound}

-- ---- the verdict

-- the song is 16-bit PCM of the side's channels and rate
unfoldable pub suits : Format → Format → Bool
suits side song = sixteen_bit song && eqb song.channels side.channels && eqb song.rate side.rate

-- a listed number, by the first two of the checks below: 18 for the same sound, else 16
unfoldable pub once_more : List ℕ → List ℕ → Verdict
once_more listed sound = Err (cond (same_bytes listed sound) AlreadyListed SongEmptyOrDifferent)

-- there are fewer than 64 songs, and F + frames is not above the limit
unfoldable pub has_place : Record → Frames → Frames → Bool
has_place m frames limit = ltb m.cues.count 64 && leb (m.frames.0 + frames.0) limit.0

-- the checks on a song that suits: a listed number, then 17. The side is a record with its sound, the song so many frames of sound
abbrev pub place_checks : Record → List ℕ → Frames → List ℕ → Donation → Frames → List Check
place_checks m w frames v number limit =
    check (not (is_listed number (songs_held m w) && same_bytes (listed_sound number (songs_held m w)) v)) AlreadyListed
    ∷ check (not (is_listed number (songs_held m w))) SongEmptyOrDifferent
    ∷ check (has_place m frames limit) NoPlaceOnSide
    ∷ []

-- 19 if the side file is refused or is no side; 9; 16 for no frames; then as above. Both files as they were read, each with its sound
abbrev pub add_checks : Reading → List ℕ → Reading → List ℕ → Donation → Frames → List Check
add_checks side w song v number limit =
    check (side_read side) NotASide
    ∷ check (suits (record_in side).format (record_in song).format) FormatWrong
    ∷ check (leb 1 (record_in song).frames.0) SongEmptyOrDifferent
    ∷ place_checks (record_in side) w (record_in song).frames v number limit

-- the song file's refusals 1 to 13 and 21, then those
unfoldable pub add_verdict : Reading → List ℕ → Reading → List ℕ → Donation → Frames → Verdict
add_verdict side w song v number limit = and_then (reading_verdict song) (decided (add_checks side w song v number limit))

-- ---- the file

-- a cue (position = offset = the old F) and a playlist entry follow the others; the titles stay
unfoldable pub with_song : Record → Donation → Frames → Record
with_song m number frames =
    record {
      format = m.format;
      frames = record { 0 = m.frames.0 + frames.0 };
      cues = cues_with m.cues (record { name = number; position = m.frames; place = m.frames });
      playlist = plays_with m.playlist (record { name = number; length = frames; times = 1 });
      titles = m.titles;
    }

-- a record whose titles are those of a list, and may be written with its texts
pub record WithList (m : Record) (l : List ℕ) (lost : Bool) : Type 0 where
  pub short : length l ≤ file_limit
  pub form : list_form lost l ≡ true
  pub titles : m.titles ≡ titles_of l
  pub said : entries_of (texts_of (entries_in l)) (titles_of l) ≡ entries_in l
  pub right : right_titles m (texts_of (entries_in l)) ≡ true

-- of a side file s and a song file t
abbrev pub new_record : List ℕ → List ℕ → Donation → Record
new_record s t number = with_song (record_in (reading s)) number (record_in (reading t)).frames

-- the sound goes behind the last song; the texts are the side's own
abbrev pub new_sound : List ℕ → List ℕ → List ℕ
new_sound s t = sound_in s ++ sound_in t

unfoldable pub new_file : List ℕ → List ℕ → Donation → List ℕ
new_file s t number = file_of (new_record s t number) (texts_in s) (new_sound s t)

-- ---- the answer, with room for so many bytes

-- the verdict on two files
abbrev pub add_judged : List ℕ → List ℕ → Donation → Frames → Verdict
add_judged s t number limit = add_verdict (reading s) (sound_in s) (reading t) (sound_in t) number limit

-- the verdict's refusal, or else writing's answer
abbrev pub added_by : Verdict → Written → Written
added_by (Ok _) x = x
added_by (Err r) x = Err r

-- the file is written by the rules of writing: 1 if it would be above the limit; 14
unfoldable pub adding : List ℕ → List ℕ → Donation → Frames → ℕ → Written
adding s t number limit room =
    added_by (add_judged s t number limit)
    (writing (new_record s t number) (texts_in s) (new_sound s t) room)

-- ---- an empty side: 16-bit PCM, no frame, no cue and no entry
unfoldable pub empty_side : ℕ → ℕ → Record
empty_side channels rate = bare (plain_format channels rate 16) (record { 0 = 0 })
