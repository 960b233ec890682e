-- Demand 2 of sides: adding a listed number again changes nothing and says so; no add moves or drops a song. Of all files of bytes,
-- numbers, limits and rooms. `Demands`, `Sending`, `EmptySide` and `Rows` of `proofs/` prove them. Assumes nothing.
use Rattle.std.specs.Prelude.{ℕ, ◌+◌, ◌*◌, ◌≤◌, ◌<◌, ◌≡◌, Bool, true, false, not, cond, ◌&&◌, ◌||◌, List, [], ◌∷◌, ◌++◌, T, eqb, ltb, leb, length, Err, Ok}
use Rattle.std.proofs.Math.Pow.{are_bytes}
use Rattle.little.specs.Same.{same_bytes}
use Rattle.units.specs.declared.BytePlace.{BytePlace}
use Rattle.units.specs.declared.Donation.{Donation}
use Rattle.units.specs.declared.Frames.{Frames}
use Rattle.units.specs.declared.Refusal.TheVariants.{SongEmptyOrDifferent, AlreadyListed}
use Rattle.units.specs.Refusals.{file_limit}
use Rattle.units.specs.Checks.{number_or}
use Rattle.formats.specs.declared.Format.{Format}
use Rattle.titles.specs.Titles.{Entry}
use Rattle.titles.specs.Writing.{list_bytes}
use Rattle.reader.specs.Content.{reading, sound_in, titles_in, file_format, file_frames}
use Rattle.writer.specs.File.{size_of, file_of, writing, written_number, Written}
use Rattle.side.specs.Side.{Song, bytes_of_frames, is_side_file, songs_in, is_listed, listed_sound}
use Rattle.side.specs.Adding.{suits, new_file, adding, empty_side}
use Rattle.rules.specs.Rules.{record_in, reading_verdict}

-- ---- a song as it is sent: its file, the number that it was donated under, the limit of the side's frames, and the room of the
-- buffer that is lent for it
pub record Sent : Type 0 where
  pub file : List ℕ
  pub number : Donation
  pub limit : Frames
  pub room : ℕ

-- a file of bytes, and a number and a limit of 32 bits
pub record Bytewise (x : Sent) : Type 0 where
  pub file : T (are_bytes x.file)
  pub number : x.number.0 < 4294967296
  pub limit : x.limit.0 < 4294967296

-- the answer of adding it to a side file s, and the file that this makes
abbrev pub answer_to : List ℕ → Sent → Written
answer_to s x = adding s x.file x.number x.limit x.room

abbrev pub file_with : List ℕ → Sent → List ℕ
file_with s x = new_file s x.file x.number

-- the song that stands from a frame on
abbrev pub song_from : ℕ → Sent → Song
song_from at x =
    record {
      number = x.number;
      position = record { 0 = at };
      place = record { 0 = at };
      frames = (record_in (reading x.file)).frames;
      sound = sound_in x.file;
    }

-- ---- where a song is added

-- adding x to a side file s gives a new file of n bytes
pub record Adds (s : List ℕ) (x : Sent) (n : BytePlace) : Type 0 where
  pub bytes : T (are_bytes s)
  pub sent : Bytewise x
  pub answer : answer_to s x ≡ Ok n

-- the file that adding x to a side file s makes, n bytes long: a side of the same format, whose running order is the old one with
-- one song more at the end; so every old song keeps its number, position, place, frames and its sound, byte for byte. Its titles are
-- the old ones, each with its text and in the same order, and none of the song's own
pub record Grown (s : List ℕ) (x : Sent) (n : BytePlace) : Type 0 where
  pub long : n ≡ size_of (file_with s x)
  pub bytes : T (are_bytes (file_with s x))
  pub side : is_side_file (file_with s x) ≡ true
  pub format : file_format (file_with s x) ≡ file_format s
  pub frames : file_frames (file_with s x) ≡ file_frames s + file_frames x.file
  pub songs : songs_in (file_with s x) ≡ songs_in s ++ (song_from (file_frames s) x ∷ [])
  pub sound : sound_in (file_with s x) ≡ sound_in s ++ sound_in x.file
  pub titles : titles_in (file_with s x) ≡ titles_in s

unfoldable pub Grows : Type 0
Grows = (s : List ℕ) (x : Sent) (n : BytePlace) → Adds s x n → Grown s x n

-- the bytes of the list of titles, with its head
abbrev pub titles_size : List Entry → ℕ
titles_size [] = 0
titles_size (e ∷ es) = 8 + length (list_bytes (e ∷ es))

-- how long the file of a side with songs is: 68 bytes for the first twelve, the format, the heads of the chunks and the two counts,
-- 36 for the cue and the entry of each song, the titles, and the sound
abbrev pub side_size : Format → ℕ → List Entry → ℕ → ℕ
side_size f songs titles frames = 68 + 36 * songs + titles_size titles + bytes_of_frames f frames

-- and it is within the limits
pub record Limited (s : List ℕ) (x : Sent) : Type 0 where
  pub songs : length (songs_in (file_with s x)) ≤ 64
  pub frames : file_frames (file_with s x) ≤ x.limit.0
  pub size : length (file_with s x) ≡ side_size (file_format s) (length (songs_in s) + 1) (titles_in s) (file_frames s + file_frames x.file)
  pub most : length (file_with s x) ≤ file_limit

unfoldable pub StaysWithin : Type 0
StaysWithin = (s : List ℕ) (x : Sent) (n : BytePlace) → Adds s x n → Limited s x

-- ---- a listed number, whatever limit and room

-- the answer to x, whose number a side file s lists with some sound: 18 with the same sound, 16 with other sound
pub record Listed (sound s : List ℕ) (x : Sent) : Type 0 where
  pub same : sound_in x.file ≡ sound → answer_to s x ≡ Err AlreadyListed
  pub other : (sound_in x.file ≡ sound → ⊥) → answer_to s x ≡ Err SongEmptyOrDifferent

unfoldable pub OnceListed : Type 0
OnceListed =
    (s : List ℕ) (x : Sent) → is_side_file s ≡ true → is_listed x.number (songs_in s) ≡ true
    → reading_verdict (reading x.file) ≡ Ok tt → suits (file_format s) (file_format x.file) ≡ true
    → Listed (listed_sound x.number (songs_in s)) s x

-- so it is of the file that adding x made, for every song y that is sent under the same number next
unfoldable pub AddedAgain : Type 0
AddedAgain =
    (s : List ℕ) (x y : Sent) (n : BytePlace) → Adds s x n → y.number ≡ x.number
    → reading_verdict (reading y.file) ≡ Ok tt → suits (file_format s) (file_format y.file) ≡ true
    → Listed (sound_in x.file) (file_with s x) y

-- ---- songs sent one after the other, each added to the file that the one before made; where it is refused, that file stays

abbrev pub side_after : Written → List ℕ → List ℕ → List ℕ
side_after (Ok n) old new = new
side_after (Err r) old new = old

unfoldable pub add_all : List ℕ → List Sent → List ℕ
add_all s [] = s
add_all s (x ∷ xs) = add_all (side_after (answer_to s x) s (file_with s x)) xs

-- the songs sent, in that order, one behind the other from a frame on
unfoldable pub in_row : ℕ → List Sent → List Song
in_row at [] = []
in_row at (x ∷ xs) = song_from at x ∷ in_row (at + file_frames x.file) xs

-- a song that a side of some format can take: its file is taken, it suits the side, and it has frames
pub record Suitable (f : Format) (x : Sent) : Type 0 where
  pub bytewise : Bytewise x
  pub taken : reading_verdict (reading x.file) ≡ Ok tt
  pub suited : suits f (file_format x.file) ≡ true
  pub frames : 1 ≤ file_frames x.file

unfoldable pub AllSuitable : Format → List Sent → Type 0
AllSuitable f [] = Unit {0}
AllSuitable f (x ∷ xs) = Suitable f x × AllSuitable f xs

-- a number is among those sent
unfoldable pub is_sent : Donation → List Sent → Bool
is_sent n [] = false
is_sent n (x ∷ xs) = eqb x.number.0 n.0 || is_sent n xs

-- no number is sent twice
unfoldable pub OnceEach : List Sent → Type 0
OnceEach [] = Unit {0}
OnceEach (x ∷ xs) = (is_sent x.number xs ≡ false) × OnceEach xs

-- there is place for x behind n songs that end at a frame: they are fewer than 64, the frames with it are within its own limit, and
-- the file with it, which has no titles, is within the limit of files and its own room
pub record FitsBehind (f : Format) (n at : ℕ) (x : Sent) : Type 0 where
  pub songs : n < 64
  pub frames : at + file_frames x.file ≤ x.limit.0
  pub size : side_size f (n + 1) [] (at + file_frames x.file) ≤ file_limit
  pub lent : side_size f (n + 1) [] (at + file_frames x.file) ≤ x.room

-- so it is for each, behind those before it
unfoldable pub AllFit : Format → ℕ → ℕ → List Sent → Type 0
AllFit f n at [] = Unit {0}
AllFit f n at (x ∷ xs) = FitsBehind f n at x × AllFit f (n + 1) (at + file_frames x.file) xs

-- an empty side s then has exactly those songs, in that order
pub record Complete (s t : List ℕ) (xs : List Sent) : Type 0 where
  pub side : is_side_file t ≡ true
  pub format : file_format t ≡ file_format s
  pub songs : songs_in t ≡ in_row 0 xs
  pub titles : titles_in t ≡ []

unfoldable pub AllAdded : Type 0
AllAdded =
    (s : List ℕ) (xs : List Sent) → T (are_bytes s) → is_side_file s ≡ true → songs_in s ≡ []
    → AllSuitable (file_format s) xs → OnceEach xs → AllFit (file_format s) 0 0 xs → Complete s (add_all s xs) xs

-- whatever is sent, however often and in whatever order: the songs that a side s has stay on it, first, in order and unchanged, and
-- so do its titles
pub record Keeps (s t : List ℕ) : Type 0 where
  pub side : is_side_file t ≡ true
  pub format : file_format t ≡ file_format s
  pub more : List Song
  pub songs : songs_in t ≡ songs_in s ++ more
  pub titles : titles_in t ≡ titles_in s

unfoldable pub AllBytewise : List Sent → Type 0
AllBytewise [] = Unit {0}
AllBytewise (x ∷ xs) = Bytewise x × AllBytewise xs

unfoldable pub NoneLost : Type 0
NoneLost = (xs : List Sent) (s : List ℕ) → T (are_bytes s) → is_side_file s ≡ true → AllBytewise xs → Keeps s (add_all s xs)

-- so a number that a side lists gets 18 or 16 by the sound that it had then, whatever was sent in between
unfoldable pub StillListed : Type 0
StillListed =
    (s : List ℕ) (xs : List Sent) (y : Sent) → T (are_bytes s) → is_side_file s ≡ true → is_listed y.number (songs_in s) ≡ true
    → AllBytewise xs → reading_verdict (reading y.file) ≡ Ok tt → suits (file_format s) (file_format y.file) ≡ true
    → Listed (listed_sound y.number (songs_in s)) (add_all s xs) y

-- and it changes nothing, whatever its file
unfoldable pub SentAgain : Type 0
SentAgain =
    (s : List ℕ) (xs : List Sent) (y : Sent) → T (are_bytes s) → is_side_file s ≡ true → is_listed y.number (songs_in s) ≡ true
    → AllBytewise xs → add_all s (xs ++ (y ∷ [])) ≡ add_all s xs

-- twice in a row is as once, whether the song is added or refused
unfoldable pub SentTwice : Type 0
SentTwice =
    (s : List ℕ) (x : Sent) (xs : List Sent) → T (are_bytes s) → Bytewise x → add_all s (x ∷ x ∷ xs) ≡ add_all s (x ∷ xs)

-- ---- an empty side that is written is one: a side of those channels and that rate, without a song
pub record IsEmptySide (s : List ℕ) (channels rate : ℕ) : Type 0 where
  pub bytes : T (are_bytes s)
  pub side : is_side_file s ≡ true
  pub format : file_format s ≡ (empty_side channels rate).format
  pub songs : songs_in s ≡ []

unfoldable pub EmptyMade : Type 0
EmptyMade =
    (channels rate room : ℕ) (n : BytePlace) → writing (empty_side channels rate) [] [] room ≡ Ok n
    → IsEmptySide (file_of (empty_side channels rate) [] []) channels rate

-- and it is written: 9 but for 1 or 2 channels and a rate of 1 to 192,000, then 14 without room for its 44 bytes
abbrev pub empty_number : ℕ → ℕ → ℕ → ℕ
empty_number channels rate room =
    cond (leb 1 channels && leb channels 2 && leb 1 rate && leb rate 192000) (cond (ltb room 44) 14 0) 9

unfoldable pub EmptyNumbered : Type 0
EmptyNumbered =
    (channels rate room : ℕ) → written_number (writing (empty_side channels rate) [] [] room) ≡ empty_number channels rate room

-- ---- the number of an answer, in the order of checks and the numbers of document 01; 0 where the song is added
abbrev pub add_number : List ℕ → List ℕ → Donation → Frames → ℕ → ℕ
add_number s t number limit room =
    number_or (reading_verdict (reading t))
    (cond (not (is_side_file s)) 19
    (cond (not (suits (file_format s) (file_format t))) 9
    (cond (eqb (file_frames t) 0) 16
    (cond (is_listed number (songs_in s)) (cond (same_bytes (listed_sound number (songs_in s)) (sound_in t)) 18 16)
    (cond (leb 64 (length (songs_in s)) || ltb limit.0 (file_frames s + file_frames t)) 17
    (cond (ltb file_limit (length (new_file s t number))) 1
    (cond (ltb room (length (new_file s t number))) 14
    0)))))))

unfoldable pub AddNumbered : Type 0
AddNumbered =
    (s t : List ℕ) (number : Donation) (limit : Frames) (room : ℕ)
    → written_number (adding s t number limit room) ≡ add_number s t number limit room
