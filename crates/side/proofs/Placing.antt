-- The verdict on adding, in the words of the code: where a number is listed, and each check in its order. Assumes nothing.
use mathlib.Core.Path.{◌≡◌, refl, sym, ap, ◌∙◌}
use mathlib.Core.Bool.{Bool, true, false, not, cond}
use mathlib.Core.List.{List, [], ◌∷◌, map}
use Prim.Native.Nat.{ℕ, suc, ◌+◌, ◌*◌, ◌≤◌, ◌<◌, min}
use native.Mathlib.Nat.{mul-le-mul}
use native.Mathlib.Omega.{arith}
use lib.Dec.{eqb, ltb}
use lib.ListN.{length, take, drop, get_or, length-map, length-take}
use lib.Seq.{get_or-take}
use mir.Syntax.{w16, w32, w64}
use mir.Val.{Fits}
use borrow.Author.Tests.{ltb-false, lt-ltb, le-ltb, not-true, not-false}
use Rattle.little.specs.Same.{same_bytes}
use Rattle.lists.specs.Among.{index_in, has}
use Rattle.units.specs.declared.BytePlace.{BytePlace}
use Rattle.units.specs.declared.Donation.{Donation}
use Rattle.units.specs.declared.Frames.{Frames}
use Rattle.units.specs.declared.Refusal.TheVariants.{SongEmptyOrDifferent, NoPlaceOnSide, AlreadyListed}
use Rattle.units.specs.Checks.{decided}
use Rattle.formats.specs.declared.Format.{Format}
use Rattle.tables.specs.declared.Cue.{Cue}
use Rattle.tables.specs.declared.Cues.{Cues}
use Rattle.tables.specs.declared.Play.{Play}
use Rattle.tables.specs.declared.Playlist.{Playlist}
use Rattle.tables.specs.Cues.{no_cue, name_of, names_in}
use Rattle.tables.specs.Plays.{no_play}
use Rattle.tables.specs.More.{cues_with, plays_with}
use Rattle.tables.proofs.Putting.{array_long}
use Rattle.tables.proofs.Behind.{names-first}
use Rattle.rules.specs.declared.Record.{Record}
use Rattle.rules.specs.Written.{RecordFits}
use Rattle.rules.proofs.Typed.{record-typed}
use Rattle.side.specs.Side.{cue_list, play_list, is_side, bytes_of_frames, frames_at, sound_at, songs_of, songs_held, is_listed, listed_sound}
use Rattle.side.specs.Adding.{once_more, has_place, place_checks, with_song}
use Rattle.side.proofs.Songs.{songs-named, side-tiled, lists-long, cues-many, counts-agree}
use Rattle.units.specs.Refusals.{Verdict}
use Rattle.std.specs.Prelude.{Err, Ok}

-- ---- the sound of a song
pub product-fits : {a b : ℕ} → Fits w16 a → Fits w32 b → Fits w64 (a * b)
product-fits {a} {b} h k =
    let l : a ≤ 65535 = omega (arith, h.fits) in
    let m : b ≤ 4294967295 = omega (arith, k.fits) in
    record { fits = omega (arith, mul-le-mul l m) }

pub frames-part : (f : Format) (w : List ℕ) (place frames : Frames) {from size : BytePlace} {r : List ℕ}
    → from.0 ≡ bytes_of_frames f place.0 → size.0 ≡ bytes_of_frames f frames.0 → r ≡ take size.0 (drop from.0 w)
    → r ≡ frames_at f w place frames
unfolding frames_at
frames-part f w place frames e g h = h ∙ (λ i. take (g i) (drop (e i) w))

pub part-place : (n q : ℕ) {from : BytePlace} {k p : ℕ} → from.0 ≡ k → p ≡ q + min from.0 n → p ≡ q + min k n
part-place n q e h = h ∙ ap (λ (j : ℕ). q + min j n) e

-- the song that has a number is the one at its index among the names
songs-sound : (n : Donation) (f : Format) (w : List ℕ) (cs : List Cue) (ps : List Play) → length cs ≡ length ps
    → index_in n.0 (map name_of cs) < length cs
    → frames_at f w (get_or cs (index_in n.0 (map name_of cs)) no_cue).place (get_or ps (index_in n.0 (map name_of cs)) no_play).length
    ≡ listed_sound n (songs_of f w cs ps)
unfolding songs_of listed_sound index_in
songs-sound n f w [] ps e h = absurd (omega arith)
songs-sound n f w (c ∷ cs) [] e h = absurd (omega arith)
songs-sound n f w (c ∷ cs) (p ∷ ps) e h = by (index_in n.0 (map name_of cs)) (eqb c.name.0 n.0) h (songs-sound n f w cs ps (omega arith))
  where
    by : (i : ℕ) (b : Bool) → cond b 0 (suc i) < suc (length cs)
        → (i < length cs → frames_at f w (get_or cs i no_cue).place (get_or ps i no_play).length ≡ listed_sound n (songs_of f w cs ps))
        → frames_at f w (get_or (c ∷ cs) (cond b 0 (suc i)) no_cue).place (get_or (p ∷ ps) (cond b 0 (suc i)) no_play).length
        ≡ cond b (frames_at f w c.place p.length) (listed_sound n (songs_of f w cs ps))
    by i true k t = refl
    by i false k t = t (omega arith)

module _ (m : Record) (w : List ℕ) (number : Donation) {found : ℕ} (few : m.cues.count ≤ 64) (side : is_side m ≡ true)
    (cue_room : length m.cues.list ≡ 64)
    (e : found ≡ index_in number.0 (names_in m.cues)) where
  many : length (cue_list m) ≡ m.cues.count
  many = cues-many m few cue_room

  plays-many : length (play_list m) ≤ m.playlist.count
  unfolding play_list
  plays-many = omega (arith, length-take m.playlist.count m.playlist.list)

  names : names_in m.cues ≡ map name_of (cue_list m)
  unfolding cue_list
  names = names-first m.cues few

  index : found ≡ index_in number.0 (map name_of (cue_list m))
  index = e ∙ ap (index_in number.0) names

  listed : is_listed number (songs_held m w) ≡ ltb found m.cues.count
  unfolding songs_held has
  listed =
      songs-named number m.format w (cue_list m) (play_list m) (lists-long m side)
      ∙ (λ i. ltb (sym index i) ((length-map (cue_list m) name_of ∙ many) i))

  first-cue : found < m.cues.count → get_or m.cues.list found no_cue ≡ get_or (cue_list m) found no_cue
  unfolding cue_list
  first-cue h = sym (get_or-take m.cues.count m.cues.list found no_cue h)

  first-play : found < m.cues.count → get_or m.playlist.list found no_play ≡ get_or (play_list m) found no_play
  unfolding play_list
  first-play h = sym (get_or-take m.playlist.count m.playlist.list found no_play (omega (arith, lists-long m side, many, plays-many)))

  -- ---- a listed number
  sound : found < m.cues.count
      → sound_at m w found
      ≡ listed_sound number (songs_held m w)
  unfolding songs_held
  sound h = (λ j. frames_at m.format w (cue j).place (play j).length) ∙ songs-sound number m.format w (cue_list m) (play_list m) (lists-long m side) within
    where
      cue : get_or m.cues.list found no_cue ≡ get_or (cue_list m) (index_in number.0 (map name_of (cue_list m))) no_cue
      cue = first-cue h ∙ ap (λ (k : ℕ). get_or (cue_list m) k no_cue) index

      play : get_or m.playlist.list found no_play ≡ get_or (play_list m) (index_in number.0 (map name_of (cue_list m))) no_play
      play = first-play h ∙ ap (λ (k : ℕ). get_or (play_list m) k no_play) index

      within : index_in number.0 (map name_of (cue_list m)) < length (cue_list m)
      within = omega (arith, index, many)

  names-long : length (names_in m.cues) ≡ m.cues.count
  names-long = ap length names ∙ length-map (cue_list m) name_of ∙ many

  -- the number is listed where the search found it
  module _ (frames : Frames) (v : List ℕ) (limit : Frames) where
    pub place-listed : {r : Verdict} → found < length (names_in m.cues) → r ≡ once_more (sound_at m w found) v
        → r ≡ decided (place_checks m w frames v number limit)
    unfolding decided once_more
    place-listed h q =
        let within : found < m.cues.count = omega (arith, names-long) in
        q
        ∙ ap (λ (l : List ℕ). once_more l v) (sound within)
        ∙ by (same_bytes (listed_sound number (songs_held m w)) v)
        ∙ simp (listed, lt-ltb found m.cues.count within)
      where
        by : (b : Bool) → ◌≡◌ {A = Verdict} (Err (cond b AlreadyListed SongEmptyOrDifferent))
            (cond (not b) (Err SongEmptyOrDifferent) (Err AlreadyListed))
        by true = refl
        by false = refl

    -- and not where it found nothing
    module _ (h : has number.0 (names_in m.cues) ≡ false) {b : Bool} (p : b ≡ has_place m frames limit) where
      unlisted : is_listed number (songs_held m w) ≡ false
      unfolding has
      unlisted =
          let past = ltb-false (index_in number.0 (names_in m.cues)) (length (names_in m.cues)) h in
          listed ∙ le-ltb found m.cues.count (omega (arith, names-long, e))

      pub place_none : not b ≡ true → Err NoPlaceOnSide ≡ decided (place_checks m w frames v number limit)
      unfolding decided
      place_none f = simp (unlisted, sym p ∙ not-true b f)

      pub place-free : not b ≡ false → Ok tt ≡ decided (place_checks m w frames v number limit)
      unfolding decided
      place-free f = simp (unlisted, sym p ∙ not-false b f)

pub ruleset parting = (product-fits, frames-part, part-place)

-- a record of the code has room for 64 cues
pub cues-roomy : {m : Record} → RecordFits m → length m.cues.list ≡ 64
cues-roomy f = f.cues.room

pub ruleset placing = (array_long, record-typed, cues-roomy, place-listed, place_none, place-free)

-- ---- the record with one song more
pub song-made : (m : Record) (number : Donation) (frames : Frames) {c : Cues} {p : Playlist}
    → c ≡ cues_with m.cues (record { name = number; position = m.frames; place = m.frames })
    → p ≡ plays_with m.playlist (record { name = number; length = frames; times = 1 })
    → record { format = m.format; frames = record { 0 = m.frames.0 + frames.0 }; cues = c; playlist = p; titles = m.titles } ≡ with_song m number frames
unfolding with_song
song-made m number frames e f = simp (e, f)

-- a side has as many entries as cues
pub few-entries : (m : Record) → is_side m ≡ true → m.cues.count < 64 → m.playlist.count ≤ 64
    → length m.cues.list ≡ 64 → length m.playlist.list ≡ 64 → m.playlist.count < 64
unfolding cue_list play_list
few-entries m e h k cue_room play_room =
    let same = counts-agree m.cues m.playlist m.frames.0 (omega arith) k cue_room play_room (side-tiled m e) in
    omega arith

pub ruleset singing = (song-made, few-entries, array_long)
