-- A record with one song more: it keeps the rules, it is a side, and its songs are the old ones with one more at the end. Assumes nothing.
use mathlib.Core.Path.{◌≡◌, refl, sym, ap, ◌∙◌}
use mathlib.Core.Bool.{true, false}
use mathlib.Core.List.{List, [], ◌∷◌, ◌++◌}
use Prim.Native.Nat.{ℕ, ◌+◌, ◌*◌, ◌≤◌, ◌<◌}
use native.Mathlib.Nat.{mul-add}
use native.Mathlib.Omega.{arith}
use lib.ListN.{length, length-append, length-set}
use Rattle.lists.specs.Among.{has}
use Rattle.units.specs.declared.Donation.{Donation}
use Rattle.units.specs.declared.Frames.{Frames}
use Rattle.tables.specs.declared.Cue.{Cue}
use Rattle.tables.specs.declared.Play.{Play}
use Rattle.tables.specs.Cues.{names_in}
use Rattle.tables.specs.More.{cues_with, plays_with}
use Rattle.rules.specs.declared.Record.{Record}
use Rattle.rules.specs.Rules.{Writable}
use Rattle.rules.specs.Written.{record_kept, RecordFits}
use Rattle.riff.specs.Laying.{extent_if}
use Rattle.writer.specs.File.{size_of, titles_chunk, file_of}
use Rattle.side.specs.Side.{Song, cue_list, play_list, tiled, is_side, songs_of, songs_held, is_listed}
use Rattle.side.specs.Adding.{with_song}
use Rattle.tables.proofs.Behind.{first_more, names-first, cues-kept-more, plays-kept-more, cues-fit-more, plays-fit-more}
use Rattle.tables.proofs.BehindRules.{cues-few, plays-few, cues-rule-more, plays-rule-more}
use Rattle.formats.proofs.Whole.{long-whole, long-count, long-even}
use Rattle.side.proofs.Sixteen.{sixteen-long}
use Rattle.side.proofs.Sizes.{file-long}
use Rattle.side.proofs.Songs.{side-sixteen, side-tiled, side-tag, side-bits, lists-long, cues-many, counts-agree, tiled-more}
use Rattle.side.proofs.Songs.{songs-long, songs-named, song-last, songs-more}

-- a record that keeps the rules with its sound w and is a side; its arrays have room for 64
pub record Standing (m : Record) (w : List ℕ) : Type 0 where
  pub rules : Writable m (size_of w)
  pub side : is_side m ≡ true
  pub cue_room : length m.cues.list ≡ 64
  pub play_room : length m.playlist.list ≡ 64

module _ {m : Record} {w : List ℕ} (k : Standing m w) where
  tiles : tiled (cue_list m) (play_list m) 0 m.frames.0 ≡ true
  tiles = side-tiled m k.side

  few-cues : m.cues.count ≤ 64
  few-cues = cues-few m.cues m.frames k.rules.cues

  -- as many cues as entries
  pub counts_same : m.cues.count ≡ m.playlist.count
  unfolding cue_list play_list
  counts_same =
      counts-agree m.cues m.playlist m.frames.0 few-cues
      (plays-few m.playlist m.cues m.frames k.rules.plays) k.cue_room k.play_room tiles

  pub songs-count : length (songs_held m w) ≡ m.cues.count
  unfolding songs_held
  songs-count = songs-long m.format w (cue_list m) (play_list m) (lists-long m k.side) ∙ cues-many m few-cues k.cue_room

  -- the sound is whole frames
  pub sound-long : length w ≡ m.format.align * m.frames.0
  sound-long = sixteen-long k.rules (side-sixteen m k.side)

  module _ (number : Donation) (frames : Frames) (v : List ℕ) (few : m.cues.count < 64) (some : 1 ≤ frames.0)
      (long : length v ≡ m.format.align * frames.0) where
    abbrev grown : Record
    grown = with_song m number frames

    -- what is new in it: the frames, a cue, its entry, and the song that they are
    abbrev more : Frames
    more = record { 0 = m.frames.0 + frames.0 }

    abbrev cue : Cue
    cue = record { name = number; position = m.frames; place = m.frames }

    abbrev play : Play
    play = record { name = number; length = frames; times = 1 }

    abbrev song : List ℕ → Song
    song u = record { number = number; position = m.frames; place = m.frames; frames = frames; sound = u }

    few-plays : m.playlist.count < 64
    few-plays = omega (arith, counts_same)

    cues-listed : cue_list grown ≡ cue_list m ++ (cue ∷ [])
    unfolding cue_list with_song cues_with
    cues-listed = first_more m.cues.list m.cues.count cue k.cue_room few

    plays-listed : play_list grown ≡ play_list m ++ (play ∷ [])
    unfolding play_list with_song plays_with
    plays-listed = first_more m.playlist.list m.playlist.count play k.play_room few-plays

    more-long : length (w ++ v) ≡ m.format.align * (m.frames.0 + frames.0)
    more-long = length-append w v ∙ omega (arith, sound-long, long, mul-add m.format.align m.frames.0 frames.0)

    pub grown-side : is_side grown ≡ true
    unfolding is_side with_song
    grown-side =
        let t : tiled (cue_list m ++ (cue ∷ [])) (play_list m ++ (play ∷ [])) 0 more.0 ≡ true =
        tiled-more m.frames.0 (cue_list m) (play_list m) 0 tiles cue play refl (record { name = refl; times = refl }) in
        simp (side-sixteen m k.side, cues-listed, plays-listed, t)

    pub grown-songs : songs_held grown (w ++ v) ≡ songs_held m w ++ (song v ∷ [])
    unfolding songs_held with_song
    grown-songs =
        (λ i. songs_of m.format (w ++ v) (cues-listed i) (plays-listed i))
        ∙ songs-more m.format w v m.frames.0 0 (cue_list m) (play_list m) cue play tiles (omega (arith, sound-long))
        ∙ ap (λ (u : List ℕ). songs_held m w ++ (song u ∷ [])) (song-last m.format w v m.frames frames sound-long long)

    pub grown-kept : record_kept m ≡ m → record_kept grown ≡ grown
    unfolding record_kept with_song
    grown-kept e =
        let c = cues-kept-more m.cues cue k.cue_room few (ap (λ (r : Record). r.cues) e) in
        let p = plays-kept-more m.playlist play k.play_room few-plays (ap (λ (r : Record). r.playlist) e) in
        let t = ap (λ (r : Record). r.titles) e in
        λ i. record { format = m.format; frames = more; cues = c i; playlist = p i; titles = t i }

    pub grown-fits : RecordFits m → number.0 < 4294967296 → m.frames.0 + frames.0 < 4294967296 → RecordFits grown
    unfolding with_song
    grown-fits h a b =
        record {
          format = h.format;
          frames = b;
          cues = cues-fit-more m.cues cue h.cues few a h.frames h.frames;
          plays = plays-fit-more m.playlist play h.plays few-plays a (omega arith) (omega arith);
          titles = h.titles;
        }

    pub grown-rules : is_listed number (songs_held m w) ≡ false → Writable grown (size_of (w ++ v))
    unfolding with_song songs_held cue_list
    grown-rules l =
        let new : has number.0 (names_in m.cues) ≡ false =
        ap (has number.0) (names-first m.cues (omega arith))
        ∙ sym (songs-named number m.format w (cue_list m) (play_list m) (lists-long m k.side))
        ∙ l in
        record {
          format = k.rules.format;
          whole = long-whole m.format (size_of (w ++ v)) more (side-tag m k.side) k.rules.format more-long;
          count = long-count m.format (size_of (w ++ v)) more (side-tag m k.side) k.rules.format more-long;
          cues = cues-rule-more m.cues cue k.cue_room few m.frames more (omega arith) new k.rules.cues (omega arith);
          plays =
              plays-rule-more m.cues cue k.cue_room few m.frames more (omega arith) new
              m.playlist play k.play_room few-plays k.rules.plays refl some (omega arith) (omega arith);
        }

    -- how long its file is: 44 bytes for the heads and the format, two tables, the titles, and the sound
    pub grown-long : (b : List ℕ)
        → length (file_of grown b (w ++ v))
        ≡ 68 + 36 * (m.cues.count + 1) + extent_if (titles_chunk b m.titles) + m.format.align * (m.frames.0 + frames.0)
    unfolding with_song cues_with plays_with
    grown-long b =
        let n : ℕ = m.cues.count + 1 in
        let t = side-tag m k.side in
        let even = long-even m.format (size_of (w ++ v)) more t k.rules.format more-long (side-bits m k.side) in
        file-long grown b (w ++ v) n t refl (omega (arith, counts_same)) (omega arith) (omega arith)
        (length-set m.cues.list m.cues.count cue ∙ k.cue_room)
        (length-set m.playlist.list m.playlist.count play ∙ k.play_room) even
        ∙ ap (λ (l : ℕ). 68 + 36 * n + extent_if (titles_chunk b m.titles) + l) more-long
