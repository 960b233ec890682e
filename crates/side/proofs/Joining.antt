-- The record and the sound of a song that is taken: what a side with one song more keeps, at the two files. Assumes nothing.
use mathlib.Core.Path.{◌≡◌, refl, sym, ap, ◌∙◌}
use mathlib.Core.Bool.{true}
use mathlib.Core.List.{List, [], ◌∷◌, ◌++◌, append-nil}
use Prim.Native.Nat.{ℕ, ◌+◌, ◌*◌, ◌<◌}
use native.Mathlib.Omega.{arith}
use lib.Dec.{T}
use lib.ListN.{length}
use lib.Pow.{are_bytes}
use Rattle.little.proofs.Reading.{both_bytes}
use Rattle.units.specs.declared.Donation.{Donation}
use Rattle.units.specs.declared.Frames.{Frames}
use Rattle.tables.specs.declared.Cue.{Cue}
use Rattle.tables.specs.declared.Cues.{Cues}
use Rattle.tables.specs.Cues.{names_in}
use Rattle.tables.specs.More.{cues_with}
use Rattle.tables.proofs.Behind.{names_more}
use Rattle.titles.specs.Titles.{entries_of, entries_rule}
use Rattle.titles.proofs.Round.{rule-more}
use Rattle.rules.specs.Rules.{Writable, record_in}
use Rattle.rules.specs.Written.{record_kept, RecordFits}
use Rattle.reader.specs.Content.{reading, sound_in, titles_in, texts_in, file_format, file_frames}
use Rattle.reader.specs.Demands.{TitlesTold}
use Rattle.reader.proofs.Titles.{titles-told, read-rule, read-right-for, texts-bytes}
use Rattle.reader.proofs.Kept.{content-taken}
use Rattle.reader.proofs.Again.{content-fits, content-kept-read}
use Rattle.writer.specs.File.{size_of, right_titles}
use Rattle.side.specs.Side.{is_side, songs_held, songs_in}
use Rattle.side.specs.Adding.{with_song, new_record, new_sound, new_file}
use Rattle.side.specs.Demands.{Sent, song_from, side_size}
use Rattle.side.proofs.Growing.{Standing, songs-count, grown-rules, grown-fits, grown-kept, grown-side, grown-songs, grown-long}
use Rattle.side.proofs.Answers.{Taking}
use Rattle.side.proofs.Sides.{sound-bytes, side-held, standing, song-long, titles-extent}

module _ {s : List ℕ} {x : Sent} (k : Taking s x) where
  abbrev t : List ℕ
  t = x.file

  abbrev number : Donation
  number = x.number

  abbrev frames : Frames
  frames = (record_in (reading t)).frames

  stands : Standing (record_in (reading s)) (sound_in s)
  stands = standing s k.side

  long : length (sound_in t) ≡ (file_format s).align * file_frames t
  long = song-long s k.side t k.taken k.suited

  pub new-rules : Writable (new_record s t number) (size_of (new_sound s t))
  new-rules = grown-rules stands number frames (sound_in t) k.few k.some long k.fresh

  pub new-fits : T (are_bytes s) → number.0 < 4294967296 → x.limit.0 < 4294967296 → RecordFits (new_record s t number)
  new-fits b h l =
      let i = k.within in
      grown-fits stands number frames (sound_in t) k.few k.some long (content-fits s (side-held s k.side) b) h (omega arith)

  pub new-kept : record_kept (new_record s t number) ≡ new_record s t number
  new-kept = grown-kept stands number frames (sound_in t) k.few k.some long (content-kept-read s (side-held s k.side))

  pub new-bytes : T (are_bytes s) → T (are_bytes t) → T (are_bytes (new_sound s t))
  new-bytes b c =
      both_bytes (sound_in s) (sound_in t) (sound-bytes s (side-held s k.side) b)
      (sound-bytes t (content-taken t refl k.taken refl) c)

  pub new-side : is_side (new_record s t number) ≡ true
  new-side = grown-side stands number frames (sound_in t) k.few k.some long

  pub new-songs : songs_held (new_record s t number) (new_sound s t)
      ≡ songs_in s ++ (song_from (file_frames s) x ∷ [])
  new-songs = grown-songs stands number frames (sound_in t) k.few k.some long

  -- its titles are those of the side, and may be written with its texts
  pub new-right : right_titles (new_record s t number) (texts_in s) ≡ true
  unfolding with_song
  new-right =
      let c : Cues = (record_in (reading s)).cues in
      let x : Cue = record { name = number; position = (record_in (reading s)).frames; place = (record_in (reading s)).frames } in
      read-right-for s (names_in (cues_with c x))
      (ap (λ (names : List ℕ). entries_rule names (titles_in s)) (names_more c x stands.cue_room k.few)
      ∙ rule-more (names_in c) number.0 (titles_in s) (read-rule s))

  pub new-texts : T (are_bytes s) → T (are_bytes (texts_in s))
  new-texts b = texts-bytes s b

  pub new-titles : entries_of (texts_in s) (new_record s t number).titles ≡ titles_in s
  unfolding with_song TitlesTold
  new-titles = ap (λ (b : List ℕ). entries_of b (record_in (reading s)).titles) (sym (append-nil (texts_in s))) ∙ titles-told s []

  pub new-long : length (new_file s t number) ≡ side_size (file_format s) (length (songs_in s) + 1) (titles_in s) (file_frames s + file_frames t)
  unfolding new_file
  new-long =
      omega (arith, songs-count stands, grown-long stands number frames (sound_in t) k.few k.some long (texts_in s), titles-extent s)
