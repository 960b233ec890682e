-- What a side file holds: a record and its sound that stand as a side, whole frames of bytes; and what is read of a file that
-- holds a record and a sound. Assumes nothing.
use mathlib.Core.Path.{◌≡◌, refl, sym, ap, ◌∙◌, subst}
use mathlib.Core.Bool.{true, cond, ◌&&◌}
use mathlib.Core.List.{List, [], ◌∷◌, map, append-nil}
use Prim.Native.Nat.{ℕ, ◌*◌}
use native.Mathlib.Omega.{arith}
use lib.Dec.{T, leb, eqb}
use lib.ListN.{length, take}
use lib.Pow.{are_bytes}
use borrow.Author.Tests.{eqb-true, le-leb}
use Rattle.lists.proofs.Laws.{and_both}
use Rattle.riff.proofs.Parting.{part_bytes_lem}
use Rattle.formats.specs.declared.Format.{Format}
use Rattle.tables.proofs.Entries.{cues-whole, plays-whole}
use Rattle.riff.specs.Laying.{extent, extent_if}
use Rattle.tables.specs.declared.Cues.{Cues}
use Rattle.tables.specs.Cues.{name_of, names_in}
use Rattle.tables.proofs.Behind.{names-first}
use Rattle.titles.specs.Titles.{Entry, entries_of, entries_rule}
use Rattle.titles.specs.Writing.{list_bytes}
use Rattle.titles.proofs.Round.{list-even, no_names}
use Rattle.rules.specs.declared.Record.{Record}
use Rattle.rules.specs.Rules.{record_of, record_in, reading_verdict}
use Rattle.reader.specs.Content.{Content, holds, cue_part, playlist_part, content_of, reading_of, sound_of, reading, sound_in, titles_in, texts_in, file_format, file_frames}
use Rattle.reader.specs.Demands.{TitlesTold}
use Rattle.reader.proofs.Titles.{titles-told, read-rule, titles-count}
use Rattle.writer.specs.File.{titles_chunk}
use Rattle.reader.proofs.Kept.{held, content-taken, content-rules}
use Rattle.side.specs.Side.{sixteen_bit, is_side, side_read, songs_held, is_side_file, songs_in}
use Rattle.side.specs.Adding.{suits}
use Rattle.side.specs.Demands.{titles_size}
use Rattle.side.proofs.Sixteen.{sixteen-align, sixteen-long}
use Rattle.side.proofs.Songs.{side-sixteen, side-says}
use Rattle.side.proofs.Growing.{Standing, songs-count}
use Rattle.std.specs.Prelude.{Ok}

-- ---- a file that holds a record and a sound
module _ (s : List ℕ) {m : Record} {w : List ℕ} (c : content_of s ≡ holds m w) where
  pub held-made : record_in (reading s) ≡ m
  unfolding reading
  held-made = ap (λ (x : Content). record_in (reading_of x)) c

  pub held-sound : sound_in s ≡ w
  unfolding sound_in
  held-sound = ap sound_of c

  pub held-side : is_side_file s ≡ is_side m
  unfolding reading side_read
  held-side = ap (λ (x : Content). side_read (reading_of x)) c

  pub held-songs : songs_in s ≡ songs_held m w
  held-songs = λ i. songs_held (held-made i) (held-sound i)

-- ---- bytes
pub sound-bytes : (s : List ℕ) {m : Record} {w : List ℕ} → holds m w ≡ content_of s → T (are_bytes s) → T (are_bytes w)
sound-bytes s c t =
    let h = held s c in
    subst (λ (x : List ℕ). T (are_bytes x)) h.sound (part_bytes_lem s h.places.sound [] t tt)

-- ---- a side file
module _ (s : List ℕ) (e : is_side_file s ≡ true) where
  side-parts : (reading_verdict (reading s) ≡ Ok tt) × (is_side (record_in (reading s)) ≡ true)
  side-parts = side-says (reading s) e

  pub side-held : holds (record_in (reading s)) (sound_in s) ≡ content_of s
  side-held = content-taken s refl side-parts.0 refl

  pub standing : Standing (record_in (reading s)) (sound_in s)
  unfolding record_of
  standing =
      let h = held s side-held in
      record {
        rules = content-rules s side-held;
        side = side-parts.1;
        cue_room = ap (λ (x : Record). length x.cues.list) (sym h.made) ∙ cues-whole (cue_part s h.places);
        play_room = ap (λ (x : Record). length x.playlist.list) (sym h.made) ∙ plays-whole (playlist_part s h.places);
      }

  -- a song that suits it is whole frames of the same size
  module _ (t : List ℕ) (a : reading_verdict (reading t) ≡ Ok tt) (f : suits (file_format s) (file_format t) ≡ true) where
    song-held : holds (record_in (reading t)) (sound_in t) ≡ content_of t
    song-held = content-taken t refl a refl

    suited-says : (sixteen_bit (file_format t) ≡ true) × ((file_format t).channels ≡ (file_format s).channels)
    unfolding suits
    suited-says =
        let g : Format = file_format s in
        let h : Format = file_format t in
        let p = and_both (sixteen_bit h && eqb h.channels g.channels) (eqb h.rate g.rate) f in
        let q = and_both (sixteen_bit h) (eqb h.channels g.channels) p.0 in
        (q.0, eqb-true h.channels g.channels q.1)

    pub song-long : length (sound_in t) ≡ (file_format s).align * file_frames t
    song-long =
        let k = content-rules t song-held in
        let p = suited-says in
        let x : (file_format t).align ≡ (file_format s).align =
        sixteen-align k p.0 ∙ ap (λ (n : ℕ). 2 * n) p.1 ∙ sym (sixteen-align standing.rules (side-sixteen (record_in (reading s)) side-parts.1)) in
        sixteen-long k p.0 ∙ ap (λ (n : ℕ). n * file_frames t) x

-- ---- the titles of a file: the bytes that they take, and that a side without songs has none
pub titles-extent : (s : List ℕ) → extent_if (titles_chunk (texts_in s) (record_in (reading s)).titles) ≡ titles_size (titles_in s)
unfolding extent_if TitlesTold
titles-extent s =
    (λ i. cond (leb 1 (titles-count s i)) (extent (length (list_bytes (told i)))) 0) ∙ by (titles_in s)
  where
    told : entries_of (texts_in s) (record_in (reading s)).titles ≡ titles_in s
    told = ap (λ (b : List ℕ). entries_of b (record_in (reading s)).titles) (sym (append-nil (texts_in s))) ∙ titles-told s []

    by : (es : List Entry) → cond (leb 1 (length es)) (extent (length (list_bytes es))) 0 ≡ titles_size es
    by [] = refl
    by (e ∷ es) =
        let some = le-leb 1 (length (e ∷ es)) (omega arith) in
        simp some (omega (arith, list-even (e ∷ es)))

pub no-titles : (s : List ℕ) → is_side_file s ≡ true → songs_in s ≡ [] → titles_in s ≡ []
no-titles s e n =
    let c : Cues = (record_in (reading s)).cues in
    let z : c.count ≡ 0 = sym (songs-count (standing s e)) ∙ ap length n in
    let names : names_in c ≡ [] = names-first c (omega arith) ∙ ap (λ (i : ℕ). map name_of (take i c.list)) z in
    no_names (titles_in s) (sym (ap (λ (x : List ℕ). entries_rule x (titles_in s)) names) ∙ read-rule s)
