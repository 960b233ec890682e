-- Demand 2 of sides: by what an answer says of the verdict, and by what the written file holds. Assumes nothing.
use mathlib.Core.Path.{◌≡◌, refl, sym, ap, ◌∙◌, subst}
use mathlib.Core.Bool.{Bool, true, false, cond, ◌||◌}
use mathlib.Core.List.{List, [], ◌∷◌}
use Prim.Native.Nat.{ℕ, ◌+◌, ◌*◌, ◌<◌}
use native.Mathlib.Omega.{arith}
use lib.Dec.{leb}
use lib.ListN.{length, length-append}
use borrow.Author.Tests.{leb-false, eq-eqb}
use Rattle.little.specs.Same.{same_bytes}
use Rattle.little.proofs.Comparing.{same-itself, same_not}
use Rattle.units.specs.declared.BytePlace.{BytePlace}
use Rattle.units.specs.declared.Donation.{Donation}
use Rattle.formats.specs.declared.Format.{Format}
use Rattle.rules.specs.declared.Record.{Record}
use Rattle.reader.specs.Content.{holds, content_of, reading, sound_in, texts_in, file_format, file_frames}
use Rattle.writer.specs.File.{right_titles}
use Rattle.writer.specs.Demands.{Back}
use Rattle.writer.proofs.Settling.{settled_says}
use Rattle.writer.proofs.Demands.{bytes-say, content-written, titles-written, back}
use Rattle.writer.proofs.Bytes.{file-bytes}
use Rattle.side.specs.Side.{Song, is_side_file, songs_in, is_listed, listed_sound}
use Rattle.side.specs.Adding.{suits, with_song, new_record, new_sound, new_file}
use Rattle.side.specs.Demands.{Sent, file_with, song_from, Grown, Grows, StaysWithin, Listed, OnceListed, AddedAgain}
use Rattle.side.proofs.Growing.{songs-count}
use Rattle.side.proofs.Answers.{added-says, empty-added, listed-added}
use Rattle.side.proofs.Sides.{held-made, held-sound, held-side, held-songs, standing, song-long}
use Rattle.side.proofs.Listed.{listed-behind, sound-behind, sound-some}
use Rattle.side.proofs.Joining.{new-fits, new-kept, new-bytes, new-texts, new-side, new-songs, new-titles, new-long}
use Rattle.std.specs.Prelude.{Ok}
use Rattle.rules.specs.Rules.{reading_verdict}

-- ---- a song that is added
pub grows : Grows
unfolding Grows Back new_file with_song
grows s x n h =
    let p = added-says s x n h.answer in
    let k = p.0 in
    let m : Record = new_record s x.file x.number in
    let w : List ℕ = new_sound s x.file in
    let new : List ℕ = file_with s x in
    let fits = new-fits k h.bytes h.sent.number h.sent.limit in
    let c : content_of new ≡ holds m w = content-written m (texts_in s) w x.room n fits p.1 ∙ ap (λ (z : Record). holds z w) (new-kept k) in
    record {
      long = (back m (texts_in s) w x.room n fits p.1).long;
      bytes = file-bytes m (texts_in s) w (new-texts k h.bytes) (new-bytes k h.bytes h.sent.file);
      side = held-side new c ∙ new-side k;
      format = ap (λ (z : Record). z.format) (held-made new c);
      frames = ap (λ (z : Record). z.frames.0) (held-made new c);
      songs = held-songs new c ∙ new-songs k;
      sound = held-sound new c;
      titles = titles-written m (texts_in s) w x.room n fits p.1 ∙ new-titles k;
    }

pub songs-grown : (s : List ℕ) (x : Sent) {n : BytePlace} → Grown s x n → length (songs_in (file_with s x)) ≡ length (songs_in s) + 1
songs-grown s x g = ap length g.songs ∙ length-append (songs_in s) (song_from (file_frames s) x ∷ [])

pub stays_within : StaysWithin
unfolding StaysWithin Grows new_file
stays_within s x n h =
    let p = added-says s x n h.answer in
    let k = p.0 in
    let g : Grown s x n = grows s x n h in
    let m : Record = new_record s x.file x.number in
    let w : List ℕ = new_sound s x.file in
    let c = songs-count (standing s k.side) in
    let f = g.frames in
    record {
      songs = omega (arith, k.few, songs-grown s x g);
      frames = omega (arith, k.within);
      size = new-long k;
      most = (settled_says (right_titles m (texts_in s)) m (texts_in s) w x.room (bytes-say (right_titles m (texts_in s)) m (texts_in s) w x.room n p.1)).limit;
    }

-- ---- a listed number
pub once-listed : OnceListed
unfolding OnceListed
once-listed s x a l b c = by (leb 1 (file_frames x.file)) refl
  where
    listed : List ℕ
    listed = listed_sound x.number (songs_in s)

    -- a file with the sound of a listed song has frames
    frames-some : sound_in x.file ≡ listed → file_frames x.file < 1 → ⊥
    frames-some e h =
        let z : (file_format s).align * file_frames x.file ≡ (file_format s).align * 0 =
        ap (λ (n : ℕ). (file_format s).align * n) (omega arith) in
        let g = ap length e in
        omega (arith, song-long s a x.file b c, sound-some (standing s a) x.number l)

    by : (q : Bool) → leb 1 (file_frames x.file) ≡ q → Listed listed s x
    by true f =
        record {
          same = λ e.
              listed-added s x b a c true f l
              (ap (λ (v : List ℕ). same_bytes v (sound_in x.file)) (sym e) ∙ same-itself (sound_in x.file));
          other = λ n.
              listed-added s x b a c false f l
              (sym (same_not listed (sound_in x.file) (λ e. n (sym e))));
        }
    by false f =
        record {
          same = λ e. absurd (frames-some e (leb-false 1 (file_frames x.file) f));
          other = λ n. empty-added s x b a c f;
        }

-- in the file that adding x made its number is listed, with its sound
module _ {s : List ℕ} {x : Sent} {n : BytePlace} (g : Grown s x n) (f : is_listed x.number (songs_in s) ≡ false) where
  abbrev one : List Song
  one = song_from (file_frames s) x ∷ []

  pub own-listed : is_listed x.number (songs_in (file_with s x)) ≡ true
  unfolding is_listed
  own-listed =
      ap (is_listed x.number) g.songs
      ∙ listed-behind x.number (songs_in s) one f
      ∙ ap (λ (q : Bool). q || false) (eq-eqb x.number.0 x.number.0 refl)

  own-sound : listed_sound x.number (songs_in (file_with s x)) ≡ sound_in x.file
  unfolding listed_sound
  own-sound =
      ap (listed_sound x.number) g.songs
      ∙ sound-behind x.number (songs_in s) one f
      ∙ ap (λ (q : Bool). cond q (sound_in x.file) []) (eq-eqb x.number.0 x.number.0 refl)

-- what a song under a listed number is told rests on the format of the side, and on the sound under the number
pub told-listed : (s : List ℕ) (x : Sent) {f : Format} {sound : List ℕ} → is_side_file s ≡ true → is_listed x.number (songs_in s) ≡ true
    → reading_verdict (reading x.file) ≡ Ok tt → suits f (file_format x.file) ≡ true
    → file_format s ≡ f → listed_sound x.number (songs_in s) ≡ sound → Listed sound s x
unfolding OnceListed
told-listed s x a l v c f e =
    subst (λ (w : List ℕ). Listed w s x) e (once-listed s x a l v (ap (λ (z : Format). suits z (file_format x.file)) f ∙ c))

pub added-again : AddedAgain
unfolding AddedAgain Grows
added-again s x y n h e v c =
    let new : List ℕ = file_with s x in
    let g : Grown s x n = grows s x n h in
    let f = (added-says s x n h.answer).0.fresh in
    told-listed new y g.side (ap (λ (d : Donation). is_listed d (songs_in new)) e ∙ own-listed g f) v c
    g.format (ap (λ (d : Donation). listed_sound d (songs_in new)) e ∙ own-sound g f)
