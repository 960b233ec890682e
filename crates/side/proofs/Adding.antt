-- The new side and the answer, in the words of the code. Assumes nothing.
use mathlib.Core.Path.{◌≡◌, refl, sym, ap, ◌∙◌, subst}
use mathlib.Core.Bool.{Bool, true, false}
use mathlib.Core.List.{List, [], ◌∷◌, ◌++◌, append-nil}
use Prim.Native.Nat.{ℕ, ◌+◌, ◌≤◌, ◌<◌}
use native.Mathlib.Omega.{arith}
use lib.Dec.{leb}
use lib.ListN.{length}
use mir.Syntax.{w32}
use mir.Val.{Fits}
use Rattle.little.specs.Writing.{holding}
use Rattle.units.specs.declared.Donation.{Donation}
use Rattle.units.specs.declared.Frames.{Frames}
use Rattle.units.specs.declared.Refusal.{Refusal}
use Rattle.units.specs.declared.Refusal.TheVariants.{FormatWrong, NotASide, TitlesWrong}
use Rattle.units.specs.Refusals.{file_limit, Verdict}
use Rattle.units.specs.Checks.{check, decided, AllMet}
use Rattle.riff.specs.Chunks.{pad_lost, Spot}
use Rattle.riff.specs.Walk.{part_of}
use Rattle.riff.specs.Laying.{pieces_of, file_bytes}
use Rattle.formats.specs.declared.Format.{Format}
use Rattle.formats.specs.Format.{format_rule, plain_format}
use Rattle.formats.specs.Bytes.{format_bytes}
use Rattle.formats.proofs.Taken.{taken-two}
use Rattle.tables.specs.Cues.{names_in}
use Rattle.tables.proofs.BehindRules.{cues-few, plays-few}
use Rattle.titles.specs.declared.Titles.{Titles}
use Rattle.titles.specs.Titles.{entries_of, texts_of}
use Rattle.titles.specs.Lists.{entries_in, list_form, titles_of, Stands}
use Rattle.titles.specs.Writing.{list_bytes, Short}
use Rattle.titles.proofs.Round.{titles-many, rule-of, stands-short}
use Rattle.titles.proofs.Lists.{valid-few}
use Rattle.rules.specs.declared.Record.{Record}
use Rattle.rules.specs.Rules.{with_titles, record_checks, blank, bare, record_in, reading_verdict, Reading}
use Rattle.reader.specs.Content.{reading, sound_in, titles_spot, titles_in, texts_in}
use Rattle.reader.specs.Demands.{Refusing, TitlesTold}
use Rattle.reader.proofs.Titles.{list-short, list-formed, titles-made, titles-told}
use Rattle.reader.proofs.Demands.{sound-placed, refusing}
use Rattle.reader.proofs.Kept.{content-taken, content-rules}
use Rattle.writer.specs.File.{size_of, fact_chunk, cues_chunk, plays_chunk, titles_chunk, parts_of, file_of, file_checks, right_titles, write_checks, written_by, writing_by, writing, written_verdict, Written}
use Rattle.writer.proofs.Settling.{format-refused}
use Rattle.side.specs.Side.{is_side, side_read}
use Rattle.side.specs.Adding.{add_checks, add_verdict, with_song, WithList, new_record, add_judged, new_sound, new_file, added_by, adding, empty_side}
use Rattle.side.specs.Demands.{Sent}
use Rattle.side.proofs.Songs.{side-says}
use Rattle.side.proofs.Answers.{verdict-says, place-says, taking}
use Rattle.side.proofs.Joining.{new-right}
use Rattle.std.specs.Prelude.{Err, Ok}

-- ---- a record that is made, and then written without titles
module _ {g m : Record} (e : g ≡ m) (x : Written) (w : List ℕ) where
  pub made-written : (room : ℕ) → x ≡ writing g [] w room → x ≡ writing m [] w room
  made-written room f = f ∙ ap (λ (r : Record). writing r [] w room) e

  pub made_held : (d : List ℕ) {z : List ℕ} → z ≡ holding (written_verdict x) (file_of g [] w) d → z ≡ holding (written_verdict x) (file_of m [] w) d
  made_held d f = f ∙ ap (λ (r : Record). holding (written_verdict x) (file_of r [] w) d) e

-- ---- a record whose titles are those of a list: where they stand in it, it is written as with the texts by themselves
module _ {m : Record} {l : List ℕ} {lost : Bool} (k : WithList m l lost) {f : Titles} (found : Stands l f) {g : Record}
    (e : g ≡ with_titles m f) where
  abbrev texts : List ℕ
  texts = texts_of (entries_in l)

  said : entries_of l f ≡ entries_of texts m.titles
  said = found.entries ∙ sym k.said ∙ ap (entries_of texts) (sym k.titles)

  same_count : f.count ≡ m.titles.count
  same_count = found.many ∙ sym (titles-many l) ∙ ap (λ (t : Titles). t.count) (sym k.titles)

  same-part : titles_chunk l f ≡ titles_chunk texts m.titles
  same-part = λ i. record { there = leb 1 (same_count i); bytes = list_bytes (said i) }

  same-file : (v : List ℕ) → file_of g l v ≡ file_of m texts v
  unfolding file_of parts_of
  same-file v =
      ap (λ (r : Record). file_of r l v) e
      ∙ (λ i. file_bytes (pieces_of (record {
        format = format_bytes m.format;
        fact = fact_chunk m.format m.frames;
        cues = cues_chunk m.cues;
        plays = plays_chunk m.playlist;
        titles = same-part i;
        sound = v;
      })))

  pub carried-written : (v : List ℕ) (room : ℕ) {x : Written} → x ≡ writing_by true g l v room → x ≡ writing m (texts_of (entries_in l)) v room
  unfolding writing_by write_checks record_checks
  carried-written v room h =
      h
      ∙ ap (λ (r : Record). writing_by true r l v room) e
      ∙ (λ i. written_by (decided (record_checks m (size_of v) ++ (check (sym k.right i) TitlesWrong ∷ file_checks (whole i) room))) (size_of (whole i)))
    where
      whole : file_of (with_titles m f) l v ≡ file_of m texts v
      whole = sym (ap (λ (r : Record). file_of r l v) e) ∙ same-file v

  pub carried-held : (v d : List ℕ) (x : Written) {z : List ℕ} → z ≡ holding (written_verdict x) (file_of g l v) d
      → z ≡ holding (written_verdict x) (file_of m (texts_of (entries_in l)) v) d
  carried-held v d x h = h ∙ ap (λ (y : List ℕ). holding (written_verdict x) y d) (same-file v)

  pub carried-short : true ≡ true → Short l g.titles.list g.titles.count
  carried-short _ =
      subst (λ (r : Record). Short l r.titles.list r.titles.count) (sym e)
      (stands-short (names_in m.cues) l f found (rule-of (names_in m.cues) texts m.titles k.right) (sym found.entries ∙ said)
      (valid-few {lost = lost} (record { form = k.form; stands = found })))

  pub carried-list : length l ≤ file_limit
  carried-list = k.short

pub ruleset carrying = (carried-written, carried-held, carried-short, carried-list)

-- ---- two files that were read
module _ (side : Record) (w : List ℕ) (song : Record) (v : List ℕ) (number : Donation) (limit : Frames) {x : Verdict}
    (e : x ≡ add_verdict (Ok side) w (Ok song) v number limit) (f : x ≡ Ok tt) where
  met : AllMet (add_checks (Ok side) w (Ok song) v number limit)
  met = (verdict-says (Ok side) w (Ok song) v number limit (sym e ∙ f)).1

  placed : (side.cues.count < 64) × (side.frames.0 + song.frames.0 ≤ limit.0)
  unfolding AllMet
  placed = place-says side song.frames limit met.1.1.1.1.1.0

  pub side-stands : is_side side ≡ true
  unfolding AllMet
  side-stands = (side-says (Ok side) met.0).1

  pub few-cues : side.cues.count < 64
  few-cues = placed.0

  pub frames-fit : Fits w32 limit.0 → side.frames.0 + song.frames.0 < 4294967296
  frames-fit l = let h = l.fits in omega (arith, placed.1)

-- the list of the side's titles
module _ (s : List ℕ) {spot : Spot} (h : spot ≡ titles_spot s) {l : List ℕ} (i : l ≡ part_of s spot []) where
  list-so : l ≡ part_of s (titles_spot s) []
  list-so = i ∙ ap (λ (x : Spot). part_of s x []) h

  texts-so : texts_of (entries_in l) ≡ texts_in s
  unfolding titles_in
  texts-so = ap (λ (x : List ℕ). texts_of (entries_in x)) list-so

  pub list-carried : {m : Record} {lost : Bool} → m.titles ≡ (record_in (reading s)).titles → right_titles m (texts_in s) ≡ true → lost ≡ pad_lost spot
      → WithList m l lost
  unfolding titles_in TitlesTold
  list-carried {m} a r j =
      record {
        short = subst (λ (x : List ℕ). length x ≤ file_limit) (sym i) (list-short s h);
        form = (λ k. list_form (j k) (i k)) ∙ list-formed s h;
        titles = a ∙ titles-made s ∙ ap titles_of (sym list-so);
        said =
            ap (λ (b : List ℕ). entries_of b (titles_of l)) (sym (append-nil (texts_of (entries_in l))))
            ∙ (λ k. entries_of (texts-so k ++ []) ((ap titles_of list-so ∙ sym (titles-made s)) k))
            ∙ titles-told s []
            ∙ ap entries_in (sym list-so);
        right = ap (right_titles m) texts-so ∙ r;
      }

  module _ (t : List ℕ) {w v : List ℕ} (b : w ≡ sound_in s) (d : v ≡ sound_in t) (m : Record) where
    pub files-written : (room : ℕ) {x : Written} → x ≡ writing m (texts_of (entries_in l)) (w ++ v) room → x ≡ writing m (texts_in s) (new_sound s t) room
    files-written room q = q ∙ (λ k. writing m (texts-so k) (b k ++ d k) room)

    pub files-held : (r : Written) (old : List ℕ) {z : List ℕ} → z ≡ holding (written_verdict r) (file_of m (texts_of (entries_in l)) (w ++ v)) old
        → z ≡ holding (written_verdict r) (file_of m (texts_in s) (new_sound s t)) old
    files-held r old q = q ∙ (λ k. holding (written_verdict r) (file_of m (texts-so k) (b k ++ d k)) old)

-- the answer
module _ (s t : List ℕ) (number : Donation) (limit : Frames) (room : ℕ) where
  abbrev writes : Written
  writes = writing (new_record s t number) (texts_in s) (new_sound s t) room

  pub song_refused : {r : Refusal} → reading t ≡ Err r → Err r ≡ adding s t number limit room
  unfolding adding add_verdict
  song_refused e = simp e

  pub side_refused : {m : Record} {r : Refusal} → reading t ≡ Ok m → reading s ≡ Err r → Err NotASide ≡ adding s t number limit room
  unfolding adding add_verdict decided side_read
  side_refused e f = simp (e, f)

  module _ {old new : Record} (a : reading s ≡ Ok old) (b : reading t ≡ Ok new) {w v : List ℕ} (c : w ≡ sound_in s) (d : v ≡ sound_in t)
      {x : Verdict} (e : x ≡ add_verdict (Ok old) w (Ok new) v number limit) where
    judged_so : add_judged s t number limit ≡ x
    judged_so = (λ i. add_verdict (a i) (sym c i) (b i) (sym d i) number limit) ∙ sym e

    pub add_refused : {r : Refusal} → x ≡ Err r → Err r ≡ adding s t number limit room
    unfolding adding
    add_refused f = sym (ap (λ (u : Verdict). added_by u writes) (judged_so ∙ f))

    module _ (f : x ≡ Ok tt) {g : Record} (h : g ≡ with_song old number new.frames) where
      made_so : g ≡ new_record s t number
      made_so = h ∙ (λ i. with_song (record_in (sym a i)) number (record_in (sym b i)).frames)

      pub add_titles : g.titles ≡ (record_in (reading s)).titles
      unfolding with_song
      add_titles = ap (λ (m : Record). m.titles) made_so

      pub add_right : right_titles g (texts_in s) ≡ true
      add_right =
          let y : Sent = record { file = t; number = number; limit = limit; room = 0 } in
          let k = verdict-says (reading s) (sound_in s) (reading t) (sound_in t) number limit (judged_so ∙ f) in
          ap (λ (m : Record). right_titles m (texts_in s)) made_so ∙ new-right (taking s y k.0 k.1)

      module _ {spot : Spot} (p : spot ≡ titles_spot s) {l : List ℕ} (q : l ≡ part_of s spot []) where
        pub add_list : {lost : Bool} → lost ≡ pad_lost spot → WithList g l lost
        add_list j = list-carried s p q add_titles add_right j

        pub add_written : {y : Written} → y ≡ writing g (texts_of (entries_in l)) (w ++ v) room → y ≡ adding s t number limit room
        unfolding adding
        add_written k =
            files-written s p q t c d g room k
            ∙ ap (λ (m : Record). writing m (texts_in s) (new_sound s t) room) made_so
            ∙ sym (ap (λ (u : Verdict). added_by u writes) (judged_so ∙ f))

        pub add_held : (y : Written) (to : List ℕ) {z : List ℕ} → z ≡ holding (written_verdict y) (file_of g (texts_of (entries_in l)) (w ++ v)) to
            → z ≡ holding (written_verdict y) (new_file s t number) to
        unfolding new_file
        add_held y to k =
            files-held s p q t c d g y to k ∙ ap (λ (m : Record). holding (written_verdict y) (file_of m (texts_in s) (new_sound s t)) to) made_so

-- no file that is read has more than 64 cues or entries
read-few : (s : List ℕ) → ((record_in (reading s)).cues.count ≤ 64) × ((record_in (reading s)).playlist.count ≤ 64)
unfolding Refusing
read-few s = by (reading_verdict (reading s)) refl
  where
    by : (v : Verdict) → reading_verdict (reading s) ≡ v → ((record_in (reading s)).cues.count ≤ 64) × ((record_in (reading s)).playlist.count ≤ 64)
    by (Ok _) e =
        let m : Record = (record_in (reading s)) in
        let k = content-rules s (content-taken s refl e refl) in
        (cues-few m.cues m.frames k.cues, plays-few m.playlist m.cues m.frames k.plays)
    by (Err r) e =
        let b : record_in (reading s) ≡ blank = (refusing s r e).made in
        (rw b (omega arith), rw b (omega arith))

module _ (s : List ℕ) {m : Record} (e : reading s ≡ Ok m) where
  pub read_cues : m.cues.count ≤ 64
  read_cues = subst (λ (x : Reading). (record_in x).cues.count ≤ 64) e (read-few s).0

  pub read_plays : m.playlist.count ≤ 64
  read_plays = subst (λ (x : Reading). (record_in x).playlist.count ≤ 64) e (read-few s).1

pub ruleset adds = (sound-placed, side-stands, few-cues, frames-fit, song_refused, side_refused, add_refused, add_list, add_written, add_held, read_cues, read_plays)

-- ---- an empty side
pub empty-record : (channels rate : ℕ) {f : Format} {r : Record} → f ≡ plain_format channels rate 16 → r ≡ bare f (record { 0 = 0 })
    → r ≡ empty_side channels rate
unfolding empty_side
empty-record channels rate e g = g ∙ ap (λ (f : Format). bare f (record { 0 = 0 })) e

module _ (channels rate room : ℕ) where
  pub empty-channels : 2 < channels → Err FormatWrong ≡ writing (empty_side channels rate) [] [] room
  unfolding empty_side plain_format
  empty-channels h = by (format_rule (empty_side channels rate).format) refl
    where
      by : (b : Bool) → format_rule (empty_side channels rate).format ≡ b → Err FormatWrong ≡ writing (empty_side channels rate) [] [] room
      by true e = absurd (omega (arith, taken-two (empty_side channels rate).format e))
      by false e = sym (format-refused (right_titles (empty_side channels rate) []) (empty_side channels rate) [] [] room e)

pub ruleset emptying = (empty-record, empty-channels, made-written, made_held)
