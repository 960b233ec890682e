-- What the file of a record holds: its chunks stand as they were laid, each says what was put into it, and together they
-- get the record's own verdict. Assumes nothing.
use mathlib.Core.Path.{◌≡◌, refl, sym, ap, ◌∙◌}
use mathlib.Core.Bool.{Bool, true, false, not, cond, ◌&&◌}
use mathlib.Core.List.{List, [], ◌∷◌, map}
use Prim.Native.Nat.{ℕ, ◌≤◌}
use native.Mathlib.Omega.{arith}
use lib.Dec.{leb}
use lib.ListN.{length}
use borrow.Author.Tests.{leb-false}
use Rattle.units.specs.Refusals.{file_limit, Verdict}
use Rattle.units.specs.declared.BytePlace.{BytePlace}
use Rattle.units.specs.declared.Refusal.{Refusal}
use Rattle.units.specs.declared.Refusal.TheVariants.{TitlesWrong}
use Rattle.units.specs.Checks.{check, decided, and_then}
use Rattle.units.proofs.Checks.{then-decided}
use Rattle.riff.specs.declared.Directory.{Directory}
use Rattle.riff.specs.Chunks.{pad_lost}
use Rattle.riff.specs.Walk.{part_of}
use Rattle.riff.specs.Laying.{body_bytes}
use Rattle.riff.specs.Demands.{Reads}
use Rattle.riff.proofs.Laid.{laid-reads}
use Rattle.formats.specs.declared.Format.{Format}
use Rattle.formats.specs.Format.{format_of, format_rule}
use Rattle.formats.specs.Frames.{needs_fact}
use Rattle.formats.specs.Bytes.{format_bytes, fact_bytes}
use Rattle.formats.proofs.Back.{format_back}
use Rattle.tables.specs.Bytes.{cues_bytes, plays_bytes}
use Rattle.tables.specs.Cues.{names_in, cues_of}
use Rattle.tables.proofs.Lengths as tables
use Rattle.tables.proofs.Back.{cues-back}
use Rattle.tables.proofs.Kept.{kept-names}
use Rattle.titles.specs.Titles.{entries_of}
use Rattle.titles.specs.Lists.{entries_in, list_valid, titles_of}
use Rattle.titles.specs.Writing.{piece_of, list_bytes, titles_kept, list_part}
use Rattle.titles.proofs.Round.{round-entries, round-titles, round-valid, none_in, none-titles, none-valid, none_kept, no-entries}
use Rattle.rules.specs.declared.Record.{Record}
use Rattle.rules.specs.Rules.{ChunkBytes, record_of, with_titles, chunk_checks, verdict_of, record_verdict, reading_verdict}
use Rattle.rules.specs.Written.{written_bytes, record_kept, RecordFits, FaultSaid}
use Rattle.rules.proofs.Taken.{record-keeps}
use Rattle.rules.proofs.Back.{verdict-back, record-back}
use Rattle.reader.specs.Content.{Content, refused, holds, content_by, zeros, format_part, sound_part, fact_part, cue_part, playlist_part, titles_part, chunks_at, record_at, titles_valid, chunks_checks, checks_at, verdict_at, content_in, content_of, reading_of, reading, spot_by, titles_place, titles_spot, titles_in}
use Rattle.writer.specs.File.{size_of, parts_of, file_of, right_titles}
use Rattle.std.specs.Prelude.{Err, Ok}

-- a table is left out exactly where its bytes are those that are read in its place
in_place : (count : ℕ) (bytes : List ℕ) → (count ≡ 0 → bytes ≡ zeros) → cond (leb 1 count) bytes zeros ≡ bytes
in_place count bytes e = by (leb 1 count) refl
  where
    by : (b : Bool) → leb 1 count ≡ b → cond b bytes zeros ≡ bytes
    by true t = refl
    by false t = sym (e (let h = leb-false 1 count t in omega arith))

-- so is a fact, where the format that is read is the one that was written
fact-place : (b : Bool) (bytes : List ℕ) → cond b bytes (cond b [] zeros) ≡ cond b bytes zeros
fact-place true bytes = refl
fact-place false bytes = refl

module _ (m : Record) (b w : List ℕ) (h : RecordFits m) (k : FaultSaid m (size_of w)) (l : length (file_of m b w) ≤ file_limit) where
  abbrev s : List ℕ
  s = file_of m b w

  laid : Reads s (parts_of m b w)
  unfolding file_of parts_of list_bytes
  laid = laid-reads (parts_of m b w) (body_bytes (map piece_of (entries_of b m.titles))) refl l

  abbrev d : Directory
  d = laid.places

  abbrev n : BytePlace
  n = size_of w

  -- ---- the parts
  format-part : format_part s d ≡ format_bytes m.format
  unfolding parts_of
  format-part = laid.format

  sound-part : sound_part s d ≡ w
  unfolding parts_of
  sound-part = laid.sound

  cue-part : cue_part s d ≡ cues_bytes m.cues
  unfolding parts_of
  cue-part = laid.cues zeros ∙ in_place m.cues.count (cues_bytes m.cues) (tables.cues-none m.cues)

  playlist-part : playlist_part s d ≡ plays_bytes m.playlist
  unfolding parts_of
  playlist-part = laid.plays zeros ∙ in_place m.playlist.count (plays_bytes m.playlist) (tables.plays-none m.playlist)

  titles-part : titles_part s d ≡ list_part b m.titles
  unfolding parts_of
  titles-part = laid.titles []

  fact-part : format_rule m.format ≡ true → fact_part s d ≡ cond (needs_fact m.format) (fact_bytes m.frames) zeros
  unfolding parts_of
  fact-part e =
      let f : format_of (format_part s d) ≡ m.format = ap format_of format-part ∙ format_back m.format e in
      laid.fact (cond (needs_fact (format_of (format_part s d))) [] zeros)
      ∙ ap (λ (g : Format). cond (needs_fact m.format) (fact_bytes m.frames) (cond (needs_fact g) [] zeros)) f
      ∙ fact-place (needs_fact m.format) (fact_bytes m.frames)

  -- ---- what they say, and the verdict on them
  bytes-at : chunks_at s d ≡ written_bytes m n (fact_part s d)
  bytes-at = λ i. record { format = format-part i; sound = size_of (sound-part i); fact = fact_part s d; cues = cue-part i; plays = playlist-part i }

  names_at : names_in (record_at s d).cues ≡ names_in m.cues
  unfolding record_of
  names_at = ap (λ (c : List ℕ). names_in (cues_of c)) cue-part ∙ ap names_in (cues-back h.cues) ∙ kept-names m.cues h.cues.room

  listed_at : titles_valid s d ≡ list_valid (pad_lost d.titles) (list_part b m.titles) (names_in m.cues)
  listed_at =
      (λ i. not (laid.alone i) && list_valid (pad_lost d.titles) (titles-part i) (names_at i))

  verdict-at : verdict_at s d ≡ and_then (record_verdict m n)
      (cond (list_valid (pad_lost d.titles) (list_part b m.titles) (names_in m.cues)) (Ok tt) (Err TitlesWrong))
  unfolding checks_at chunks_checks chunk_checks decided
  verdict-at =
      simp (laid.format_there, laid.sound_there)
      (then-decided (chunk_checks (chunks_at s d) (record_at s d)) (check (titles_valid s d) TitlesWrong ∷ [])
      ∙ (λ i. and_then (others i) (cond (listed_at i) (Ok tt) (Err TitlesWrong))))
    where
      others : verdict_of (chunks_at s d) (record_of (chunks_at s d)) ≡ record_verdict m n
      others = ap (λ (c : ChunkBytes). verdict_of c (record_of c)) bytes-at ∙ verdict-back m n h fact-part k

  -- ---- what the file holds
  content-by : {v : Verdict} → verdict_at s d ≡ v → content_of s ≡ content_by v (record_at s d) (sound_part s d)
  unfolding content_of
  content-by e = ap (content_in s) laid.walked ∙ ap (λ (v : Verdict). content_by v (record_at s d) (sound_part s d)) e

  -- a record that breaks a rule is refused for it
  pub ruled-back : {r : Refusal} → record_verdict m n ≡ Err r → content_of s ≡ refused r
  ruled-back {r} e = content-by (verdict-at ∙ ap (λ (v : Verdict). and_then v (cond (list_valid (pad_lost d.titles) (list_part b m.titles) (names_in m.cues)) (Ok tt) (Err TitlesWrong))) e)

  -- and one whose list of titles is not valid is refused for that
  pub titles-back : record_verdict m n ≡ Ok tt → ((lost : Bool) → list_valid lost (list_part b m.titles) (names_in m.cues) ≡ false)
      → content_of s ≡ refused TitlesWrong
  titles-back e f = content-by (verdict-at ∙ (λ i. and_then (e i) (cond (f (pad_lost d.titles) i) (Ok tt) (Err TitlesWrong))))

  -- one that keeps all rules is read back
  module _ (e : record_verdict m n ≡ Ok tt) (r : right_titles m b ≡ true) where
    part-valid : (lost : Bool) → list_valid lost (list_part b m.titles) (names_in m.cues) ≡ true
    part-valid lost = by (leb 1 m.titles.count)
      where
        by : (x : Bool) → list_valid lost (cond x (list_bytes (entries_of b m.titles)) []) (names_in m.cues) ≡ true
        by true = round-valid (names_in m.cues) b m.titles h.titles r lost
        by false = none-valid lost (names_in m.cues)

    part-titles : titles_of (list_part b m.titles) ≡ titles_kept m.titles
    part-titles = by (leb 1 m.titles.count) refl
      where
        by : (x : Bool) → leb 1 m.titles.count ≡ x → titles_of (cond x (list_bytes (entries_of b m.titles)) []) ≡ titles_kept m.titles
        by true g = round-titles (names_in m.cues) b m.titles h.titles r
        by false g = none-titles ∙ sym (none_kept m.titles (leb-false 1 m.titles.count g))

    part-entries : entries_in (list_part b m.titles) ≡ entries_of b m.titles
    part-entries = by (leb 1 m.titles.count) refl
      where
        by : (x : Bool) → leb 1 m.titles.count ≡ x → entries_in (cond x (list_bytes (entries_of b m.titles)) []) ≡ entries_of b m.titles
        by true g = round-entries (names_in m.cues) b m.titles h.titles r
        by false g = none_in ∙ sym (no-entries b m.titles (leb-false 1 m.titles.count g))

    accepted-at : verdict_at s d ≡ Ok tt
    accepted-at = verdict-at ∙ (λ i. and_then (e i) (cond (part-valid (pad_lost d.titles) i) (Ok tt) (Err TitlesWrong)))

    pub content-back : content_of s ≡ holds (record_kept m) w
    content-back =
        content-by accepted-at
        ∙ (λ i. holds (with_titles (record_of (bytes-at i)) (titles_of (titles-part i))) (sound-part i))
        ∙ ap (λ (x : Record). holds x w) (record-back m n h fact-part (record-keeps m n e) part-titles)

    pub entries-back : titles_in s ≡ entries_of b m.titles
    unfolding titles_in titles_spot reading
    entries-back =
        let v : reading_verdict (reading s) ≡ (Ok tt) = ap (λ (c : Content). reading_verdict (reading_of c)) content-back in
        ap entries_in ((λ i. part_of s (spot_by titles_place (v i) (laid.walked i)) []) ∙ titles-part) ∙ part-entries
