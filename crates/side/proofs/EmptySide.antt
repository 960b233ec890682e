-- An empty side: where it is written, the rules bound its channels and rate, and its tables are those of chunks that say nothing; and
-- when it is written.
-- Assumes nothing.
use mathlib.Core.Path.{◌≡◌, refl, sym, ap, ◌∙◌}
use mathlib.Core.Bool.{Bool, true, false, cond, ◌&&◌}
use mathlib.Core.List.{[]}
use Prim.Native.Nat.{ℕ, ◌*◌, ◌/◌}
use native.Mathlib.Omega.{arith}
use lib.Dec.{leb, ltb}
use lib.ListN.{length}
use borrow.Author.Tests.{eq-eqb}
use Rattle.little.specs.Numbers.{number_in, number_at}
use Rattle.lists.specs.Among.{distinct}
use Rattle.lists.specs.Every.{every, all_below}
use Rattle.lists.proofs.Laws.{and-true}
use Rattle.units.specs.declared.BytePlace.{BytePlace}
use Rattle.formats.specs.Format.{shared, pcm_rule, format_rule, plain_format}
use Rattle.formats.specs.Frames.{needs_fact}
use Rattle.formats.proofs.Whole.{long-whole, long-count}
use Rattle.formats.proofs.Lengths.{format-pcm-long}
use Rattle.formats.proofs.Bounds.{taken-fits}
use Rattle.tables.specs.Tables.{count_in, held}
use Rattle.tables.specs.Cues.{cues_in, cues_of, names_in, places_in, cues_rule}
use Rattle.tables.specs.Plays.{plays_in, plays_of, all_playable, plays_rule}
use Rattle.tables.specs.Bytes.{zero_past, cues_kept, plays_kept}
use Rattle.tables.proofs.Again.{cues-fit, plays-fit}
use Rattle.titles.specs.Titles.{first_entries, each_rule, names_by, entries_rule, table_of}
use Rattle.titles.specs.Writing.{texts_in_row, titles_right, titles_kept}
use Rattle.rules.specs.declared.Record.{Record}
use Rattle.rules.proofs.Again.{none-fit}
use Rattle.rules.specs.Rules.{Writable}
use Rattle.rules.specs.Written.{record_kept, RecordFits}
use Rattle.reader.specs.Content.{holds, zeros, content_of}
use Rattle.writer.specs.File.{fact_chunk, cues_chunk, plays_chunk, titles_chunk, size_of, file_of, right_titles, writing, written_number}
use Rattle.writer.specs.Demands as below
use Rattle.writer.proofs.Sizes.{left_out, file-size}
use Rattle.writer.proofs.Settling.{settled_says}
use Rattle.writer.proofs.Demands.{bytes-say, content-written}
use Rattle.writer.proofs.Demands as below-proofs
use Rattle.writer.proofs.Bytes.{file-bytes}
use Rattle.side.specs.Side.{sixteen_bit, cue_list, play_list, tiled, is_side, songs_of, songs_held}
use Rattle.side.specs.Adding.{empty_side}
use Rattle.side.specs.Demands.{EmptyMade, EmptyNumbered}
use Rattle.side.proofs.Sides.{held-made, held-side, held-songs}
use Rattle.side.proofs.Rows.{not-leb}

module _ (channels rate : ℕ) where
  empty-kept : record_kept (empty_side channels rate) ≡ empty_side channels rate
  unfolding record_kept cues_kept plays_kept titles_kept table_of zero_past held empty_side plain_format
  empty-kept = refl

  empty-fits : {n : BytePlace} → Writable (empty_side channels rate) n → RecordFits (empty_side channels rate)
  unfolding empty_side plain_format cues_of cues_in plays_of plays_in count_in number_at number_in held
  empty-fits k =
      record {
        format = taken-fits (empty_side channels rate).format k.format;
        frames = omega arith;
        cues = cues-fit zeros tt;
        plays = plays-fit zeros tt;
        titles = none-fit;
      }

pub empty-made : EmptyMade
unfolding EmptyMade empty_side plain_format is_side sixteen_bit cue_list play_list tiled songs_held songs_of
empty-made channels rate room n e =
    let m : Record = empty_side channels rate in
    let fits = empty-fits channels rate (settled_says (right_titles m []) m [] [] room (bytes-say (right_titles m []) m [] [] room n e)).rules in
    let c : content_of (file_of m [] []) ≡ holds m [] =
    content-written m [] [] room n fits e ∙ ap (λ (x : Record). holds x []) (empty-kept channels rate) in
    record {
      bytes = file-bytes m [] [] tt tt;
      side = held-side (file_of m [] []) c;
      format = ap (λ (x : Record). x.format) (held-made (file_of m [] []) c);
      songs = held-songs (file_of m [] []) c;
    }

-- ---- its number, by the rules that it keeps and its length
module _ (channels rate : ℕ) where
  abbrev m : Record
  m = empty_side channels rate

  abbrev right : Bool
  right = leb 1 channels && leb channels 2 && leb 1 rate && leb rate 192000

  empty-rule : format_rule m.format ≡ right
  unfolding format_rule shared pcm_rule empty_side plain_format
  empty-rule =
      ap (λ (b : Bool). right && (b && true)) (eq-eqb (channels * 16 / 8) (channels * 16 / 8) refl) ∙ and-true right

  empty-rules : format_rule m.format ≡ true → Writable m (size_of [])
  unfolding empty_side plain_format cues_rule plays_rule names_in places_in held distinct all_below all_playable every
  empty-rules e =
      record {
        format = e;
        whole = long-whole m.format (size_of []) m.frames refl e (omega arith);
        count = long-count m.format (size_of []) m.frames refl e (omega arith);
        cues = refl;
        plays = refl;
      }

  empty_right : right_titles m [] ≡ true
  unfolding titles_right texts_in_row first_entries entries_rule each_rule every names_by distinct empty_side
  empty_right = refl

  empty-long : length (file_of m [] []) ≡ 44
  unfolding empty_side plain_format needs_fact
  empty-long =
      sym (file-size m [] [] (format-pcm-long m.format refl) refl (left_out (fact_chunk m.format m.frames) refl) (left_out (cues_chunk m.cues) refl)
      (left_out (plays_chunk m.playlist) refl) (left_out (titles_chunk [] m.titles) refl))

pub empty-numbered : EmptyNumbered
unfolding EmptyNumbered below.WriteNumbered
empty-numbered channels rate room = by (format_rule (empty_side channels rate).format) refl
  where
    by : (b : Bool) → format_rule (empty_side channels rate).format ≡ b
        → written_number (writing (empty_side channels rate) [] [] room)
        ≡ cond (leb 1 channels && leb channels 2 && leb 1 rate && leb rate 192000) (cond (ltb room 44) 14 0) 9
    by true e =
        let k = empty-rules channels rate e in
        let r = sym (empty-rule channels rate) ∙ e in
        below-proofs.numbered (empty_side channels rate) [] [] room
        ∙ simp (k.format, k.whole, k.count, k.cues, k.plays, empty_right channels rate, empty-long channels rate, not-leb, r)
    by false e =
        let r = sym (empty-rule channels rate) ∙ e in
        below-proofs.numbered (empty_side channels rate) [] [] room ∙ simp (e, r)
