-- The whole file is put in four runs, the sound last; and the answer in the words of the code, for a sound in two parts or in one. Assumes nothing.
use mathlib.Core.Path.{◌≡◌, refl, sym, ap, ◌∙◌}
use mathlib.Core.Bool.{Bool, true, false, cond}
use mathlib.Core.List.{List, [], ◌∷◌, ◌++◌, append_assoc, append-nil}
use Prim.Native.Nat.{ℕ, ◌+◌, ◌-◌, ◌≤◌, ◌<◌}
use native.Mathlib.Omega.{arith}
use lib.ListN.{length, length-append}
use Rattle.units.specs.Refusals.{file_limit}
use Rattle.little.specs.Writing.{Put, front, holding}
use Rattle.little.proofs.Filling.{put_front, next-room, both-put, first-room}
use Rattle.units.specs.declared.BytePlace.{BytePlace}
use Rattle.units.specs.declared.Refusal.{Refusal}
use Rattle.codes.specs.declared.Code.{Code}
use Rattle.codes.specs.declared.Code.TheVariants as code
use Rattle.riff.specs.Laying.{Part, Piece, piece, piece_bytes, part_bytes, body_bytes, riff_bytes, given, pieces_of, file_bytes}
use Rattle.riff.proofs.Laying.{length-file}
use Rattle.formats.specs.Format.{format_rule}
use Rattle.tables.specs.Cues.{names_in}
use Rattle.titles.specs.declared.Title.{Title}
use Rattle.titles.specs.Writing.{titles_right, Short}
use Rattle.titles.proofs.Round.{right-short}
use Rattle.rules.specs.declared.Record.{Record}
use Rattle.rules.specs.Written.{RecordFits}
use Rattle.writer.specs.File.{fact_chunk, cues_chunk, plays_chunk, titles_chunk, parts_of, file_of, until_tables, tables_of, settled, writing_by, writing, written_verdict, Written}
use Rattle.writer.proofs.Opening.{form_of, count_of}
use Rattle.writer.proofs.Settling.{Settled, settled_says, bytes-say, told-long, longer}
use Rattle.std.specs.Prelude.{Err, Ok}

body-given : (k : Code) (p : Part) (ps : List Piece) → body_bytes (given k p ps) ≡ part_bytes k p ++ body_bytes ps
unfolding given part_bytes body_bytes
body-given k p ps = by p.there
  where
    by : (b : Bool) → body_bytes (cond b (piece k p.bytes ∷ ps) ps) ≡ cond b (piece_bytes (piece k p.bytes)) [] ++ body_bytes ps
    by true = refl
    by false = refl

module _ (m : Record) (b w : List ℕ) where
  abbrev sound : List ℕ
  sound = piece_bytes (piece code.Data w)

  abbrev tables : List ℕ
  tables = tables_of m.cues m.playlist

  abbrev titles : List ℕ
  titles = part_bytes code.Listing (titles_chunk b m.titles)

  body-runs : body_bytes (pieces_of (parts_of m b w)) ≡ (form_of m.format ++ count_of m.format m.frames) ++ (tables ++ (titles ++ sound))
  unfolding pieces_of parts_of given body_bytes
  body-runs =
      let d : List Piece = piece code.Data w ∷ [] in
      let t : List Piece = given code.Listing (titles_chunk b m.titles) d in
      let l : List Piece = given code.Playlist (plays_chunk m.playlist) t in
      let c : List Piece = given code.Cue (cues_chunk m.cues) l in
      let x : List ℕ = part_bytes code.Cue (cues_chunk m.cues) in
      let y : List ℕ = part_bytes code.Playlist (plays_chunk m.playlist) in
      let u : body_bytes t ≡ titles ++ sound =
      body-given code.Listing (titles_chunk b m.titles) d ∙ ap (λ (s : List ℕ). titles ++ s) (append-nil sound) in
      let e : body_bytes c ≡ tables ++ (titles ++ sound) =
      body-given code.Cue (cues_chunk m.cues) l
      ∙ ap (λ (s : List ℕ). x ++ s) (body-given code.Playlist (plays_chunk m.playlist) t ∙ ap (λ (s : List ℕ). y ++ s) u)
      ∙ sym (append_assoc x y (titles ++ sound)) in
      ap (λ (s : List ℕ). form_of m.format ++ s) (body-given code.Fact (fact_chunk m.format m.frames) c ∙ ap (λ (s : List ℕ). count_of m.format m.frames ++ s) e)
      ∙ sym (append_assoc (form_of m.format) (count_of m.format m.frames) (tables ++ (titles ++ sound)))

  -- the answer told so many bytes
  module _ {size : BytePlace} (d : List ℕ) (e : writing_by true m b w (length d) ≡ Ok size) where
    abbrev first : List ℕ
    first = until_tables size.0 m.format m.frames

    says : Settled true m b w (length d)
    says = settled_says true m b w (length d) (bytes-say true m b w (length d) size e)

    told : size.0 ≡ length (file_of m b w)
    told = ap (λ (n : BytePlace). n.0) (told-long true m b w (length d) size e)

    pub file-told : Ok size ≡ writing_by true m b w (length d)
    file-told = sym e

    pub sound-kept : length w ≤ file_limit
    sound-kept = omega (arith, longer true m b w (length d), says.limit)

    pub format-kept : format_rule m.format ≡ true
    format-kept = says.rules.format

    pub size_fits_lem : size.0 < 4294967296
    size_fits_lem = omega (arith, told, says.limit)

    pub size-least : 12 ≤ size.0
    unfolding file_of
    size-least = omega (arith, told, length-file (pieces_of (parts_of m b w)))

    abbrev rest : List ℕ
    rest = tables ++ (titles ++ sound)

    file-runs : file_of m b w ≡ first ++ rest
    unfolding file_of until_tables file_bytes
    file-runs =
        let c : List ℕ = body_bytes (pieces_of (parts_of m b w)) in
        let l : length (file_of m b w) ≡ 12 + length c = length-file (pieces_of (parts_of m b w)) in
        let k : 4 + length c ≡ size.0 - 8 = omega (arith, told) in
        ap (λ (i : ℕ). riff_bytes i ++ c) k
        ∙ ap (λ (s : List ℕ). riff_bytes (size.0 - 8) ++ s) body-runs
        ∙ sym (append_assoc (riff_bytes (size.0 - 8)) (form_of m.format ++ count_of m.format m.frames) rest)

    all-long : length (first ++ rest) ≤ length d
    all-long = rw (← file-runs) says.fits

    pub opening-room : length first ≤ length d
    opening-room = omega (arith, all-long, length-append first rest)

    module _ {g : List ℕ} {at : ℕ} (p : Put d 0 first g) (k : at ≡ length first) where
      long_rest : at + length rest ≤ length g
      long_rest = next-room first rest {at = 0} (omega (arith, all-long)) p (omega arith)

      pub tables-room : at + length tables ≤ length g
      tables-room = first-room tables (titles ++ sound) at long_rest

      module _ {h : List ℕ} {next : ℕ} (q : Put g at tables h) (l : next ≡ at + length tables) where
        long-last : next + length (titles ++ sound) ≤ length h
        long-last = next-room tables (titles ++ sound) long_rest q l

        pub titles-room : next + length titles ≤ length h
        titles-room = first-room titles sound next long-last

        module _ {i : List ℕ} {last : ℕ} (r : Put h next titles i) (o : last ≡ next + length titles) where
          pub sound-room : last + length sound ≤ length i
          sound-room = next-room titles sound long-last r o

          pub file-put : {z : List ℕ} → Put i last sound z → z ≡ front (file_of m b w) d
          file-put {z} t =
              let x = both-put titles sound long-last r o t in
              let u = both-put tables (titles ++ sound) long_rest q l x in
              let v = both-put first rest {at = 0} (omega (arith, all-long)) p (omega arith) u in
              put_front (rw (file-runs) v)

pub ruleset filing =
    (file-told, sound-kept, format-kept, size_fits_lem, size-least, opening-room, tables-room, titles-room, sound-room, file-put)

pub sound-limit : (x : Bool) (m : Record) (b w : List ℕ) (room : ℕ) → settled x m b w room ≡ Ok tt → length w ≤ file_limit
sound-limit x m b w room s = omega (arith, longer x m b w room, (settled_says x m b w room s).limit)

-- ---- the answer
module _ (right : Bool) (m : Record) (b w d : List ℕ) {x : Written} (e : x ≡ writing_by right m b w (length d)) where
  -- of a file that is written the titles are right
  pub asked : {n : BytePlace} → x ≡ Ok n → writing_by true m b w (length d) ≡ Ok n
  asked {n} f =
      let g : writing_by right m b w (length d) ≡ Ok n = sym e ∙ f in
      let s = settled_says right m b w (length d) (bytes-say right m b w (length d) n g) in
      ap (λ (y : Bool). writing_by y m b w (length d)) (sym s.titles) ∙ g

  pub asked-right : {n : BytePlace} → x ≡ Ok n → right ≡ true
  asked-right {n} f = (settled_says right m b w (length d) (bytes-say right m b w (length d) n (sym e ∙ f))).titles

  pub told-right : {n : BytePlace} {y : Written} → x ≡ Ok n → y ≡ writing_by true m b w (length d) → y ≡ writing_by right m b w (length d)
  told-right f g = g ∙ ap (λ (z : Bool). writing_by z m b w (length d)) (sym (asked-right f))

  pub asked-short : {n : BytePlace} {list : List Title} {k : ℕ} → (right ≡ true → Short b list k) → x ≡ Ok n → Short b list k
  asked-short h f = h (asked-right f)

pub held-refused : (ys d : List ℕ) {x : Written} {r : Refusal} → x ≡ Err r → d ≡ holding (written_verdict x) ys d
held-refused ys d f = ap (λ (y : Written). holding (written_verdict y) ys d) (sym f)

pub ruleset answering = (asked, told-right, asked-short, held-refused)

-- ---- a sound in one part is one with an empty second part; and titles that are tested
module _ (m : Record) (b w d : List ℕ) (r : Written) where
  pub one_answer : {x : Bool} → x ≡ titles_right (names_in m.cues) b m.titles → r ≡ writing_by x m b (w ++ []) (length d) → r ≡ writing m b w (length d)
  one_answer e h = (rw (append-nil w) at h) ∙ ap (λ (y : Bool). writing_by y m b w (length d)) e

  pub one-held : (z : List ℕ) → z ≡ holding (written_verdict r) (file_of m b (w ++ [])) d → z ≡ holding (written_verdict r) (file_of m b w) d
  one-held z h = rw (append-nil w) at h

pub right-known : (m : Record) (b : List ℕ) {x : Bool} → RecordFits m → x ≡ titles_right (names_in m.cues) b m.titles
    → x ≡ true → Short b m.titles.list m.titles.count
right-known m b f e t = right-short (names_in m.cues) b m.titles f.titles (sym e ∙ t)

pub ruleset one-part = (one_answer, one-held, right-known)
