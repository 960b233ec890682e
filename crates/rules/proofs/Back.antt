-- The chunks that are written of a record get the record's own verdict, and say the record again: chunk by chunk, as far
-- as the demands before are met. The titles are read back elsewhere. Assumes nothing.
use mathlib.Core.Path.{◌≡◌, refl, sym, ap, ◌∙◌, subst}
use mathlib.Core.Bool.{Bool, true, false, cond}
use mathlib.Core.List.{List, [], ◌∷◌}
use Prim.Native.Nat.{ℕ, ◌≤◌, ◌<◌}
use native.Mathlib.Omega.{arith}
use lib.Dec.{leb}
use lib.ListN.{length}
use borrow.Author.Tests.{le-leb, lt-leb, leb-true, leb-false}
use Rattle.little.specs.Numbers.{number_at}
use Rattle.units.specs.declared.BytePlace.{BytePlace}
use Rattle.units.specs.declared.Frames.{Frames}
use Rattle.units.specs.declared.Refusal.{Refusal}
use Rattle.units.specs.declared.Refusal.TheVariants.{FormatWrong, FactWrong}
use Rattle.units.specs.Checks.{decided, SameSoFar}
use Rattle.units.proofs.Checks.{same-verdict}
use Rattle.formats.specs.declared.Format.{Format}
use Rattle.formats.specs.Format.{format_of, format_form, format_rule}
use Rattle.formats.specs.Frames.{whole_blocks, frames_of, fact_form, needs_fact, frames_rule}
use Rattle.formats.specs.Bytes.{format_bytes, fact_bytes}
use Rattle.formats.proofs.Back.{format_back, format-said, fact-back}
use Rattle.formats.proofs.Counts.{frames-pcm, frames-stored}
use Rattle.formats.proofs.Lengths.{fact-long}
use Rattle.formats.proofs.Taken.{unneeded-tag, wanted-tag, frames-exactly}
use Rattle.formats.proofs.Written.{format-written}
use Rattle.tables.specs.declared.Cues.{Cues}
use Rattle.tables.specs.declared.Playlist.{Playlist}
use Rattle.tables.specs.Cues.{cues_of, cues_rule}
use Rattle.tables.specs.Plays.{plays_of, plays_rule}
use Rattle.tables.specs.Bytes.{cues_bytes, plays_bytes, plays_kept, CuesFit, PlaysFit}
use Rattle.tables.proofs.Back.{cues-back, plays-back}
use Rattle.tables.proofs.Kept.{cues-rule-kept, plays-rule-kept}
use Rattle.tables.proofs.Written.{cues-written, cues-many, plays-written, plays-many}
use Rattle.titles.specs.declared.Titles.{Titles}
use Rattle.titles.specs.Writing.{titles_kept}
use Rattle.rules.specs.declared.Record.{Record}
use Rattle.rules.specs.Rules.{ChunkBytes, record_of, with_titles, valid, format_valid, fact_valid, cues_valid, plays_valid, chunk_checks, verdict_of, record_checks, record_verdict, Writable}
use Rattle.rules.specs.Written.{written_bytes, record_kept, RecordFits, FaultSaid}
use Rattle.rules.proofs.Taken.{record-taken}
use Rattle.units.specs.Refusals.{Verdict}
use Rattle.std.specs.Prelude.{Err, Ok}

-- ---- form and rule together
fine-yes : {form rule : Bool} → form ≡ true → valid form rule ≡ rule
unfolding valid
fine-yes e = simp e

fine-no : {form : Bool} (rule : Bool) → form ≡ false → valid form rule ≡ false
unfolding valid
fine-no rule e = simp e

fine-unruled : (form : Bool) {rule : Bool} → rule ≡ false → valid form rule ≡ false
unfolding valid
fine-unruled true e = e
fine-unruled false e = refl

-- two tests, the first of which lets no more through than the second
implied : (a b : Bool) → (b ≡ true → a ≡ true) → (b ≡ false → a ≡ false) → a ≡ b
implied a true f g = f refl
implied a false f g = g refl

clash : {b : Bool} → b ≡ true → b ≡ false → ⊥
clash {b} e f = subst (λ (x : Bool). cond x (Unit {0}) ⊥) (sym e ∙ f) tt

abbrev zeros : List ℕ
zeros = 0 ∷ 0 ∷ 0 ∷ 0 ∷ []

-- ---- the format
module _ (m : Record) (n : BytePlace) (h : RecordFits m) (k : FaultSaid m n) where
  abbrev f : Format
  f = m.format

  format-wrong : format_rule f ≡ false → record_verdict m n ≡ Err FormatWrong
  unfolding record_checks decided
  format-wrong e = simp e

  pub format-same : format_valid (format_bytes f) (format_of (format_bytes f)) ≡ format_rule f
  format-same =
      implied (format_valid (format_bytes f) (format_of (format_bytes f))) (format_rule f)
      (λ e. fine-yes (format-written f e) ∙ ap format_rule (format_back f e) ∙ e)
      (λ e. fine-unruled (format_form (format_bytes f)) (unread e (format_rule (format_of (format_bytes f))) refl))
    where
      unread : format_rule f ≡ false → (b : Bool) → format_rule (format_of (format_bytes f)) ≡ b → b ≡ false
      unread e true g = absurd (clash (format-said f h.format g) (k.format (format-wrong e)))
      unread e false g = refl

  -- ---- the frames: of ADPCM the fact says them, of PCM the sound does
  fact-wrong : format_rule f ≡ true → whole_blocks f n ≡ true → frames_rule f n m.frames ≡ false → record_verdict m n ≡ Err FactWrong
  unfolding record_checks decided
  fact-wrong a b c = simp (a, b, c)

  module _ {fact : List ℕ} (a : format_rule f ≡ true) (b : whole_blocks f n ≡ true) (e : fact ≡ cond (needs_fact f) (fact_bytes m.frames) zeros) where
    stored : needs_fact f ≡ true → fact ≡ fact_bytes m.frames
    stored t = e ∙ ap (λ (x : Bool). cond x (fact_bytes m.frames) zeros) t

    fact-formed : fact_form fact ≡ true
    unfolding fact_form
    fact-formed = by (needs_fact f) e
      where
        by : (x : Bool) → fact ≡ cond x (fact_bytes m.frames) zeros → leb 4 (length fact) ≡ true
        by true g = le-leb 4 (length fact) (rw g (omega (arith, fact-long m.frames)))
        by false g = rw g refl

    counted : frames_rule f n m.frames ≡ true → frames_of f n fact ≡ m.frames
    counted c = by (needs_fact f) refl
      where
        by : (x : Bool) → needs_fact f ≡ x → frames_of f n fact ≡ m.frames
        by true t = sym (frames-stored f n fact (wanted-tag f t) (sym (ap (λ (s : List ℕ). number_at 4 s 0) (stored t) ∙ fact-back m.frames h.frames)))
        by false t =
            let u = unneeded-tag f t in
            sym (frames-pcm f n refl fact u) ∙ ap (λ (i : ℕ). record { 0 = i }) (sym (frames-exactly f n m.frames c u))

    pub frames-same : fact_valid fact f n (frames_of f n fact) ≡ frames_rule f n m.frames
    frames-same =
        implied (fact_valid fact f n (frames_of f n fact)) (frames_rule f n m.frames)
        (λ c. fine-yes fact-formed ∙ ap (frames_rule f n) (counted c) ∙ c)
        (λ c.
        let t = k.frames (fact-wrong a b c) in
        let g = frames-stored f n fact (wanted-tag f t) (sym (ap (λ (s : List ℕ). number_at 4 s 0) (stored t) ∙ fact-back m.frames h.frames)) in
        fine-yes fact-formed ∙ ap (frames_rule f n) (sym g) ∙ c)

-- ---- the tables
few : (c : ℕ) (P : Type 0) → (c ≤ 64 → P) → (64 < c → P) → P
few c P f g = by (leb c 64) refl
  where
    by : (x : Bool) → leb c 64 ≡ x → P
    by true e = f (leb-true c 64 e)
    by false e = g (leb-false c 64 e)

module _ (c : Cues) (h : CuesFit c) (frames : Frames) where
  many-cues : 64 < c.count → cues_rule c frames ≡ false
  unfolding cues_rule
  many-cues g = let l = lt-leb c.count 64 g in simp l

  pub cues-same : cues_valid (cues_bytes c) (cues_of (cues_bytes c)) frames ≡ cues_rule c frames
  cues-same =
      few c.count (cues_valid (cues_bytes c) (cues_of (cues_bytes c)) frames ≡ cues_rule c frames)
      (λ l. fine-yes (cues-written h l) ∙ ap (λ (x : Cues). cues_rule x frames) (cues-back h) ∙ cues-rule-kept c frames h.room)
      (λ l. fine-no (cues_rule (cues_of (cues_bytes c)) frames) (cues-many h l) ∙ sym (many-cues l))

  module _ (p : Playlist) (i : PlaysFit p) where
    many-plays : 64 < p.count → plays_rule p c frames ≡ false
    unfolding plays_rule
    many-plays g = let l = lt-leb p.count 64 g in simp l

    abbrev fineness : Bool
    fineness = plays_valid (plays_bytes p) (plays_of (plays_bytes p)) (cues_of (cues_bytes c)) frames

    pub plays-same : fineness ≡ plays_rule p c frames
    plays-same =
        few p.count (fineness ≡ plays_rule p c frames)
        (λ l.
        fine-yes (plays-written i l)
        ∙ ap (λ (x : Playlist). plays_rule x (cues_of (cues_bytes c)) frames) (plays-back i)
        ∙ ap (λ (x : Cues). plays_rule (plays_kept p) x frames) (cues-back h)
        ∙ plays-rule-kept p c frames i.room h.room)
        (λ l. fine-no (plays_rule (plays_of (plays_bytes p)) (cues_of (cues_bytes c)) frames) (plays-many i l) ∙ sym (many-plays l))

-- a record that keeps the rules has no fault
pub no-fault : {m : Record} {n : BytePlace} → Writable m n → FaultSaid m n
no-fault {m} {n} k =
    record {
      format = λ e. absurd (taken (sym (record-taken k) ∙ e));
      frames = λ e. absurd (taken (sym (record-taken k) ∙ e));
    }
  where
    taken : {r : Refusal} → ◌≡◌ {A = Verdict} (Ok tt) (Err r) → ⊥
    taken e = let z : ◌≡◌ {A = ℕ} 0 1 = cc in omega arith

-- ---- one check more that is the same
same_next : {r : Refusal} {x y : Bool} {After : Type 0} → x ≡ y → (y ≡ true → After) → (r ≡ r) × (x ≡ y) × (y ≡ true → After)
same_next e f = (refl, e, f)

-- ---- all chunks
module _ (m : Record) (n : BytePlace) (h : RecordFits m) {fact : List ℕ}
    (e : format_rule m.format ≡ true → fact ≡ cond (needs_fact m.format) (fact_bytes m.frames) zeros) where
  abbrev b : ChunkBytes
  b = written_bytes m n fact

  pub verdict-back : FaultSaid m n → verdict_of b (record_of b) ≡ record_verdict m n
  unfolding chunk_checks record_checks record_of SameSoFar
  verdict-back k =
      same-verdict (chunk_checks b (record_of b)) (record_checks m n)
      (same_next (format-same m n h k) (λ f.
      same_next (ap (λ (g : Format). whole_blocks g n) (format_back m.format f)) (λ w.
      same_next (ap (λ (g : Format). fact_valid fact g n (frames_of g n fact)) (format_back m.format f) ∙ frames-same m n h k f w (e f)) (λ c.
      same_next (ap (cues_valid b.cues (cues_of b.cues)) (said f w c) ∙ cues-same m.cues h.cues m.frames) (λ _.
      same_next (ap (plays_valid b.plays (plays_of b.plays) (cues_of b.cues)) (said f w c) ∙ plays-same m.cues h.cues m.frames m.playlist h.plays) (λ _. tt))))))
    where
      said : format_rule m.format ≡ true → whole_blocks m.format n ≡ true → frames_rule m.format n m.frames ≡ true
          → frames_of (format_of b.format) n fact ≡ m.frames
      said f w c = ap (λ (g : Format). frames_of g n fact) (format_back m.format f) ∙ counted m n h k f w (e f) c

  pub record-back : {t : Titles} → Writable m n → t ≡ titles_kept m.titles → with_titles (record_of b) t ≡ record_kept m
  unfolding record_of record_kept
  record-back k q =
      let f = format_back m.format k.format in
      let c = cues-back h.cues in
      let p = plays-back h.plays in
      let g = ap (λ (f : Format). frames_of f n fact) f ∙ counted m n h (no-fault k) k.format k.whole (e k.format) k.count in
      λ i. record { format = f i; frames = g i; cues = c i; playlist = p i; titles = q i }
