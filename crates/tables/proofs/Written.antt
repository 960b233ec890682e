-- What is written has the form that is asked for, and a table that was read is written in as many bytes. Assumes nothing.
use mathlib.Core.Path.{◌≡◌, refl, sym, ap, ◌∙◌}
use mathlib.Core.Bool.{true, false, ◌&&◌}
use mathlib.Core.List.{List, ◌++◌}
use Prim.Native.Nat.{ℕ, ◌+◌, ◌*◌, ◌≤◌, ◌<◌}
use native.Mathlib.Omega.{arith}
use lib.Dec.{leb, eqb}
use lib.ListN.{length, drop, get_or}
use borrow.Author.Tests.{eq-eqb, leb-true, eqb-true}
use Rattle.little.specs.Numbers.{number_in, number_at, bytes_of}
use Rattle.codes.specs.Codes.{code_bytes}
use Rattle.codes.proofs.Laws.{stands, dropped-code}
use Rattle.codes.specs.declared.Code.TheVariants.{Data}
use Rattle.lists.specs.Every.{every}
use Rattle.lists.proofs.Laws.{every-all, and_both}
use Rattle.tables.specs.declared.Cue.{Cue}
use Rattle.tables.specs.declared.Cues.{Cues}
use Rattle.tables.specs.declared.Playlist.{Playlist}
use Rattle.tables.specs.Tables.{count_in, held, table_form}
use Rattle.tables.specs.Cues.{no_cue, cues_of, plain_cue, cues_form}
use Rattle.tables.specs.Plays.{plays_of, plays_form}
use Rattle.tables.specs.Bytes.{cue_bytes, cues_bytes, play_bytes, plays_bytes, CuesFit, PlaysFit}
use Rattle.tables.proofs.Entries.{held_all, cues-whole, plays-whole}
use Rattle.tables.proofs.Forms as forms
use Rattle.tables.specs.Bytes.{cue-long}
use Rattle.tables.proofs.Lengths.{cues-long, plays-long}
use Rattle.tables.proofs.Back.{there, count-said, entry-said}

-- ---- every cue that is written counts from the start of the data
plain-from : (s : List ℕ) (at : ℕ) → plain_cue s at ≡ plain_cue (drop at s) 0
unfolding plain_cue
plain-from s at = λ i. dropped-code s at 8 Data i && eqb (there s at 4 12 i) 0 && eqb (there s at 4 16 i) 0

plain-written : (c : Cue) (rest : List ℕ) → plain_cue (cue_bytes c ++ rest) 0 ≡ true
unfolding plain_cue cue_bytes code_bytes bytes_of number_at number_in
plain-written c rest = λ i. stands (cue_bytes c ++ rest) 8 Data (drop 12 (cue_bytes c ++ rest)) refl i && true && true

-- ---- the count that is written
module _ {c : Cues} (f : CuesFit c) where
  cues-said : c.count ≡ number_at 4 (cues_bytes c) 0
  unfolding cues_bytes count_in
  cues-said = sym (count-said cue_bytes c.count c.list f.count)

  pub cues-written : c.count ≤ 64 → cues_form (cues_bytes c) ≡ true
  unfolding cues_bytes
  cues-written h =
      let n = held_all c.count h in
      let plain : (k : ℕ) → k < c.count → plain_cue (cues_bytes c) (4 + 24 * k) ≡ true =
      λ k g.
      entry-said cue_bytes c.count c.list 24 cue-long f.room no_cue plain_cue plain-from k (omega arith) (plain-written (get_or c.list k no_cue)) in
      sym (forms.cues-plain (cues_bytes c) cues-said h (omega (arith, cues-long c f.room))
      (sym (every-all (λ k. plain_cue (cues_bytes c) (4 + 24 * k)) 0 c.count (λ k _ g. plain k (omega arith)))))

  pub cues-many : 64 < c.count → cues_form (cues_bytes c) ≡ false
  cues-many h = sym (forms.cues-many (cues_bytes c) cues-said h)

module _ {p : Playlist} (f : PlaysFit p) where
  plays-said : p.count ≡ number_at 4 (plays_bytes p) 0
  unfolding plays_bytes count_in
  plays-said = sym (count-said play_bytes p.count p.list f.count)

  pub plays-written : p.count ≤ 64 → plays_form (plays_bytes p) ≡ true
  plays-written h =
      let n = held_all p.count h in
      sym (forms.plays-few (plays_bytes p) plays-said h)
      ∙ eq-eqb (length (plays_bytes p)) (4 + 12 * p.count) (omega (arith, plays-long p f.room))

  pub plays-many : 64 < p.count → plays_form (plays_bytes p) ≡ false
  plays-many h = sym (forms.plays-many (plays_bytes p) plays-said h)

-- ---- a table that was read, and is written again
module _ (s : List ℕ) where
  table-sized : (size : ℕ) → table_form size s ≡ true → length s ≡ 4 + size * held (count_in s)
  unfolding table_form
  table-sized size e =
      let p = and_both (leb (count_in s) 64) (eqb (length s) (4 + size * count_in s)) e in
      eqb-true (length s) (4 + size * count_in s) p.1
      ∙ ap (λ (k : ℕ). 4 + size * k) (held_all (count_in s) (leb-true (count_in s) 64 p.0))

  pub cues-read-long : cues_form s ≡ true → length (cues_bytes (cues_of s)) ≡ length s
  unfolding cues_form cues_of
  cues-read-long e =
      let t = and_both (table_form 24 s) (every (λ i. plain_cue s (4 + 24 * i)) 0 (count_in s)) e in
      cues-long (cues_of s) (cues-whole s) ∙ sym (table-sized 24 t.0)

  pub plays-read-long : plays_form s ≡ true → length (plays_bytes (plays_of s)) ≡ length s
  unfolding plays_form plays_of
  plays-read-long e = plays-long (plays_of s) (plays-whole s) ∙ sym (table-sized 12 e)
