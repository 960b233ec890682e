-- Laws of the forms of the two chunks, in the words of the code. Assumes nothing.
use mathlib.Core.Path.{◌≡◌, sym, ap, ◌∙◌}
use mathlib.Core.Bool.{Bool, true, false}
use mathlib.Core.List.{List}
use Prim.Native.Nat.{ℕ, ◌+◌, ◌*◌, ◌≤◌, ◌<◌}
use native.Mathlib.Omega.{arith}
use lib.Dec.{eqb, leb}
use lib.ListN.{length}
use borrow.Author.Tests.{le-leb, lt-leb, eq-eqb, ne_eqb, leb-true, not-true, not-false}
use Rattle.lists.proofs.Laws.{and_both}
use Rattle.tables.proofs.Entries.{held_all}
use Rattle.little.specs.Numbers.{number_at}
use Rattle.lists.specs.Every.{every}
use Rattle.tables.specs.Tables.{count_in, held, table_form}
use Rattle.tables.specs.Cues.{plain_cue, cues_form}
use Rattle.tables.specs.Plays.{plays_form}

-- ---- a count, at most 64, and the bytes that it says
module _ (s : List ℕ) {count : ℕ} (e : count ≡ number_at 4 s 0) where
  table-many : (size : ℕ) → 64 < count → false ≡ table_form size s
  unfolding table_form count_in
  table-many size h = simp (← e, lt-leb count 64 h)

  table-few : (size : ℕ) → count ≤ 64 → eqb (length s) (4 + size * count) ≡ table_form size s
  unfolding table_form count_in
  table-few size h = simp (← e, le-leb count 64 h)

  pub plays-many : 64 < count → false ≡ plays_form s
  unfolding plays_form
  plays-many h = table-many 12 h

  pub plays-few : count ≤ 64 → eqb (length s) (4 + 12 * count) ≡ plays_form s
  unfolding plays_form
  plays-few h = table-few 12 h

  pub cues-many : 64 < count → false ≡ cues_form s
  unfolding cues_form
  cues-many h = simp (← table-many 24 h)

  module _ (h : count ≤ 64) where
    pub cues-plain : length s ≡ 4 + 24 * count → {b : Bool} → b ≡ every (λ k. plain_cue s (4 + 24 * k)) 0 count → b ≡ cues_form s
    unfolding cues_form count_in
    cues-plain g b = b ∙ simp (← table-few 24 h, eq-eqb (length s) (4 + 24 * count) g, ← e)

-- ---- and in the words of the code
module _ (s : List ℕ) {b : Bool} where
  pub cues-sized : b ≡ table_form 24 s → b ≡ false → false ≡ cues_form s
  unfolding cues_form
  cues-sized e h = simp (← e, h)

  pub cues-all : b ≡ table_form 24 s → b ≡ true → {count n : ℕ} → count ≡ number_at 4 s 0 → n ≡ held count
      → {r : Bool} → r ≡ every (λ k. plain_cue s (4 + 24 * k)) 0 n → r ≡ cues_form s
  unfolding cues_form table_form count_in
  cues-all e h {count} {n} f g q =
      let t : table_form 24 s ≡ true = sym e ∙ h in
      let few = leb-true (number_at 4 s 0) 64 (and_both (leb (number_at 4 s 0) 64) (eqb (length s) (4 + 24 * number_at 4 s 0)) t).0 in
      let m : n ≡ number_at 4 s 0 = g ∙ sym (held_all count (omega arith)) ∙ f in
      q ∙ ap (every (λ k. plain_cue s (4 + 24 * k)) 0) m ∙ simp t

  pub plays-sized : b ≡ table_form 12 s → b ≡ plays_form s
  unfolding plays_form
  plays-sized e = e

pub ruleset forming = (cues-sized, cues-all, plays-sized, not-true, not-false)
