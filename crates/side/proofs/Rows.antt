-- The number of an answer: each check of the verdict is a row of the table, and the rules of writing never refuse a song that has
-- met them all. Assumes nothing.
use mathlib.Core.Path.{◌≡◌, refl, sym, ap, ◌∙◌}
use mathlib.Core.Bool.{Bool, true, false, not, cond, ◌&&◌, ◌||◌}
use mathlib.Core.List.{List, [], ◌∷◌, ◌++◌}
use Prim.Native.Nat.{ℕ, ◌+◌}
use native.Mathlib.Omega.{arith}
use lib.Dec.{eqb, ltb, leb}
use lib.ListN.{length}
use borrow.Author.Tests.{leb-true, leb-false, ltb-true, ltb-false, le-leb, lt-leb, lt-ltb, le-ltb}
use Rattle.little.specs.Same.{same_bytes}
use Rattle.lists.proofs.Laws.{by_eqb}
use Rattle.units.specs.declared.Donation.{Donation}
use Rattle.units.specs.declared.Frames.{Frames}
use Rattle.units.specs.declared.Refusal.TheVariants.{LengthOutOfRange, OutputTooSmall}
use Rattle.units.specs.Refusals.{file_limit, verdict_number, Verdict}
use Rattle.units.specs.Checks.{Check, check, decided, and_then, number_by, number_or, AllMet}
use Rattle.units.proofs.Checks.{all-met, number-row, number-then, then-decided}
use Rattle.reader.specs.Content.{reading, sound_in, texts_in, file_format, file_frames}
use Rattle.writer.specs.File.{written_number, Written}
use Rattle.writer.specs.Demands as below
use Rattle.writer.proofs.Demands as below-proofs
use Rattle.side.specs.Side.{is_side_file, songs_in, is_listed, listed_sound}
use Rattle.side.specs.Adding.{suits, has_place, add_verdict, new_record, new_sound, new_file, added_by, adding}
use Rattle.side.specs.Demands.{Sent, AddNumbered}
use Rattle.side.proofs.Growing.{songs-count}
use Rattle.side.proofs.Answers.{Taking, checks, taking, writes}
use Rattle.side.proofs.Sides.{standing}
use Rattle.side.proofs.Joining.{new-rules, new-right}
use Rattle.std.specs.Prelude.{Err, Ok}
use Rattle.rules.specs.Rules.{record_in, reading_verdict}

-- ---- tests the other way round
pub not-leb : (a b : ℕ) → not (leb a b) ≡ ltb b a
not-leb a b = by (leb a b) refl
  where
    by : (q : Bool) → leb a b ≡ q → not q ≡ ltb b a
    by true e = sym (le-ltb b a (leb-true a b e))
    by false e = sym (lt-ltb b a (leb-false a b e))

not-ltb : (a b : ℕ) → not (ltb a b) ≡ leb b a
not-ltb a b = by (ltb a b) refl
  where
    by : (q : Bool) → ltb a b ≡ q → not q ≡ leb b a
    by true e = sym (lt-leb b a (ltb-true a b e))
    by false e = sym (le-leb b a (ltb-false a b e))

not-both : (a b : Bool) → not (a && b) ≡ (not a || not b)
not-both true b = refl
not-both false b = refl

not_some : (n : ℕ) → not (leb 1 n) ≡ eqb n 0
not_some n =
    by_eqb n 0 (λ q. not (leb 1 n) ≡ q) (λ e. ap not (lt-leb 1 n (omega arith))) (λ e. ap not (le-leb 1 n (omega arith)))

-- ---- the rows of the checks, and behind them those of writing, which may take the checks as met
answer-row : (u : Verdict) (cs ds : List Check) (x : Written) → (u ≡ Ok tt → AllMet cs → written_number x ≡ number_by ds)
    → written_number (added_by (and_then u (decided cs)) x) ≡ number_or u (number_by (cs ++ ds))
answer-row (Err r) cs ds x f = refl
answer-row (Ok _) cs ds x f =
    by (decided cs) refl
    ∙ sym (number-then (decided cs) (decided ds))
    ∙ ap verdict_number (sym (then-decided cs ds))
    ∙ number-row (cs ++ ds)
  where
    by : (v : Verdict) → decided cs ≡ v → written_number (added_by v x) ≡ number_or v (verdict_number (decided ds))
    by (Ok _) e = f refl (all-met cs e) ∙ sym (number-row ds)
    by (Err r) e = refl

-- the two checks on a listed number are one row
listed-row : (l q : Bool) (n : ℕ) → cond (not (not (l && q))) 18 (cond (not (not l)) 16 n) ≡ cond l (cond q 18 16) n
listed-row true true n = refl
listed-row true false n = refl
listed-row false q n = refl

-- what comes after the row of 19 may take the side as one
side-row : (b : Bool) {n k : ℕ} → (b ≡ true → n ≡ k) → cond (not b) 19 n ≡ cond (not b) 19 k
side-row true f = f refl
side-row false f = refl

-- ---- the table
module _ (s t : List ℕ) (number : Donation) (limit : Frames) (room : ℕ) where
  abbrev sent : Sent
  sent = record { file = t; number = number; limit = limit; room = room }

  abbrev new : ℕ
  new = length (new_file s t number)

  abbrev sizes : List Check
  sizes = check (leb new file_limit) LengthOutOfRange ∷ check (leb new room) OutputTooSmall ∷ []

  place-row : is_side_file s ≡ true
      → not (has_place (record_in (reading s)) (record_in (reading t)).frames limit)
      ≡ (leb 64 (length (songs_in s)) || ltb limit.0 (file_frames s + file_frames t))
  unfolding has_place
  place-row e =
      let n : ℕ = (record_in (reading s)).cues.count in
      let x : ℕ = file_frames s + file_frames t in
      let c = songs-count (standing s e) in
      not-both (ltb n 64) (leb x limit.0)
      ∙ (λ i. not-ltb n 64 i || not-leb x limit.0 i)
      ∙ ap (λ (k : ℕ). leb 64 k || ltb limit.0 x) (sym c)

  -- the rules of writing are kept
  size-rows : Taking s sent → written_number (writes s sent) ≡ number_by sizes
  unfolding below.WriteNumbered new_file number_by
  size-rows h =
      let e = below-proofs.numbered (new_record s t number) (texts_in s) (new_sound s t) room in
      let k = new-rules h in
      e ∙ simp (k.format, k.whole, k.count, k.cues, k.plays, new-right h)

pub numbered : AddNumbered
unfolding AddNumbered adding add_verdict number_by
numbered s t number limit room =
    let x = sent s t number limit room in
    let n = new s t number limit room in
    answer-row (reading_verdict (reading t)) (checks s x) (sizes s t number limit room) (writes s x)
    (λ a m. size-rows s t number limit room (taking s x a m))
    ∙ ap (number_or (reading_verdict (reading t)))
    (side-row (is_side_file s) (λ e i.
    cond (not (suits (file_format s) (file_format t))) 9
    (cond (not_some (file_frames t) i) 16
    (listed-row (is_listed number (songs_in s)) (same_bytes (listed_sound number (songs_in s)) (sound_in t))
    (cond (place-row s t number limit room e i) 17 (cond (not-leb n file_limit i) 1 (cond (not-leb n room i) 14 0))) i))))
