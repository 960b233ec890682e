-- A table that was read of bytes fits the fields that it is written to, and is as it would be read back: each number is one of four
-- bytes, and past its count it is zero already. Assumes nothing.
use mathlib.Core.Path.{◌≡◌, refl, sym, ap, ◌∙◌, subst}
use mathlib.Core.Bool.{Bool, true, false}
use mathlib.Core.List.{List, [], ◌∷◌, ◌++◌}
use Prim.Native.Nat.{ℕ, zero, suc, ◌+◌, ◌-◌, ◌*◌, ◌≤◌, ◌<◌}
use native.Mathlib.Omega.{arith}
use lib.Dec.{T, leb}
use lib.ListN.{length, take, get_or, set, replicate, get_or-eq_default}
use lib.Pow.{are_bytes}
use borrow.Author.Tests.{leb-true, leb-false}
use Rattle.little.proofs.Reading.{number_fits}
use Rattle.tables.specs.declared.Cue.{Cue}
use Rattle.tables.specs.declared.Play.{Play}
use Rattle.tables.specs.Tables.{count_in, held}
use Rattle.tables.specs.Cues.{no_cue, cue_at, cues_in, cues_of}
use Rattle.tables.specs.Plays.{no_play, play_at, plays_in, plays_of}
use Rattle.tables.specs.Bytes.{zero_past, cues_kept, plays_kept, CuesFit, PlaysFit}
use Rattle.tables.proofs.Entries.{held_all, held-most, held-room, all-zero, cues-zero, plays-zero, cues-whole, plays-whole}

module _ {A : Type 0} (z : A) where
  -- ---- what holds of the zero entry and of every entry that is put holds at every index
  module _ (P : A → Type 0) (none : P z) where
    holds-set : (l : List A) (k i : ℕ) (x : A) → P x → P (get_or l i z) → P (get_or (set l k x) i z)
    holds-set [] k i x p q = q
    holds-set (y ∷ l) zero zero x p q = p
    holds-set (y ∷ l) zero (suc i) x p q = q
    holds-set (y ∷ l) (suc k) zero x p q = q
    holds-set (y ∷ l) (suc k) (suc i) x p q = holds-set l k i x p q

    holds-each : (many : ℕ → List A) (entry : ℕ → A) → ((k : ℕ) → many (suc k) ≡ set (many k) k (entry k)) → many 0 ≡ replicate 64 z
        → ((k : ℕ) → P (entry k)) → (n i : ℕ) → P (get_or (many n) i z)
    holds-each many entry more begin f zero i = subst P (sym (ap (λ (l : List A). get_or l i z) begin ∙ all-zero z 64 i)) none
    holds-each many entry more begin f (suc n) i =
        subst (λ (l : List A). P (get_or l i z)) (sym (more n))
        (holds-set (many n) n i (entry n) (f n) (holds-each many entry more begin f n i))

  -- ---- a list that is zero from n on is its first n and then zeros; so is a table, zero from its count on
  zero_rest : (n m : ℕ) (l : List A) → length l ≡ n + m → ((i : ℕ) → n ≤ i → get_or l i z ≡ z) → take n l ++ replicate m z ≡ l
  zero_rest zero zero [] e f = refl
  zero_rest zero zero (x ∷ l) e f = absurd (omega arith)
  zero_rest zero (suc m) [] e f = absurd (omega arith)
  zero_rest zero (suc m) (x ∷ l) e f =
      let r = zero_rest zero m l (omega arith) (λ i h. f (suc i) (omega arith)) in
      λ j. sym (f 0 (omega arith)) j ∷ r j
  zero_rest (suc n) m [] e f = absurd (omega arith)
  zero_rest (suc n) m (x ∷ l) e f =
      ap (λ (k : List A). x ∷ k) (zero_rest n m l (omega arith) (λ i h. f (suc i) (omega arith)))

  zero-past : (count : ℕ) (list : List A) → length list ≡ 64 → ((i : ℕ) → count ≤ i → get_or list i z ≡ z) → zero_past z count list ≡ list
  unfolding zero_past
  zero-past count list h f =
      zero_rest (held count) (64 - held count) list (omega (arith, held-room count)) (by (leb count 64) refl)
    where
      by : (b : Bool) → leb count 64 ≡ b → (i : ℕ) → held count ≤ i → get_or list i z ≡ z
      by true e i l = f i (omega (arith, held_all count (leb-true count 64 e)))
      by false e i l = get_or-eq_default list z (omega (arith, held-most count (leb-false count 64 e)))

-- ---- read and kept, a table is the same
module _ (s : List ℕ) where
  pub cues-kept-read : cues_kept (cues_of s) ≡ cues_of s
  unfolding cues_kept
  cues-kept-read = λ i. record { count = (cues_of s).count; list = zero-past no_cue (cues_of s).count (cues_of s).list (cues-whole s) (cues-zero s) i }

  pub plays-kept-read : plays_kept (plays_of s) ≡ plays_of s
  unfolding plays_kept
  plays-kept-read = λ i. record { count = (plays_of s).count; list = zero-past no_play (plays_of s).count (plays_of s).list (plays-whole s) (plays-zero s) i }

-- ---- the numbers of a table of bytes fit
module _ (s : List ℕ) (t : T (are_bytes s)) where
  cues-below : (f : Cue → ℕ) → f no_cue ≡ 0 → ((at : ℕ) → f (cue_at s at) < 4294967296) → (i : ℕ) → f (get_or (cues_of s).list i no_cue) < 4294967296
  unfolding cues_of cues_in
  cues-below f e g i =
      holds-each no_cue (λ c. f c < 4294967296) (omega arith) (cues_in s) (λ k. cue_at s (4 + 24 * k)) (λ k. refl) refl
      (λ k. g (4 + 24 * k)) (held (count_in s)) i

  pub cues-fit : CuesFit (cues_of s)
  unfolding cues_of count_in cue_at
  cues-fit =
      record {
        count = number_fits 4 s 0 t;
        room = cues-whole s;
        name = cues-below (λ c. c.name.0) refl (λ at. number_fits 4 s at t);
        position = cues-below (λ c. c.position.0) refl (λ at. number_fits 4 s (at + 4) t);
        place = cues-below (λ c. c.place.0) refl (λ at. number_fits 4 s (at + 20) t);
      }

  plays-below : (f : Play → ℕ) → f no_play ≡ 0 → ((at : ℕ) → f (play_at s at) < 4294967296) → (i : ℕ) → f (get_or (plays_of s).list i no_play) < 4294967296
  unfolding plays_of plays_in
  plays-below f e g i =
      holds-each no_play (λ p. f p < 4294967296) (omega arith) (plays_in s) (λ k. play_at s (4 + 12 * k)) (λ k. refl) refl
      (λ k. g (4 + 12 * k)) (held (count_in s)) i

  pub plays-fit : PlaysFit (plays_of s)
  unfolding plays_of count_in play_at
  plays-fit =
      record {
        count = number_fits 4 s 0 t;
        room = plays-whole s;
        name = plays-below (λ p. p.name.0) refl (λ at. number_fits 4 s at t);
        long = plays-below (λ p. p.length.0) refl (λ at. number_fits 4 s (at + 4) t);
        times = plays-below (λ p. p.times) refl (λ at. number_fits 4 s (at + 8) t);
      }
