-- What a nibble does to a channel, in the words of the code: each product fits 32 bits by the sizes of its factors.
-- Assumes nothing.
use mathlib.Core.Path.{◌≡◌, refl, ◌∙◌, ap}
use mathlib.Core.Bool.{Bool, true, cond, ◌&&◌}
use mathlib.Core.List.{List, [], ◌∷◌}
use Prim.Native.Nat.{ℕ, zero, suc, ◌≤◌, ◌<◌}
use native.Mathlib.Omega.{arith}
use lib.Dec.{T, leb, leb→le}
use lib.IntN.{ℤ, pos, nat_abs, ◌+ℤ◌, ◌-ℤ◌, ◌*ℤ◌}
use lib.Signed.{quot_z}
use lib.ListN.{get_or}
use mir.Syntax.{w16, w32}
use mir.Val.{SFits}
use mir.Facts.{to_z-of_z, and_yes}
use Rattle.std.specs.Int.{int_max, int_min}
use Rattle.std.proofs.lemmas.Int.{ints}
use Rattle.samples.specs.Sound.{hold}
use Rattle.samples.proofs.Signed.{by-ltb, is_pos, is-minus, is-abs, back, Near, near_fits, fits-near, near-pos, near_add, near_mul, near-quot}
use Rattle.samples.proofs.Laws.{wide_is}
use Rattle.ms_code.specs.declared.MsState.{MsState}
use Rattle.ms_code.specs.Nibble.{factors, signed_nibble, predicted, sample_after, held_delta, delta_after, after_nibble, Tame}

near-size : (z : ℤ) {n : ℕ} → nat_abs z ≤ n → Near z n
near-size z h = record { near = h }

-- ---- a nibble as a signed number
module _ {k : ℕ} (h : k < 16) where
  near-nibble : Near (signed_nibble k) 8
  unfolding signed_nibble
  near-nibble =
      by-ltb k 8 (λ c. Near (cond c (pos k) (pos k -ℤ pos 16)) 8) (λ l. near-pos (omega arith))
      (λ l. record { near = omega (arith, is-abs (is-minus (is_pos k) (is_pos 16))) })

-- ---- the prediction
-- a product of a sample and a number of 32 bits, as the machine works it
abbrev worked : ℤ → ℤ → ℤ
worked u c = back w32 u *ℤ back w32 c

worked-is : {x u c : ℤ} → SFits w16 x → u ≡ back w16 x → SFits w32 c → worked u c ≡ x *ℤ c
worked-is f e g = rw (e, wide_is f, to_z-of_z g) refl

module _ {t : MsState} (g : Tame t) (n : SFits w16 t.newer) (o : SFits w16 t.older) where
  near-newer : Near (t.newer *ℤ t.first) 16777216
  near-newer = near_mul (fits-near n) (near-size t.first g.first)

  near-older : Near (t.older *ℤ t.second) 8388608
  near-older = near_mul (fits-near o) (near-size t.second g.second)

  near-sum : Near (t.newer *ℤ t.first +ℤ t.older *ℤ t.second) 25165824
  near-sum = near_add near-newer near-older

  near-predicted : Near (predicted t) 98304
  unfolding predicted
  near-predicted = near-quot 256 98304 tt near-sum

  -- the samples are read as u and v
  module _ {u v : ℤ} (p : u ≡ back w16 t.newer) (q : v ≡ back w16 t.older) (a : SFits w32 t.first) (b : SFits w32 t.second) where
    pub newer-fits : SFits w32 (worked u t.first)
    newer-fits = rw (worked-is n p a) (near_fits near-newer tt)

    pub older-fits : SFits w32 (worked v t.second)
    older-fits = rw (worked-is o q b) (near_fits near-older tt)

    abbrev sum : ℤ
    sum = back w32 (worked u t.first) +ℤ back w32 (worked v t.second)

    sum_is : sum ≡ t.newer *ℤ t.first +ℤ t.older *ℤ t.second
    sum_is = rw (to_z-of_z newer-fits, to_z-of_z older-fits, worked-is n p a, worked-is o q b) refl

    pub sum_fits : SFits w32 sum
    sum_fits = rw sum_is (near_fits near-sum tt)

    quotient_is : quot_z (back w32 sum) (pos 256) ≡ predicted t
    unfolding predicted
    quotient_is = rw (to_z-of_z sum_fits, sum_is) refl

    pub quotient_fits : SFits w32 (quot_z (back w32 sum) (pos 256))
    quotient_fits = rw quotient_is (near_fits near-predicted tt)

    pub predicted-is : back w32 (quot_z (back w32 sum) (pos 256)) ≡ predicted t
    predicted-is = to_z-of_z quotient_fits ∙ quotient_is

pub ruleset predicting = (sum_fits, predicted-is)

-- ---- a delta, held
pub clamped : (z : ℤ) → int_max (pos 16) (int_min z (pos 2796202)) ≡ held_delta z
unfolding held_delta
clamped z = grind (arith, ints)

-- ---- the factors: one test that is computed over all sixteen, and the rule that it gives at each
abbrev all_near : ℕ → List ℤ → Bool
all_near n [] = true
all_near n (x ∷ xs) = leb (nat_abs x) n && all_near n xs

near-at : (n : ℕ) (xs : List ℤ) → T (all_near n xs) → (k : ℕ) → Near (get_or xs k (pos 0)) n
near-at n [] t k = omega arith
near-at n (x ∷ xs) t zero = record { near = leb→le (nat_abs x) n (and_yes (leb (nat_abs x) n) (all_near n xs) t).0 }
near-at n (x ∷ xs) t (suc k) = near-at n xs (and_yes (leb (nat_abs x) n) (all_near n xs) t).1 k

near-factor : (k : ℕ) → Near (get_or factors k (pos 0)) 768
near-factor k = near-at 768 factors tt k

-- ---- the delta after a nibble, and what a nibble adds to the prediction
module _ {d : ℤ} (f : SFits w32 d) (g : nat_abs d ≤ 2796202) where
  module _ (k : ℕ) {r : ℤ} (e : r ≡ get_or factors k (pos 0)) where
    near-grown : Near (d *ℤ get_or factors k (pos 0)) 2147483136
    near-grown = near_mul (near-size d g) (near-factor k)

    abbrev grown : ℤ
    grown = back w32 d *ℤ back w32 r

    grown-is : grown ≡ d *ℤ get_or factors k (pos 0)
    grown-is = rw (e, to_z-of_z f, to_z-of_z (near_fits {w = w32} (near-factor k) tt)) refl

    pub grown-fits : SFits w32 grown
    grown-fits = rw grown-is (near_fits near-grown tt)

    abbrev next : ℤ
    next = quot_z (back w32 grown) (pos 256)

    next-is : next ≡ quot_z (d *ℤ get_or factors k (pos 0)) (pos 256)
    next-is = rw (to_z-of_z grown-fits, grown-is) refl

    pub next_fits : SFits w32 next
    next_fits = rw next-is (near_fits (near-quot 256 8388606 tt near-grown) tt)

    pub delta-after : {v : ℤ} → SFits w32 v → v ≡ held_delta (back w32 next) → back w32 v ≡ delta_after d k
    unfolding delta_after
    delta-after i q = to_z-of_z i ∙ q ∙ ap held_delta (to_z-of_z next_fits ∙ next-is)

  module _ {k : ℕ} (h : k < 16) {z : ℤ} (i : SFits w32 z) (e : z ≡ signed_nibble k) where
    near-move : Near (signed_nibble k *ℤ d) 22369616
    near-move = near_mul (near-nibble h) (near-size d g)

    abbrev move : ℤ
    move = back w32 z *ℤ back w32 d

    move-is : move ≡ signed_nibble k *ℤ d
    move-is = rw (to_z-of_z f, to_z-of_z i, e) refl

    pub move-fits : SFits w32 move
    move-fits = rw move-is (near_fits near-move tt)

    module _ {t : MsState} (c : Tame t) (n : SFits w16 t.newer) (o : SFits w16 t.older)
        {p : ℤ} (j : SFits w32 p) (a : p ≡ predicted t) where
      added_is : back w32 p +ℤ back w32 move ≡ predicted t +ℤ signed_nibble k *ℤ d
      added_is = rw (to_z-of_z j, to_z-of_z move-fits, move-is, a) refl

      pub added-fits : SFits w32 (back w32 p +ℤ back w32 move)
      added-fits = rw added_is (near_fits (near_add (near-predicted c n o) near-move) tt)

      pub sample-after : {y : ℤ} → d ≡ t.delta → SFits w16 y → y ≡ hold (back w32 (back w32 p +ℤ back w32 move))
          → back w16 y ≡ sample_after t k
      unfolding sample_after
      sample-after q m u = to_z-of_z m ∙ u ∙ ap hold (to_z-of_z added-fits ∙ added_is ∙ rw q refl)

pub ruleset products = (grown-fits, move-fits, added-fits)

-- ---- the channel after a nibble
module _ (t : MsState) (a : SFits w32 t.first) (b : SFits w32 t.second) where
  pub decoded-is : (k : ℕ) {y v : ℤ} → SFits w16 t.newer → y ≡ sample_after t k → v ≡ delta_after t.delta k
      → record { first = back w32 t.first; second = back w32 t.second; delta = v; newer = y; older = back w16 t.newer }
      ≡ after_nibble t k
  unfolding after_nibble
  decoded-is k n e f = simp (e, f, to_z-of_z a, to_z-of_z b, to_z-of_z n)

  pub still-tame : {y v z : ℤ} → Tame t → SFits w32 v → nat_abs v ≤ 2796202
      → Tame (record { first = back w32 t.first; second = back w32 t.second; delta = back w32 v; newer = y; older = z })
  still-tame g f h =
      record {
        first = rw (to_z-of_z a) g.first;
        second = rw (to_z-of_z b) g.second;
        delta = rw (to_z-of_z f) h;
      }

pub ruleset decoding = (delta-after, sample-after, decoded-is, still-tame)
