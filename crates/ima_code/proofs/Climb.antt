-- Eleven samples in succession may be chased and no twelve: eleven climb to index 88, where none is. Assumes nothing.
use mathlib.Core.Path.{◌≡◌, refl, sym, ◌∙◌, subst}
use mathlib.Core.Bool.{Bool, true, false}
use mathlib.Core.List.{List, [], ◌∷◌}
use Prim.Native.Nat.{ℕ, zero, suc, ◌+◌, ◌*◌, ◌≤◌}
use native.Mathlib.Omega.{arith}
use lib.Dec.{T}
use lib.IntN.{ℤ, nat_abs, ◌-ℤ◌}
use mir.Syntax.{w16}
use mir.Val.{SFits}
use borrow.Author.Tests.{lt-leb}
use Rattle.samples.proofs.Signed.{is-gap, is-abs}
use Rattle.samples.proofs.Laws.{raised}
use Rattle.ima_code.specs.declared.ImaState.{ImaState}
use Rattle.ima_code.specs.Code.{step_at, tracked, is_chased}
use Rattle.ima_code.specs.Machine.{chased_of}
use Rattle.ima_code.specs.Quality.{InRange, Sixteen, within, at_most}
use Rattle.ima_code.proofs.Table.{step_range}
use Rattle.ima_code.proofs.Coding.{tracked-in-range}
use Rattle.ima_code.proofs.Quality.{Inside, chased-index, chased-inside}
use Rattle.ima_code.proofs.Machine.{sixteen-first, sixteen-rest}

-- k more may be chased: at 8 for each they climb to index 88, and where none may be, the last sample is away from both ends
record Room (k : ℕ) (t : ImaState) : Type 0 where
  reach : 88 ≤ t.index + 8 * k
  calm : k ≡ 0 → Inside 2 t.last

module _ {t : ImaState} {x : ℤ} (c : InRange t) (f : SFits w16 x) where
  -- at index 88 the step is 32767, and no two samples are 65534 apart if one of them is 2 away from both ends
  room-none : Room 0 t → is_chased t x ≡ false
  unfolding is_chased step_at
  room-none r =
      let i : t.index ≡ 88 = omega (arith, r.reach, c.index) in
      let s : step_at t.index ≡ 32767 = rw i refl in
      let p = r.calm refl in
      let q = raised f in
      let g = is-abs (is-gap q.is p.is) in
      lt-leb (2 * step_at t.index) (nat_abs (x -ℤ t.last)) (omega (arith, p.low, p.high, q.below))

  module _ (e : is_chased t x ≡ true) where
    room-clash : {X : Type 0} → Room 0 t → X
    room-clash r = absurd (subst T (sym e ∙ room-none r) tt)

    room-less : {k : ℕ} → Room (suc k) t → Room k (tracked t x)
    room-less {k} r =
        let i = chased-index t x e in
        let n = (step_range c.index).0 in
        let p = chased-inside c f e in
        record {
          reach = omega (arith, r.reach);
          calm =
              λ z. record { w = p.w; is = p.is; low = omega (arith, r.reach, p.low); high = omega (arith, r.reach, p.high) };
        }

-- n may be, from any state, if n climbs reach 88
module _ (n : ℕ) (h : 88 ≤ 8 * n) where
  room-all : (t : ImaState) → Room n t
  room-all t = record { reach = omega arith; calm = λ z. absurd (omega arith) }

  -- one sample, chased or not, where what follows it is within bounds
  climb-by : {t : ImaState} {x : ℤ} → InRange t → SFits w16 x → (b : Bool) → is_chased t x ≡ b → (k : ℕ) → Room k t
      → (bs : List Bool) → ((j : ℕ) → Room j (tracked t x) → within n j bs ≡ true) → within n k (b ∷ bs) ≡ true
  unfolding within
  climb-by {t} {x} c f false e k r bs g = g n (room-all (tracked t x))
  climb-by c f true e zero r bs g = room-clash c f e r
  climb-by c f true e (suc k) r bs g = g k (room-less c f e r)

  climb : (t : ImaState) (xs : List ℤ) → InRange t → Sixteen xs → (k : ℕ) → Room k t → within n k (chased_of t xs) ≡ true
  unfolding within chased_of
  climb t [] c s k r = refl
  climb t (x ∷ xs) c s k r =
      climb-by c (sixteen-first s) (is_chased t x) refl k r (chased_of (tracked t x) xs)
      (climb (tracked t x) xs (tracked-in-range t x) (sixteen-rest s))

  at-most : {t : ImaState} {xs : List ℤ} → InRange t → Sixteen xs → at_most n (chased_of t xs) ≡ true
  unfolding at_most
  at-most {t} {xs} c s = climb t xs c s n (room-all t)

-- ---- theorems

-- no more than eleven in succession
pub eleven-at-most : {t : ImaState} {xs : List ℤ} → InRange t → Sixteen xs → at_most 11 (chased_of t xs) ≡ true
eleven-at-most c s = at-most _ (omega arith) c s
