-- The samples of a channel: how many there are, and where it does not matter how many are there. Assumes nothing.
use mathlib.Core.Path.{◌≡◌, refl, sym, ap, ◌∙◌}
use mathlib.Core.Bool.{Bool}
use mathlib.Core.List.{List, []}
use Prim.Native.Nat.{ℕ, zero, suc, ◌+◌, ◌*◌, ◌≤◌}
use native.Mathlib.Omega.{arith}
use native.Mathlib.Nat.{mul-le-mul_left}
use lib.IntN.{ℤ, pos}
use lib.ListN.{length, get_or, take}
use lib.Seq.{take_all, take-nil}
use Rattle.ima_code.specs.declared.ImaState.{ImaState}
use Rattle.ima_code.specs.Machine.{codes_of, after, chased_of}
use Rattle.ima_code.proofs.Machine.{length-chased}
use Rattle.ima_coder.specs.declared.Channel.{Channel}
use Rattle.ima_coder.specs.Part.{samples_from, packed, count_of, channel_after}

abbrev pub sample : List ℤ → ℕ → ℤ
sample s x = get_or s x (pos 0)

-- the bytes of samples
abbrev pub bytes_of : ImaState → List ℤ → List ℕ
bytes_of t xs = packed (codes_of t xs)

-- of no samples
module _ (s : List ℤ) (stride last x : ℕ) where
  pub bytes-none : (t : ImaState) → bytes_of t (samples_from s stride last x 0) ≡ []
  unfolding samples_from packed codes_of
  bytes-none t = refl

  pub channel-none : (t : Channel) (n : ℕ) → channel_after t n (samples_from s stride last x 0) ≡ t
  unfolding samples_from channel_after after chased_of count_of
  channel-none t n =
      let e : t.chased + count_of (take n []) ≡ t.chased = omega (arith, ap count_of (take-nil {A = Bool} n)) in
      ap (λ (k : ℕ). record { state = t.state; chased = k }) e

pub length_taken : (s : List ℤ) (stride last x n : ℕ) → length (samples_from s stride last x n) ≡ n
unfolding samples_from
length_taken s stride last x zero = refl
length_taken s stride last x (suc n) = ap suc (length_taken s stride last (x + stride) n)

-- ---- where all of 2n samples are there, it does not matter how many more are
module _ (n left : ℕ) (h : 2 * n ≤ left) where
  pub there-inside : (stride : ℕ) {m : ℕ} → stride * left ≤ m → stride * (2 * n) ≤ m
  there-inside stride g = omega (arith, mul-le-mul_left stride h)

  pub there-after : (s : List ℤ) (stride last at : ℕ) (t : Channel) {r : Channel}
      → r ≡ channel_after t (2 * n) (samples_from s stride last at (2 * n))
      → r ≡ channel_after t left (samples_from s stride last at (2 * n))
  unfolding channel_after
  there-after s stride last at t e =
      let xs : List ℤ = samples_from s stride last at (2 * n) in
      let bs : List Bool = chased_of t.state xs in
      let l : length bs ≡ 2 * n = length-chased t.state xs ∙ length_taken s stride last at (2 * n) in
      e
      ∙ ap (λ (k : List Bool). record { state = after t.state xs; chased = t.chased + count_of k })
      (take_all (2 * n) bs (omega arith) ∙ sym (take_all left bs (omega arith)))

pub ruleset channeling = (there-inside, there-after)
