-- Samples in two runs, one behind the other: their codes in bytes, and the channel after them. Assumes nothing.
use mathlib.Core.Path.{◌≡◌, refl, ap, ◌∙◌}
use mathlib.Core.Bool.{Bool}
use mathlib.Core.List.{List, [], ◌∷◌, ◌++◌}
use Prim.Native.Nat.{ℕ, zero, suc, ◌+◌, ◌-◌, ◌*◌, min}
use native.Mathlib.Omega.{arith}
use native.Mathlib.Nat.{mul-suc, mul-zero, zero-add, sub-zero}
use lib.IntN.{ℤ, pos}
use lib.ListN.{length, get_or, take}
use lib.Seq.{take-nil}
use Rattle.lists.specs.Turns.{in_turn}
use Rattle.ima_code.specs.declared.ImaState.{ImaState}
use Rattle.ima_code.specs.Machine.{codes_of, after, chased_of}
use Rattle.ima_code.proofs.Machine.{after-append, codes-append, chased-append, length-codes, length-chased}
use Rattle.ima_coder.specs.declared.Channel.{Channel}
use Rattle.ima_coder.specs.Part.{samples_from, packed, count_of, channel_after}
use Rattle.ima_coder.proofs.Taken.{bytes_of}

pub taken-append : (s : List ℤ) (stride last x n m : ℕ)
    → samples_from s stride last x (n + m) ≡ samples_from s stride last x n ++ samples_from s stride last (x + stride * n) m
unfolding samples_from
taken-append s stride last x zero m =
    let e : x ≡ x + stride * 0 = omega (arith, mul-zero stride) in
    ap (samples_from s stride last x) (zero-add m) ∙ ap (λ (k : ℕ). samples_from s stride last k m) e
taken-append s stride last x (suc n) m =
    let a : suc n + m ≡ suc (n + m) = omega arith in
    let e : x + stride + stride * n ≡ x + stride * suc n = omega (arith, mul-suc stride n) in
    ap (samples_from s stride last x) a
    ∙ ap (λ (l : List ℤ). get_or s (min x last) (pos 0) ∷ l)
    (taken-append s stride last (x + stride) n m
    ∙ ap (λ (k : ℕ). samples_from s stride last (x + stride) n ++ samples_from s stride last k m) e)

-- ---- codes in bytes, where the first run has an even number
pub packed-append : (n : ℕ) (ks ls : List ℕ) → length ks ≡ 2 * n → packed (ks ++ ls) ≡ packed ks ++ packed ls
unfolding packed
packed-append n [] ls e = refl
packed-append n (k ∷ []) ls e = absurd (omega arith)
packed-append zero (k ∷ l ∷ ks) ls e = absurd (omega arith)
packed-append (suc n) (k ∷ l ∷ ks) ls e = ap (λ (r : List ℕ). (k + 16 * l) ∷ r) (packed-append n ks ls (omega arith))

pub length-packed : (n : ℕ) (ks : List ℕ) → length ks ≡ 2 * n → length (packed ks) ≡ n
unfolding packed
length-packed zero [] e = refl
length-packed (suc n) [] e = absurd (omega arith)
length-packed n (k ∷ []) e = absurd (omega arith)
length-packed zero (k ∷ l ∷ ks) e = absurd (omega arith)
length-packed (suc n) (k ∷ l ∷ ks) e = ap suc (length-packed n ks (omega arith))

-- ---- the channel after them
pub count-append : (n : ℕ) (bs cs : List Bool)
    → count_of (take n (bs ++ cs)) ≡ count_of (take n bs) + count_of (take (n - length bs) cs)
unfolding count_of
count-append n [] cs =
    omega (arith, ap count_of (take-nil {A = Bool} n), ap (λ (k : ℕ). count_of (take k cs)) (sub-zero n))
count-append zero (b ∷ bs) cs =
    let e : zero - suc (length bs) ≡ 0 = omega arith in
    omega (arith, ap (λ (k : ℕ). count_of (take k cs)) e)
count-append (suc n) (b ∷ bs) cs =
    let e : suc n - suc (length bs) ≡ n - length bs = omega arith in
    omega (arith, count-append n bs cs, ap (λ (k : ℕ). count_of (take k cs)) e)

pub channel-append : (t : Channel) (n : ℕ) (xs ys : List ℤ)
    → channel_after t n (xs ++ ys) ≡ channel_after (channel_after t n xs) (n - length xs) ys
unfolding channel_after
channel-append t n xs ys =
    let all : List Bool = chased_of t.state (xs ++ ys) in
    let bs : List Bool = chased_of t.state xs in
    let cs : List Bool = chased_of (after t.state xs) ys in
    let d : all ≡ bs ++ cs = chased-append t.state xs ys in
    let l : length bs ≡ length xs = length-chased t.state xs in
    let e : t.chased + count_of (take n all) ≡ t.chased + count_of (take n bs) + count_of (take (n - length xs) cs) =
    omega (
      arith,
      ap (λ (l : List Bool). count_of (take n l)) d,
      count-append n bs cs,
      ap (λ (k : ℕ). count_of (take (n - k) cs)) l,
    ) in
    ap (λ (k : ImaState). record { state = k; chased = t.chased + count_of (take n all) }) (after-append t.state xs ys)
    ∙ ap (λ (k : ℕ). record { state = after (after t.state xs) ys; chased = k }) e

pub bytes-append : (t : ImaState) (n : ℕ) (xs ys : List ℤ) → length xs ≡ 2 * n
    → bytes_of t (xs ++ ys) ≡ bytes_of t xs ++ bytes_of (after t xs) ys
bytes-append t n xs ys e =
    ap packed (codes-append t xs ys) ∙ packed-append n (codes_of t xs) (codes_of (after t xs) ys) (length-codes t xs ∙ e)

pub length-bytes : (t : ImaState) (n : ℕ) (xs : List ℤ) → length xs ≡ 2 * n → length (bytes_of t xs) ≡ n
length-bytes t n xs e = length-packed n (codes_of t xs) (length-codes t xs ∙ e)

-- ---- the two channels of a sound, whose samples stand at every other index
abbrev pub lefts : List ℤ → ℕ → ℕ → List ℤ
lefts s x n = samples_from s 2 (length s - 2) x n

abbrev pub rights : List ℤ → ℕ → ℕ → List ℤ
rights s x n = samples_from s 2 (length s - 1) (x + 1) n

-- their bytes, four of each in turn, for n groups of eight frames from index x on
abbrev pub groups_of : List ℤ → ImaState → ImaState → ℕ → ℕ → List ℕ
groups_of s t u x n = in_turn 4 n (bytes_of t (lefts s x (8 * n)) ∷ bytes_of u (rights s x (8 * n)) ∷ [])
