-- Laws of little-endian numbers, for every width: a number is its first byte and the rest, and reading back what was put gives it
-- again. Assumes nothing.
use mathlib.Core.Path.{◌≡◌, refl, sym, ap, ◌∙◌}
use mathlib.Core.List.{List, [], ◌∷◌, ◌++◌}
use Prim.Native.Nat.{ℕ, zero, suc, ◌+◌, ◌*◌, ◌/◌, ◌%◌, ◌^◌, ◌≤◌, ◌<◌}
use native.Mathlib.Nat.{add-zero, pow-suc, one-le-pow, div-lt_iff_lt-mul}
use native.Mathlib.Numerals.{add-one, add-two, add-three}
use native.Mathlib.Omega.{arith}
use lib.Dec.{T, ltb, ltb→lt, lt→ltb, lit<}
use lib.Pow.{are_bytes}
use lib.ListN.{length, take, drop, get_or, get_or-eq_default, drop_of_length-le}
use lib.Seq.{take-nil, take_at, drop-cons, drop-drop}
use mir.Syntax.{w8, w16, w32}
use mir.Val.{Fits}
use mir.Facts.{and_yes, yes_and}
use Rattle.std.specs.Int.{from_le_bytes, to_le_bytes}
use Rattle.little.specs.Numbers.{number_in, number_at, bytes_of}

-- one byte more in front
pub number_more : (n : ℕ) (s : List ℕ) (at : ℕ) → number_at (suc n) s at ≡ get_or s at 0 + 256 * number_at n s (suc at)
unfolding number_at number_in
number_more zero [] zero = refl
number_more (suc n) [] zero = refl
number_more zero [] (suc at) = refl
number_more (suc n) [] (suc at) = refl
number_more n (x ∷ s) zero = refl
number_more n (x ∷ s) (suc at) = number_more n s at

pub number-none : (s : List ℕ) (at : ℕ) → number_at 0 s at ≡ 0
unfolding number_at number_in
number-none s at = refl

-- in the words of the code: two bytes and four, read one by one, and a place past the end
module _ (s : List ℕ) (at : ℕ) where
  pub two_bytes : {x y : ℕ} → x ≡ get_or s at 0 → y ≡ get_or s (at + 1) 0 → x + 256 * y ≡ number_at 2 s at
  two_bytes e f =
      let f' = rw (add-one at) at f in
      omega (arith, number_more 1 s at, number_more 0 s (suc at), number-none s (suc (suc at)))

  pub four_bytes : {x y z w : ℕ} → x ≡ get_or s at 0 → y ≡ get_or s (at + 1) 0 → z ≡ get_or s (at + 2) 0 → w ≡ get_or s (at + 3) 0
      → x + 256 * y + 65536 * z + 16777216 * w ≡ number_at 4 s at
  four_bytes e f g h =
      let f' = rw (add-one at) at f in
      let g' = rw (add-two at) at g in
      let h' = rw (add-three at) at h in
      omega (
        arith,
        number_more 3 s at,
        number_more 2 s (suc at),
        number_more 1 s (suc (suc at)),
        number_more 0 s (suc (suc (suc at))),
        number-none s (suc (suc (suc (suc at)))),
      )

  pub byte_past : length s ≤ at → 0 ≡ get_or s at 0
  byte_past h = sym (get_or-eq_default s 0 h)

  pub number_past : (n : ℕ) → length s ≤ at → 0 ≡ number_at n s at
  unfolding number_at number_in
  number_past n h = sym (ap (λ (l : List ℕ). number_in (take n l)) (drop_of_length-le s h) ∙ ap number_in (take-nil n))

-- the same where the code has read the bytes into bs, by the library's word for the number that they say
pub two_say : (bs s : List ℕ) (at : ℕ) → ((k : ℕ) → k < 2 → get_or bs k 0 ≡ get_or s (at + k) 0) → from_le_bytes w16 bs ≡ number_at 2 s at
two_say bs s at h =
    let e = two_bytes s at (rw add-zero at (h 0 (omega arith))) (h 1 (omega arith)) in
    omega arith

pub four_say : (bs s : List ℕ) (at : ℕ) → ((k : ℕ) → k < 4 → get_or bs k 0 ≡ get_or s (at + k) 0) → from_le_bytes w32 bs ≡ number_at 4 s at
four_say bs s at h =
    let e = four_bytes s at (rw add-zero at (h 0 (omega arith))) (h 1 (omega arith)) (h 2 (omega arith)) (h 3 (omega arith)) in
    omega arith

-- ---- a number and its bytes
pub length-bytes : (n v : ℕ) → length (bytes_of n v) ≡ n
unfolding bytes_of
length-bytes zero v = refl
length-bytes (suc n) v = ap suc (length-bytes n (v / 256))

pub bytes-say : (n v : ℕ) → v < 256 ^ n → number_in (bytes_of n v) ≡ v
unfolding number_in bytes_of
bytes-say zero v h = omega arith
bytes-say (suc n) v h =
    let e = bytes-say n (v / 256) ((div-lt_iff_lt-mul (lit< tt)).1 (rw pow-suc at h)) in
    omega arith

-- the other way: the bytes of the number that bytes say
pub said-bytes : (bs : List ℕ) → T (are_bytes bs) → bytes_of (length bs) (number_in bs) ≡ bs
unfolding number_in bytes_of
said-bytes [] t = refl
said-bytes (b ∷ bs) t =
    let h : b < 256 = ltb→lt b 256 (and_yes (ltb b 256) (are_bytes bs) t).0 in
    let l : (b + 256 * number_in bs) % 256 ≡ b = omega arith in
    let r : (b + 256 * number_in bs) / 256 ≡ number_in bs = omega arith in
    rw (l, r) (ap (λ (m : List ℕ). b ∷ m) (said-bytes bs (and_yes (ltb b 256) (are_bytes bs) t).1))

-- the same where the number stands at a place of bytes
pub bytes-at : (n : ℕ) (s : List ℕ) (i : ℕ) → i + n ≤ length s → ((k : ℕ) → Fits w8 (get_or s k 0)) → bytes_of n (number_at n s i) ≡ take n (drop i s)
unfolding bytes_of
bytes-at zero s i h b = refl
bytes-at (suc n) s i h b =
    let f : get_or s i 0 < 256 = (b i).fits in
    let e = number_more n s i in
    let l : number_at (suc n) s i % 256 ≡ get_or s i 0 = omega arith in
    let r : number_at (suc n) s i / 256 ≡ number_at n s (suc i) = omega arith in
    rw (l, r, drop-cons s i 0 (omega arith)) (ap (λ (m : List ℕ). get_or s i 0 ∷ m) (bytes-at n s (suc i) (omega arith) b))

-- by the library's word for the bytes of a number
pub two_of : (v : ℕ) → to_le_bytes w16 v ≡ bytes_of 2 v
unfolding bytes_of
two_of v = refl

pub four_of : (v : ℕ) → to_le_bytes w32 v ≡ bytes_of 4 v
unfolding bytes_of
four_of v =
    let e : v / 65536 ≡ v / 256 / 256 = omega arith in
    let f : v / 16777216 ≡ v / 256 / 256 / 256 = omega arith in
    rw (e, f)

-- ---- where a number stands in a list: in a part, and at the front
pub number-dropped : (n : ℕ) (s : List ℕ) (from at : ℕ) → number_at n (drop from s) at ≡ number_at n s (from + at)
unfolding number_at
number-dropped n s from at = ap (λ (l : List ℕ). number_in (take n l)) (drop-drop at from s)

pub number-first : (n v : ℕ) (s : List ℕ) → v < 256 ^ n → number_at n (bytes_of n v ++ s) 0 ≡ v
unfolding number_at
number-first n v s h = ap number_in (take_at (bytes_of n v) s n (length-bytes n v)) ∙ bytes-say n v h

-- ---- parts of bytes are bytes, so is what they make up and what is put for a number, and a number of n bytes fits them
pub taken-bytes : (n : ℕ) (s : List ℕ) → T (are_bytes s) → T (are_bytes (take n s))
taken-bytes zero s t = tt
taken-bytes (suc n) [] t = tt
taken-bytes (suc n) (b ∷ s) t =
    let p = and_yes (ltb b 256) (are_bytes s) t in
    yes_and (ltb b 256) (are_bytes (take n s)) p.0 (taken-bytes n s p.1)

pub dropped-bytes : (n : ℕ) (s : List ℕ) → T (are_bytes s) → T (are_bytes (drop n s))
dropped-bytes zero s t = t
dropped-bytes (suc n) [] t = tt
dropped-bytes (suc n) (b ∷ s) t = dropped-bytes n s (and_yes (ltb b 256) (are_bytes s) t).1

pub both_bytes : (xs ys : List ℕ) → T (are_bytes xs) → T (are_bytes ys) → T (are_bytes (xs ++ ys))
both_bytes [] ys t u = u
both_bytes (x ∷ xs) ys t u =
    let p = and_yes (ltb x 256) (are_bytes xs) t in
    yes_and (ltb x 256) (are_bytes (xs ++ ys)) p.0 (both_bytes xs ys p.1 u)

pub number-bytes : (n v : ℕ) → T (are_bytes (bytes_of n v))
unfolding bytes_of
number-bytes zero v = tt
number-bytes (suc n) v =
    let h = lt→ltb (v % 256) 256 (omega arith) in
    yes_and (ltb (v % 256) 256) (are_bytes (bytes_of n (v / 256))) h (number-bytes n (v / 256))

pub ruleset bytewise = (both_bytes, number-bytes)

first_fits : (n : ℕ) (s : List ℕ) → T (are_bytes s) → number_in (take n s) < 256 ^ n
unfolding number_in
first_fits zero s t = omega arith
first_fits (suc n) [] t = one-le-pow (suc n) 256 (lit< tt)
first_fits (suc n) (b ∷ s) t =
    let p = and_yes (ltb b 256) (are_bytes s) t in
    let h : b < 256 = ltb→lt b 256 p.0 in
    let l = first_fits n s p.1 in
    omega (arith, pow-suc 256 n)

pub number_fits : (n : ℕ) (s : List ℕ) (at : ℕ) → T (are_bytes s) → number_at n s at < 256 ^ n
unfolding number_at
number_fits n s at t = first_fits n (drop at s) (dropped-bytes at s t)
