-- What the data of a chunk has of the file. Assumes nothing.
use mathlib.Core.Path.{◌≡◌, sym, ap, ◌∙◌}
use mathlib.Core.List.{List, []}
use Prim.Native.Nat.{ℕ, ◌+◌, ◌≤◌, min}
use native.Mathlib.Omega.{arith}
use lib.Dec.{T}
use lib.ListN.{length, take, drop, length-take, length-drop}
use lib.Pow.{are_bytes}
use Rattle.little.proofs.Reading.{taken-bytes, dropped-bytes}
use Rattle.riff.specs.declared.Place.{Place}
use Rattle.riff.specs.Walk.{part_of, by_spot, start_of}
use Rattle.riff.specs.Chunks.{Spot}
use Rattle.std.specs.Prelude.{None, Some}

pub part-there : (s : List ℕ) {spot : Spot} (absent : List ℕ) {p : Place} {r : List ℕ} → spot ≡ Some p
    → r ≡ take p.size.0 (drop p.start.0 s) → r ≡ part_of s spot absent
part-there s absent e f = f ∙ sym (ap (λ (x : Spot). part_of s x absent) e)

-- where it stands: in the file, or in what is lent in its place
module _ {spot : Spot} {p : Place} (e : spot ≡ Some p) where
  pub lent-there : {A : Type 0} {x y : A} (z : A) → x ≡ y → x ≡ by_spot spot y z
  unfolding by_spot
  lent-there {A} {x} {y} z f = f ∙ sym (ap (λ (q : Spot). by_spot q y z) e)

  pub place-there : (o n z : ℕ) {x : ℕ} → x ≡ o + min p.start.0 n → x ≡ by_spot spot (o + min (start_of spot) n) z
  unfolding by_spot
  place-there o n z f = f ∙ sym (ap (λ (q : Spot). by_spot q (o + min (start_of q) n) z) e)

pub lent-missing : {A : Type 0} {spot : Spot} {x z : A} (y : A) → spot ≡ None → x ≡ z → x ≡ by_spot spot y z
unfolding by_spot
lent-missing {A} {spot} {x} {z} y e f = f ∙ sym (ap (λ (q : Spot). by_spot q y z) e)

-- ---- the data of a chunk are bytes where the file is, and not more than it has
module _ (s : List ℕ) where
  pub part_bytes_lem : (spot : Spot) (absent : List ℕ) → T (are_bytes s) → T (are_bytes absent) → T (are_bytes (part_of s spot absent))
  part_bytes_lem (Some p) absent t u = taken-bytes p.size.0 (drop p.start.0 s) (dropped-bytes p.start.0 s t)
  part_bytes_lem None absent t u = u

  pub part-within : (spot : Spot) → length (part_of s spot []) ≤ length s
  part-within (Some p) =
      omega (arith, length-take p.size.0 (drop p.start.0 s), length-drop p.start.0 s)
  part-within None = omega arith
