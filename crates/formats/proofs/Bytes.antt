-- What is put for `fmt ` and `fact` is bytes, since it is made of numbers. Assumes nothing.
use mathlib.Core.Bool.{Bool, true, false, cond}
use mathlib.Core.List.{List, [], ◌∷◌}
use Prim.Native.Nat.{ℕ}
use lib.Dec.{T}
use lib.IntN.{ℤ}
use lib.Pow.{are_bytes}
use Rattle.little.proofs.Reading.{both_bytes, number-bytes, bytewise}
use Rattle.units.specs.declared.Frames.{Frames}
use Rattle.formats.specs.declared.Format.{Format}
use Rattle.formats.specs.Format.{pairs}
use Rattle.formats.specs.Bytes.{shared_bytes, extension_bytes, pairs_bytes, coefficient_bytes, format_bytes, fact_bytes}

shared-bytes : (f : Format) → T (are_bytes (shared_bytes f))
unfolding shared_bytes
shared-bytes f = search bytewise depth 6

extension-bytes : (size : ℕ) (f : Format) → T (are_bytes (extension_bytes size f))
unfolding extension_bytes
extension-bytes size f = search bytewise

pairs-bytes : (ps : List (List ℤ)) → T (are_bytes (pairs_bytes ps))
unfolding pairs_bytes
pairs-bytes [] = tt
pairs-bytes (p ∷ ps) = let t = pairs-bytes ps in search bytewise

coefficient-bytes : T (are_bytes coefficient_bytes)
unfolding coefficient_bytes
coefficient-bytes = let t = pairs-bytes pairs in search bytewise

-- either of two, as the tag chooses
chosen-bytes : (b : Bool) (xs ys : List ℕ) → T (are_bytes xs) → T (are_bytes ys) → T (are_bytes (cond b xs ys))
chosen-bytes true xs ys t u = t
chosen-bytes false xs ys t u = u

pub format-bytes : (f : Format) → T (are_bytes (format_bytes f))
unfolding format_bytes
format-bytes f = search (both_bytes, chosen-bytes, shared-bytes, extension-bytes, coefficient-bytes, tt) depth 6

pub fact-bytes : (frames : Frames) → T (are_bytes (fact_bytes frames))
unfolding fact_bytes
fact-bytes frames = number-bytes 4 frames.0
