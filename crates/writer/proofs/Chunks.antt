-- A chunk that may be left out is put as its head and then its data, or not at all; the puts are one write of its bytes. Assumes nothing.
use mathlib.Core.Path.{◌≡◌, refl, sym, ◌∙◌}
use mathlib.Core.Bool.{Bool, true, false, not}
use mathlib.Core.List.{List, []}
use Prim.Native.Nat.{ℕ, ◌+◌, ◌%◌, ◌≤◌}
use native.Mathlib.Omega.{arith}
use lib.ListN.{length}
use borrow.Author.Tests.{lt-leb, le-leb, not-true, not-false}
use Rattle.little.specs.Writing.{Put}
use Rattle.little.proofs.Filling.{put-nothing}
use Rattle.units.specs.declared.Frames.{Frames}
use Rattle.codes.specs.declared.Code.{Code}
use Rattle.riff.specs.Laying.{Part, head_bytes, piece_bytes, part_bytes, piece}
use Rattle.riff.proofs.Putting.{head-room, data-room, chunk-put, chunk_next}
use Rattle.formats.specs.Bytes.{fact_bytes}
use Rattle.formats.proofs.Lengths.{fact-long}

abbrev part : Bool → List ℕ → Part
part there bytes = record { there = there; bytes = bytes }

module _ (k : Code) (bytes : List ℕ) {b : Bool} where
  whole_part : b ≡ true → part_bytes k (part b bytes) ≡ piece_bytes (piece k bytes)
  unfolding part_bytes
  whole_part t = simp t

  no_part : b ≡ false → part_bytes k (part b bytes) ≡ []
  unfolding part_bytes
  no_part t = simp t

  pub part_none : {d : List ℕ} {at : ℕ} → b ≡ false → Put d at (part_bytes k (part b bytes)) d
  part_none t = rw (no_part t) put-nothing

  pub none-next : (at : ℕ) → b ≡ false → at ≡ at + length (part_bytes k (part b bytes))
  none-next at t = rw (no_part t) (omega arith)

  module _ (t : b ≡ true) where
    pub part-head-room : (at : ℕ) {m : ℕ} → at + length (part_bytes k (part b bytes)) ≤ m → at + 8 ≤ m
    part-head-room at h = head-room k bytes at (rw (whole_part t) at h)

    module _ {d e : List ℕ} {at : ℕ} (n : ℕ) (h : at + length (part_bytes k (part b bytes)) ≤ length d) (p : Put d at (head_bytes k n) e) where
      pub part-data-room : at + 8 + length bytes ≤ length e
      part-data-room = data-room k bytes n (rw (whole_part t) at h) p

      pub part-put : {g : List ℕ} → n ≡ length bytes → n % 2 ≡ 0 → Put e (at + 8) bytes g → Put d at (part_bytes k (part b bytes)) g
      part-put i j q = rw (whole_part t) (chunk-put k bytes n (rw (whole_part t) at h) p i j q)

    pub part-next : (at : ℕ) {n : ℕ} → n ≡ length bytes → n % 2 ≡ 0 → at + 8 + n ≡ at + length (part_bytes k (part b bytes))
    part-next at i j = rw (whole_part t) (chunk_next k bytes at i j)

pub told-yes : {a b : Bool} → a ≡ b → not a ≡ false → b ≡ true
told-yes {a} e t = sym e ∙ not-false a t

pub told-no : {a b : Bool} → a ≡ b → not a ≡ true → b ≡ false
told-no {a} e t = sym e ∙ not-true a t

pub fact-four : (frames : Frames) → 4 ≡ length (fact_bytes frames)
fact-four frames = sym (fact-long frames)

pub fact-next : (k : Code) (frames : Frames) (at : ℕ) {b : Bool} → b ≡ true → at + 12 ≡ at + length (part_bytes k (part b (fact_bytes frames)))
fact-next k frames at t = let e = part-next k (fact_bytes frames) t at (fact-four frames) refl in omega arith

pub fact-room : (k : Code) (frames : Frames) {b : Bool} {d e : List ℕ} {at : ℕ} (n : ℕ)
    → at + length (part_bytes k (part b (fact_bytes frames))) ≤ length d → b ≡ true → Put d at (head_bytes k n) e → at + 8 + 4 ≤ length e
fact-room k frames n h t p = let r = part-data-room k (fact_bytes frames) t n h p in omega (arith, fact-long frames)

pub ruleset parts = (part_none, none-next, part-head-room, part-data-room, part-put, part-next, told-yes, told-no, fact-four, fact-next, fact-room, lt-leb, le-leb)
