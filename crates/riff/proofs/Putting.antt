-- A chunk is put as its head, its data and its pad behind one another; the puts are one write of its bytes. Assumes nothing.
use mathlib.Core.Path.{◌≡◌, ap, subst}
use mathlib.Core.List.{List, ◌++◌, append-nil}
use Prim.Native.Nat.{ℕ, ◌+◌, ◌%◌, ◌≤◌, ◌<◌}
use native.Mathlib.Omega.{arith}
use lib.ListN.{length, set, length-append}
use Rattle.little.specs.Writing.{Put}
use Rattle.little.proofs.Filling.{put-nothing, put_next, put-long, one_store}
use Rattle.codes.specs.declared.Code.{Code}
use Rattle.riff.specs.Laying.{piece, head_bytes, pad_bytes, piece_bytes}
use Rattle.riff.proofs.Laying.{length-head, length-pad, length-piece}

-- ---- the pad
module _ (n : ℕ) where
  pub pad-none : {d : List ℕ} {at : ℕ} → n % 2 ≡ 0 → Put d at (pad_bytes n) d
  unfolding pad_bytes
  pad-none e = rw e put-nothing

  pub pad-room : {at m : ℕ} → at + length (pad_bytes n) ≤ m → (n % 2 ≡ 0 → ⊥) → at < m
  pad-room h e = omega (arith, length-pad n)

  pub pad-zero : {d : List ℕ} {at : ℕ} → at + length (pad_bytes n) ≤ length d → (n % 2 ≡ 0 → ⊥) → Put d at (pad_bytes n) (set d at 0)
  unfolding pad_bytes
  pad-zero h e =
      let o : n % 2 ≡ 1 = omega arith in
      rw o (one_store (omega (arith, length-pad n)))

pub ruleset padding = (pad-none, pad-room, pad-zero)

-- ---- a chunk whose data need no pad
module _ (k : Code) (bytes : List ℕ) where
  pub head-room : (at : ℕ) {m : ℕ} → at + length (piece_bytes (piece k bytes)) ≤ m → at + 8 ≤ m
  head-room at h = omega (arith, length-piece (piece k bytes))

  module _ {d e : List ℕ} {at : ℕ} (n : ℕ) (h : at + length (piece_bytes (piece k bytes)) ≤ length d) (p : Put d at (head_bytes k n) e) where
    pub data-room : at + 8 + length bytes ≤ length e
    data-room = let l = put-long p (omega (arith, length-head k n, head-room at h)) in omega (arith, length-piece (piece k bytes))

    pub chunk-put : {g : List ℕ} → n ≡ length bytes → n % 2 ≡ 0 → Put e (at + 8) bytes g → Put d at (piece_bytes (piece k bytes)) g
    unfolding piece_bytes pad_bytes
    chunk-put {g} a b q =
        let u = put_next p q (omega (arith, length-head k n)) (omega (arith, length-piece (piece k bytes))) in
        rw (← a, b, append-nil bytes) u

  pub chunk_next : (at : ℕ) {n : ℕ} → n ≡ length bytes → n % 2 ≡ 0 → at + 8 + n ≡ at + length (piece_bytes (piece k bytes))
  chunk_next at a b = omega (arith, length-piece (piece k bytes))

pub ruleset chunks = (head-room, data-room, chunk-put, chunk_next)

-- ---- a chunk of n bytes with its pad
module _ (k : Code) (bytes : List ℕ) {d e g : List ℕ} {at n : ℕ} (h : at + length (piece_bytes (piece k bytes)) ≤ length d)
    (p : Put d at (head_bytes k n) e) (q : Put e (at + 8) bytes g) (a : n ≡ length bytes) where
  pub pad-fits : at + 8 + n + length (pad_bytes n) ≤ length g
  pad-fits =
      let r = data-room k bytes n h p in
      let l = put-long q r in
      let m = put-long p (omega (arith, length-head k n, head-room k bytes at h)) in
      rw a (omega (arith, length-piece (piece k bytes), length-pad (length bytes)))

  pub padded : {z : List ℕ} → Put g (at + 8 + n) (pad_bytes n) z → Put d at (piece_bytes (piece k bytes)) z
  unfolding piece_bytes
  padded {z} r =
      let b : n % 2 ≡ length bytes % 2 = ap (λ (i : ℕ). i % 2) a in
      let l = length-piece (piece k bytes) in
      let m = put-long p (omega (arith, length-head k n)) in
      let u = put_next q r (omega arith) (omega (arith, length-pad n)) in
      subst (λ (i : ℕ). Put d at (head_bytes k i ++ (bytes ++ pad_bytes i)) z) a
      (put_next p u (omega (arith, length-head k n)) (omega (arith, length-append bytes (pad_bytes n), length-pad n)))

pub ruleset padded-chunks = (head-room, data-room, pad-fits, padded)
