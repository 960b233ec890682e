-- The answer to writing, in the words of the code; and what it says where the file is written. Assumes nothing.
use mathlib.Core.Path.{◌≡◌, refl, sym, ap, ◌∙◌}
use mathlib.Core.Bool.{Bool, true, false, not, cond}
use mathlib.Core.List.{List, ◌∷◌}
use Prim.Native.Nat.{ℕ, ◌≤◌, ◌<◌}
use native.Mathlib.Omega.{arith}
use lib.Dec.{leb}
use lib.ListN.{length}
use borrow.Author.Tests.{lt-leb, le-leb, leb-true, not-true, not-false}
use Rattle.units.specs.declared.BytePlace.{BytePlace}
use Rattle.units.specs.declared.Refusal.{Refusal}
use Rattle.units.specs.declared.Refusal.TheVariants.{FormatWrong, LengthOutOfRange, OutputTooSmall, TitlesWrong}
use Rattle.units.specs.Refusals.{file_limit, Verdict}
use Rattle.units.specs.Checks.{Check, check, decided, and_then, AllMet}
use Rattle.units.proofs.Checks.{all-met, then-decided}
use Rattle.riff.proofs.Laying.{length-laid}
use Rattle.formats.specs.Format.{format_rule}
use Rattle.titles.specs.declared.Title.{Title}
use Rattle.titles.specs.Writing.{Short}
use Rattle.rules.specs.declared.Record.{Record}
use Rattle.rules.specs.Rules.{record_checks, record_verdict, Writable}
use Rattle.rules.proofs.Taken.{record-keeps}
use Rattle.writer.specs.File.{size_of, parts_of, file_of, file_checks, write_checks, settled, written_by, writing_by}
use Rattle.std.specs.Prelude.{Err, Ok}

pub and-met : (u v : Verdict) → and_then u v ≡ Ok tt → (u ≡ Ok tt) × (v ≡ Ok tt)
and-met (Ok _) v e = (refl, e)
and-met (Err r) v e = let z : ◌≡◌ {A = ℕ} 0 1 = cc in absurd (omega arith)

module _ (x : Bool) (m : Record) (b w : List ℕ) (room : ℕ) where
  abbrev file : ℕ
  file = length (file_of m b w)

  -- the rules, and then the file
  pub settled-then : settled x m b w room ≡ and_then (record_verdict m (size_of w)) (decided (check x TitlesWrong ∷ file_checks (file_of m b w) room))
  unfolding write_checks
  settled-then = then-decided (record_checks m (size_of w)) (check x TitlesWrong ∷ file_checks (file_of m b w) room)

  pub longer : length w ≤ file
  unfolding file_of parts_of
  longer = omega (arith, length-laid (parts_of m b w))

  module _ {v : Verdict} {k : ℕ} (a : k ≡ length w) (e : v ≡ record_verdict m (record { 0 = k })) where
    pub writing-by : {u : Verdict} {y z : Bool} → v ≡ u → leb file file_limit ≡ y → leb file room ≡ z
        → writing_by x m b w room
        ≡ written_by (and_then u (cond x (cond y (cond z (Ok tt) (Err OutputTooSmall)) (Err LengthOutOfRange)) (Err TitlesWrong)))
        (size_of (file_of m b w))
    unfolding writing_by decided
    writing-by f i j = simp (settled-then, ← a, ← e, f, i, j)

    pub settle-ruled : {r : Refusal} → v ≡ Err r → Err r ≡ writing_by x m b w room
    settle-ruled f = sym (writing-by f refl refl)

    module _ (f : v ≡ Ok tt) where
      pub settle-titles : not x ≡ true → Err TitlesWrong ≡ writing_by x m b w room
      settle-titles h = sym (writing-by f refl refl ∙ simp (not-true x h))

      module _ (t : not x ≡ false) where
        right_by : {y z : Bool} → leb file file_limit ≡ y → leb file room ≡ z
            → writing_by x m b w room
            ≡ written_by (cond y (cond z (Ok tt) (Err OutputTooSmall)) (Err LengthOutOfRange)) (size_of (file_of m b w))
        right_by i j = writing-by f i j ∙ simp (not-false x t)

        pub settle-long : file_limit < k → Err LengthOutOfRange ≡ writing_by x m b w room
        settle-long h = sym (right_by (lt-leb file file_limit (omega (arith, longer))) refl)

        module _ {size : ℕ} (g : size ≡ file) where
          pub settle-limit : (most : ℕ) → most < size → file_limit ≤ most → Err LengthOutOfRange ≡ writing_by x m b w room
          settle-limit most h i = sym (right_by (lt-leb file file_limit (omega arith)) refl)

          module _ (h : size ≤ file_limit) where
            pub settle-room : room < size → Err OutputTooSmall ≡ writing_by x m b w room
            settle-room i = sym (right_by (le-leb file file_limit (omega arith)) (lt-leb file room (omega arith)))

            pub settle-taken : size ≤ room → Ok (record { 0 = size }) ≡ writing_by x m b w room
            settle-taken i =
                ap (λ (n : ℕ). Ok (record { 0 = n })) g
                ∙ sym (right_by (le-leb file file_limit (omega arith)) (le-leb file room (omega arith)))

  -- a format that breaks its rule is the first to be told
  pub format-refused : format_rule m.format ≡ false → writing_by x m b w room ≡ Err FormatWrong
  unfolding writing_by write_checks record_checks decided
  format-refused e = simp e

-- titles that are right have no text that is too long
pub short-so : {x : Bool} {b : List ℕ} {list : List Title} {n : ℕ} → (x ≡ true → Short b list n) → not x ≡ false → Short b list n
short-so {x} f t = f (not-false x t)

pub ruleset settling = (settle-ruled, settle-titles, settle-long, settle-limit, settle-room, settle-taken, short-so)

-- ---- what it says where the file is written
module _ (x : Bool) (m : Record) (b w : List ℕ) (room : ℕ) where
  pub bytes-say : (n : BytePlace) → writing_by x m b w room ≡ Ok n → settled x m b w room ≡ Ok tt
  unfolding writing_by
  bytes-say n = by (settled x m b w room)
    where
      by : (v : Verdict) → written_by v (size_of (file_of m b w)) ≡ Ok n → v ≡ Ok tt
      by (Ok _) e = refl
      by (Err r) e = let z : ◌≡◌ {A = ℕ} 0 1 = cc in absurd (omega arith)

  pub told-long : (n : BytePlace) → writing_by x m b w room ≡ Ok n → n ≡ size_of (file_of m b w)
  unfolding writing_by
  told-long n = by (settled x m b w room)
    where
      by : (v : Verdict) → written_by v (size_of (file_of m b w)) ≡ Ok n → n ≡ size_of (file_of m b w)
      by (Ok _) e = cc
      by (Err r) e = let z : ◌≡◌ {A = ℕ} 0 1 = cc in absurd (omega arith)

pub record Settled (x : Bool) (m : Record) (b w : List ℕ) (room : ℕ) : Type 0 where
  pub rules : Writable m (size_of w)
  pub titles : x ≡ true
  pub limit : length (file_of m b w) ≤ file_limit
  pub fits : length (file_of m b w) ≤ room

pub settled_says : (x : Bool) (m : Record) (b w : List ℕ) (room : ℕ) → settled x m b w room ≡ Ok tt → Settled x m b w room
unfolding AllMet
settled_says x m b w room e =
    let s : List ℕ = file_of m b w in
    let c : List Check = check x TitlesWrong ∷ file_checks s room in
    let p = and-met (record_verdict m (size_of w)) (decided c) (sym (settled-then x m b w room) ∙ e) in
    let a = all-met c p.1 in
    record {
      rules = record-keeps m (size_of w) p.0;
      titles = a.0;
      limit = leb-true (length s) file_limit a.1.0;
      fits = leb-true (length s) room a.1.1.0;
    }
