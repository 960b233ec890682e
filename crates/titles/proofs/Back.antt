-- A list that is written says the entries that it was written of: its chunks are taken off its front one after the other, each whole, of
-- its size and with its pad. Assumes nothing.
use mathlib.Core.Path.{◌≡◌, refl, sym, ap, ◌∙◌, subst}
use mathlib.Core.Bool.{Bool, true, false, cond}
use mathlib.Core.List.{List, [], ◌∷◌, ◌++◌, map, append_assoc}
use Prim.Native.Nat.{ℕ, zero, suc, ◌+◌, ◌-◌, ◌%◌, ◌≤◌, ◌<◌}
use native.Mathlib.Omega.{arith}
use lib.Dec.{eqb}
use lib.ListN.{length, take, drop, get_or, length-append}
use lib.Seq.{take_at, drop_at}
use borrow.Author.Tests.{lt-ltb, le-ltb, le-leb, eqb-true, eqb-false}
use Rattle.little.specs.Numbers.{number_at, bytes_of}
use Rattle.little.specs.Same.{same_bytes}
use Rattle.little.proofs.Reading.{length-bytes}
use Rattle.codes.specs.Codes.{code_bytes, is_at}
use Rattle.codes.specs.declared.Code.{Code}
use Rattle.codes.specs.declared.Code.TheVariants as code
use Rattle.codes.proofs.Bytes.{length-code}
use Rattle.codes.proofs.Laws.{laid_code}
use Rattle.riff.specs.declared.Pad.TheVariants.{NotNeeded, There, Absent}
use Rattle.riff.specs.Chunks.{size_at, pad_after, pad_at, next_at, passes}
use Rattle.riff.specs.Laying.{piece, pad_bytes, piece_bytes, body_bytes}
use Rattle.riff.proofs.Laying.{length-body}
use Rattle.riff.proofs.Padding.{next_place}
use Rattle.riff.proofs.Found.{behind, number-laid, head-parts, data-there, size-there, rest-there, fits-there}
use Rattle.titles.specs.Titles.{Entry, no_entry}
use Rattle.titles.specs.Lists.{front_kind, front_entry, front_rest, with_entry, entries_by, entries_in, pad_fits, size_fits, front_fits, tiles_by, tiles, list_form}
use Rattle.titles.specs.Writing.{title_code, piece_of, list_bytes}
use Rattle.titles.proofs.Walking.{entries-one, entries_none, tiles-one, tiles-none}

-- the numbers of an entry fit the fields that they are written to, the size of its chunk among them
pub record EntryFits (e : Entry) : Type 0 where
  pub kind : e.kind < 2
  pub name : e.name < 4294967296
  pub some : 1 ≤ length e.text
  pub long : length e.text ≤ 1073741824

-- ---- one entry at the front
module _ (e : Entry) (f : EntryFits e) (rest : List ℕ) where
  abbrev bytes : List ℕ
  bytes = bytes_of 4 e.name ++ e.text

  abbrev l : List ℕ
  l = piece_bytes (piece_of e) ++ rest

  laid : drop 0 (piece_bytes (piece_of e) ++ rest) ≡ piece_bytes (piece (title_code e.kind) (bytes_of 4 e.name ++ e.text)) ++ rest
  unfolding piece_of
  laid = refl

  bytes-long : length bytes ≡ length e.text + 4
  bytes-long = length-append (bytes_of 4 e.name) e.text ∙ omega (arith, length-bytes 4 e.name)

  said-size : size_at l 0 ≡ length e.text + 4
  said-size = size-there l 0 (title_code e.kind) bytes rest laid (omega (arith, bytes-long, f.long)) ∙ bytes-long

  said-kind : front_kind l ≡ e.kind
  unfolding front_kind code_bytes same_bytes
  said-kind = by e.kind f.kind (laid_code l 0 (title_code e.kind) _ (head-parts l 0 (title_code e.kind) bytes rest laid))
    where
      by : (k : ℕ) → k < 2 → ((d : Code) → is_at l 0 d ≡ same_bytes (code_bytes (title_code k)) (code_bytes d))
          → cond (is_at l 0 code.Label) 0 (cond (is_at l 0 code.Note) 1 2) ≡ k
      by zero g h = simp h
      by (suc zero) g h = simp h
      by (suc (suc k)) g h = absurd (omega arith)

  said-data : drop 8 l ≡ bytes_of 4 e.name ++ (e.text ++ (pad_bytes (length bytes) ++ rest))
  said-data = data-there l 0 (title_code e.kind) bytes rest laid ∙ append_assoc (bytes_of 4 e.name) e.text _

  said-name : number_at 4 l 8 ≡ e.name
  said-name = number-laid l 8 e.name _ f.name said-data

  said-text : take (size_at l 0 - 4) (drop 12 l) ≡ e.text
  said-text =
      let n : size_at l 0 - 4 ≡ length e.text = omega (arith, said-size) in
      (λ i. take (n i) (behind l 8 (bytes_of 4 e.name) _ 4 (length-bytes 4 e.name) said-data i))
      ∙ take_at e.text _ (length e.text) refl

  pub said-entry : front_entry l ≡ e
  unfolding front_entry
  said-entry = λ i. record { kind = said-kind i; name = said-name i; text = said-text i }

  long-enough : 8 + size_at l 0 + size_at l 0 % 2 ≤ length l
  long-enough =
      let n : size_at l 0 ≡ length bytes = said-size ∙ sym bytes-long in
      subst (λ (k : ℕ). 8 + k + k % 2 ≤ length l) (sym n) (fits-there l 0 (title_code e.kind) bytes rest laid (omega arith))

  said-whole : passes l 0 ≡ false
  said-whole = simp (le-ltb (length l) 8 (omega (arith, long-enough)), le-ltb (length l) (8 + size_at l 0) (omega (arith, long-enough)))

  pub said-rest : front_rest l ≡ rest
  said-rest =
      let n : next_at l 0 ≡ 8 + size_at l 0 + size_at l 0 % 2 =
      next_place (size_at l 0) (8 + size_at l 0) (length l) (omega (arith, long-enough)) ∙ omega (arith, long-enough) in
      let m : size_at l 0 ≡ length bytes = said-size ∙ sym bytes-long in
      ap (λ (k : ℕ). drop k l) n
      ∙ ap (λ (k : ℕ). drop (8 + k + k % 2) l) m
      ∙ rest-there l 0 (title_code e.kind) bytes rest laid

  padded : (lost : Bool) → pad_fits lost (pad_at l 0) ≡ true
  unfolding pad_after
  padded lost = by (eqb (size_at l 0 % 2) 0) (eqb (8 + size_at l 0) (length l)) refl refl
    where
      by : (a b : Bool) → eqb (size_at l 0 % 2) 0 ≡ a → eqb (8 + size_at l 0) (length l) ≡ b
          → pad_fits lost (cond a NotNeeded (cond b Absent There)) ≡ true
      by true b g h = refl
      by false true g h =
          let odd = eqb-false (size_at l 0 % 2) 0 g in
          absurd (omega (arith, eqb-true (8 + size_at l 0) (length l) h, long-enough))
      by false false g h = refl

  pub said_fits : (lost : Bool) → length e.text ≤ 256 → front_fits lost l ≡ true
  unfolding front_fits size_fits
  said_fits lost h =
      let a : 5 ≤ size_at l 0 = omega (arith, said-size, f.some) in
      let b : size_at l 0 ≤ 260 = omega (arith, said-size) in
      simp (said-whole, padded lost, said-kind, lt-ltb e.kind 2 f.kind, le-leb 5 (size_at l 0) a, le-leb (size_at l 0) 260 b)

-- ---- all of them
abbrev pub AllFit : List Entry → Type 0
AllFit es = (i : ℕ) → i < length es → EntryFits (get_or es i no_entry)

others-fit : (e : Entry) (es : List Entry) → AllFit (e ∷ es) → AllFit es
others-fit e es f i h = f (suc i) (omega arith)

-- no text is too long
abbrev pub AllShort : List Entry → Type 0
AllShort es = (i : ℕ) → i < length es → length (get_or es i no_entry).text ≤ 256

body_back : (es : List Entry) (n : ℕ) → AllFit es → length (body_bytes (map piece_of es)) ≤ n → entries_by n (body_bytes (map piece_of es)) ≡ es
unfolding body_bytes
body_back [] n f h = entries_none n
body_back (e ∷ es) zero f h = absurd (omega (arith, length-body (piece_of e) (map piece_of es)))
body_back (e ∷ es) (suc n) f h =
    let rest : List ℕ = body_bytes (map piece_of es) in
    let g = f 0 (omega arith) in
    let k = said-kind e g rest in
    let t = lt-ltb e.kind 2 g.kind in
    let one : with_entry e.kind e (entries_by n rest) ≡ e ∷ entries_by n rest = simp t in
    entries-one (piece_bytes (piece_of e) ++ rest) n (said-whole e g rest)
    ∙ (λ i. with_entry (k i) (said-entry e g rest i) (entries_by n (said-rest e g rest i)))
    ∙ one
    ∙ ap (λ (l : List Entry). e ∷ l) (body_back es n (others-fit e es f) (omega (arith, length-body (piece_of e) (map piece_of es))))

body-tiles : (lost : Bool) (es : List Entry) (n : ℕ) → AllFit es → AllShort es → tiles_by lost n (body_bytes (map piece_of es)) ≡ true
unfolding body_bytes tiles_by
body-tiles lost es zero f o = refl
body-tiles lost [] (suc n) f o = tiles-none lost (suc n)
body-tiles lost (e ∷ es) (suc n) f o =
    let rest : List ℕ = body_bytes (map piece_of es) in
    let g = f 0 (omega arith) in
    let some : 0 < length (piece_bytes (piece_of e) ++ rest) = omega (arith, long-enough e g rest) in
    tiles-one (piece_bytes (piece_of e) ++ rest) lost n some (said_fits e g rest lost (o 0 (omega arith)))
    ∙ ap (tiles_by lost n) (said-rest e g rest)
    ∙ body-tiles lost es n (others-fit e es f) (λ i h. o (suc i) (omega arith))

module _ (es : List Entry) (f : AllFit es) where
  behind-code : drop 4 (list_bytes es) ≡ body_bytes (map piece_of es)
  unfolding list_bytes
  behind-code = drop_at (code_bytes code.Titles) (body_bytes (map piece_of es)) 4 (length-code code.Titles)

  body-shorter : length (body_bytes (map piece_of es)) ≤ length (list_bytes es)
  unfolding list_bytes
  body-shorter = omega (arith, length-append (code_bytes code.Titles) (body_bytes (map piece_of es)))

  pub entries-back : entries_in (list_bytes es) ≡ es
  unfolding entries_in
  entries-back = ap (entries_by (length (list_bytes es))) behind-code ∙ body_back es (length (list_bytes es)) f body-shorter

  pub list_written : (lost : Bool) → AllShort es → length es ≤ 128 → list_form lost (list_bytes es) ≡ true
  unfolding list_form tiles
  list_written lost o h =
      let t : tiles_by lost (length (list_bytes es)) (drop 4 (list_bytes es)) ≡ true =
      ap (tiles_by lost (length (list_bytes es))) behind-code ∙ body-tiles lost es (length (list_bytes es)) f o in
      let n : length (entries_in (list_bytes es)) ≤ 128 = omega (arith, ap length entries-back) in
      simp (t, le-leb (length (entries_in (list_bytes es))) 128 n)
