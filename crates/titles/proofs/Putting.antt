-- A title is put as a chunk: its head, its name and its text, and its pad; a list as its code and its chunks one after the other. Assumes
-- nothing.
use mathlib.Core.Path.{◌≡◌, refl, sym, ap, ◌∙◌, subst}
use mathlib.Core.List.{List, [], ◌∷◌, ◌++◌, map}
use Prim.Native.Nat.{ℕ, ◌+◌, ◌*◌, ◌%◌, ◌^◌, ◌≤◌, ◌<◌}
use native.Mathlib.Omega.{arith}
use lib.ListN.{length, take, drop, get_or, length-append, length-take}
use lib.Seq.{get_or-take}
use mir.Syntax.{w32, w64}
use mir.Val.{Fits}
use borrow.Author.Tests.{eq-eqb, ne_eqb}
use Rattle.little.specs.Numbers.{bytes_of}
use Rattle.little.specs.Writing.{Put}
use Rattle.little.proofs.Filling.{put_next, put-long}
use Rattle.little.proofs.Reading.{length-bytes}
use Rattle.codes.specs.Codes.{code_bytes}
use Rattle.codes.specs.declared.Code.{Code}
use Rattle.codes.specs.declared.Code.TheVariants as code
use Rattle.codes.proofs.Bytes.{length-code}
use Rattle.riff.specs.Laying.{head_bytes, pad_bytes, piece_bytes, piece, body_bytes}
use Rattle.riff.proofs.Laying.{length-piece}
use Rattle.riff.proofs.Putting.{data-room, pad-fits, padded}
use Rattle.tables.specs.Bytes.{entry_bytes}
use Rattle.titles.specs.declared.Title.{Title}
use Rattle.titles.specs.declared.Titles.{Titles}
use Rattle.titles.specs.Titles.{Entry, entry_in, first_entries, entries_of, no_title}
use Rattle.titles.specs.Writing.{title_code, piece_of, chunk_of, list_bytes, Short}
use Rattle.titles.proofs.Pouring.{bytes_next, bytes-over}

-- ---- the code of a kind
pub code-label : (k : ℕ) → k ≡ 0 → code.Label ≡ title_code k
code-label k e = simp (eq-eqb k 0 e)

pub code-note : (k : ℕ) → (k ≡ 0 → ⊥) → code.Note ≡ title_code k
code-note k e = simp (ne_eqb k 0 e)

pub ruleset coding = (code-label, code-note)

-- ---- a name, and a text behind it
module _ (n : ℕ) (text : List ℕ) where
  pub named_put : {d e g : List ℕ} {at : ℕ} → at + (4 + length text) ≤ length d → Put d at (bytes_of 4 n) e → Put e (at + 4) text g
      → Put d at (bytes_of 4 n ++ text) g
  named_put h p q = put_next p q (omega (arith, length-bytes 4 n)) (omega arith)

-- ---- one title
abbrev data_of : Entry → List ℕ
data_of e = bytes_of 4 e.name ++ e.text

module _ (s : List ℕ) (t : Title) {text : List ℕ} (m : text ≡ (entry_in s t).text) where
  data-long : length (data_of (entry_in s t)) ≡ 4 + length text
  data-long = length-append (bytes_of 4 t.name.0) (entry_in s t).text ∙ omega (arith, length-bytes 4 t.name.0, ap length m)

  chunk-long : length (chunk_of (entry_in s t)) ≡ 8 + ((4 + length text) + (4 + length text) % 2)
  unfolding piece_of
  chunk-long = length-piece (piece (title_code t.kind) (data_of (entry_in s t))) ∙ ap (λ (n : ℕ). 8 + (n + n % 2)) data-long

  -- how many bytes it takes
  pub chunk-sized : 8 + (4 + length text) + (4 + length text) % 2 ≡ length (chunk_of (entry_in s t))
  chunk-sized = omega (arith, chunk-long)

  pub chunk_next : (at : ℕ) → at + 8 + (4 + length text) + (4 + length text) % 2 ≡ at + length (chunk_of (entry_in s t))
  chunk_next at = omega (arith, chunk-long)

  module _ (h : length (entry_in s t).text ≤ 256) where
    pub size_fits_lem : Fits w32 (4 + length text)
    size_fits_lem = record { fits = omega (arith, ap length m) }

    pub chunk-most : 8 + (4 + length text) + (4 + length text) % 2 ≤ 268
    chunk-most = omega (arith, ap length m)

  pub chunk-even : (8 + (4 + length text) + (4 + length text) % 2) % 2 ≡ 0
  chunk-even = omega arith

  -- its head, its name and its text, and its pad
  pub head-fits : (at : ℕ) {x : ℕ} → at + length (chunk_of (entry_in s t)) ≤ x → at + 8 ≤ x
  head-fits at h = omega (arith, chunk-long)

  module _ (at : ℕ) (d : List ℕ) (h : at + length (chunk_of (entry_in s t)) ≤ length d) (l : length d * 1 < 2 ^ 63) where
    pub pad-place : Fits w64 (at + 8 + (4 + length text))
    pad-place = record { fits = omega (arith, chunk-long) }

    pub chunk_end : Fits w64 (at + 8 + (4 + length text) + (4 + length text) % 2)
    chunk_end = record { fits = omega (arith, chunk-long) }

  module _ {d e : List ℕ} {at : ℕ} {k : Code} (h : at + length (chunk_of (entry_in s t)) ≤ length d) (c : k ≡ title_code t.kind)
      (p : Put d at (head_bytes k (4 + length text)) e) where
    opened : at + length (piece_bytes (piece (title_code t.kind) (data_of (entry_in s t)))) ≤ length d
    unfolding piece_of
    opened = h

    headed : Put d at (head_bytes (title_code t.kind) (4 + length text)) e
    headed = subst (λ (j : Code). Put d at (head_bytes j (4 + length text)) e) c p

    pub named-room : at + 8 + (4 + length text) ≤ length e
    named-room = omega (arith, data-room (title_code t.kind) (data_of (entry_in s t)) (4 + length text) opened headed, data-long)

    module _ {g : List ℕ} (q : Put e (at + 8) (bytes_of 4 t.name.0 ++ text) g) where
      filled : Put e (at + 8) (data_of (entry_in s t)) g
      filled = subst (λ (l : List ℕ). Put e (at + 8) (bytes_of 4 t.name.0 ++ l) g) m q

      pub pad-room : at + 8 + (4 + length text) + length (pad_bytes (4 + length text)) ≤ length g
      pad-room = pad-fits (title_code t.kind) (data_of (entry_in s t)) opened headed filled (sym data-long)

      pub title-put : {z : List ℕ} → Put g (at + 8 + (4 + length text)) (pad_bytes (4 + length text)) z → Put d at (chunk_of (entry_in s t)) z
      unfolding piece_of
      title-put r = padded (title_code t.kind) (data_of (entry_in s t)) opened headed filled (sym data-long) r

pub ruleset chunk_sizing = (chunk-sized, chunk-most, chunk-even)

pub ruleset titling = (size_fits_lem, head-fits, pad-place, chunk_end, named-room, pad-room, title-put, chunk_next)

-- ---- how many bytes the chunks take: size so far, and those that are left
pub record Added (s : List ℕ) (list : List Title) (i size : ℕ) : Type 0 where
  pub few : length list ≤ 128
  pub upto : i ≤ length list
  pub small : size ≤ 268 * i
  pub even : size % 2 ≡ 0
  pub same : size + length (entry_bytes chunk_of (drop i (map (entry_in s) list))) ≡ length (entry_bytes chunk_of (map (entry_in s) list))

module _ {s : List ℕ} {list : List Title} where
  pub text-short : Short s list (length list) → {i : ℕ} → i < length list → length (entry_in s (get_or list i no_title)).text ≤ 256
  text-short a {i} h = a.texts i h

  pub add-begins : Short s list (length list) → Added s list 0 0
  add-begins a = record { few = a.few; upto = omega arith; small = omega arith; even = refl; same = omega arith }

  module _ {i size : ℕ} (w : Added s list i size) where
    pub add-ends : length list ≤ i → size ≡ length (entry_bytes chunk_of (map (entry_in s) list))
    add-ends h = omega (arith, w.same, ap length (bytes-over chunk_of s list i h))

    pub add-next : i < length list → {k : ℕ} → k ≡ length (chunk_of (entry_in s (get_or list i no_title))) → k ≤ 268 → k % 2 ≡ 0
        → Added s list (i + 1) (size + k)
    add-next h {k} e b v =
        let es : List Entry = map (entry_in s) list in
        let chunk : List ℕ = chunk_of (entry_in s (get_or list i no_title)) in
        record {
          few = w.few;
          upto = omega arith;
          small = omega (arith, w.small);
          even = omega (arith, w.even);
          same =
              omega (
                arith,
                w.same,
                ap length (bytes_next chunk_of s list i h),
                length-append chunk (entry_bytes chunk_of (drop (i + 1) es)),
              );
        }

pub ruleset adding = (add-begins, add-ends, add-next, text-short)

-- the titles that a table counts
pub short-first : {s : List ℕ} {t : Titles} {ts : List Title} → Short s t.list t.count → ts ≡ take t.count t.list → Short s ts (length ts)
short-first {s} {t} a q =
    let n = length-take t.count t.list in
    subst (λ (xs : List Title). Short s xs (length xs)) (sym q)
    (record {
      few = omega (arith, a.few);
      texts =
          λ i h.
          subst (λ (x : Title). length (entry_in s x).text ≤ 256) (sym (get_or-take t.count t.list i no_title (omega arith)))
          (a.texts i (omega arith));
    })

-- ---- the list: its code, and the chunks behind it
body-entries : (es : List Entry) → body_bytes (map piece_of es) ≡ entry_bytes chunk_of es
unfolding body_bytes entry_bytes
body-entries [] = refl
body-entries (e ∷ es) = ap (λ (l : List ℕ). chunk_of e ++ l) (body-entries es)

pub list-parts : (es : List Entry) → list_bytes es ≡ code_bytes code.Titles ++ entry_bytes chunk_of es
unfolding list_bytes
list-parts es = ap (λ (l : List ℕ). code_bytes code.Titles ++ l) (body-entries es)

pub list-long : (es : List Entry) → length (list_bytes es) ≡ 4 + length (entry_bytes chunk_of es)
list-long es = ap length (list-parts es) ∙ length-append (code_bytes code.Titles) (entry_bytes chunk_of es) ∙ omega (arith, length-code code.Titles)

module _ (es : List Entry) where
  pub list-sized : {n : ℕ} → n ≡ length (entry_bytes chunk_of es) → 4 + n ≡ length (list_bytes es)
  list-sized e = omega (arith, list-long es)

  pub code-room : (at : ℕ) {x : ℕ} → at + length (list_bytes es) ≤ x → at + 4 ≤ x
  code-room at h = omega (arith, list-long es)

  module _ {d e : List ℕ} {at : ℕ} (h : at + length (list_bytes es) ≤ length d) (p : Put d at (code_bytes code.Titles) e) where
    pub chunks-room : at + 4 + length (entry_bytes chunk_of es) ≤ length e
    chunks-room = let l = put-long p (omega (arith, list-long es, length-code code.Titles)) in omega (arith, list-long es)

    pub list_put : {g : List ℕ} → Put e (at + 4) (entry_bytes chunk_of es) g → Put d at (list_bytes es) g
    list_put {g} q =
        subst (λ (l : List ℕ). Put d at l g) (sym (list-parts es))
        (put_next p q (omega (arith, length-code code.Titles)) (omega (arith, list-long es)))

-- of the titles that a table counts
module _ (s : List ℕ) (t : Titles) where
  pub said-room : (at : ℕ) {x : ℕ} → at + length (list_bytes (entries_of s t)) ≤ x → at + 4 ≤ x
  said-room at h = code-room (entries_of s t) at h

  module _ {ts : List Title} (q : ts ≡ take t.count t.list) where
    same : entries_of s t ≡ map (entry_in s) ts
    unfolding first_entries
    same = ap (map (entry_in s)) (sym q)

    pub list-said : {n : ℕ} → n ≡ length (entry_bytes chunk_of (map (entry_in s) ts)) → 4 + n ≡ length (list_bytes (entries_of s t))
    list-said e = list-sized (entries_of s t) (e ∙ ap (λ (es : List Entry). length (entry_bytes chunk_of es)) (sym same))

    module _ {d e : List ℕ} {at : ℕ} (h : at + length (list_bytes (entries_of s t)) ≤ length d) (p : Put d at (code_bytes code.Titles) e) where
      pub said-chunks : at + 4 + length (entry_bytes chunk_of (map (entry_in s) ts)) ≤ length e
      said-chunks =
          omega (arith, chunks-room (entries_of s t) h p, ap (λ (es : List Entry). length (entry_bytes chunk_of es)) same)

      pub said-put : {g : List ℕ} → Put e (at + 4) (entry_bytes chunk_of (map (entry_in s) ts)) g → Put d at (list_bytes (entries_of s t)) g
      said-put {g} r = list_put (entries_of s t) h p (subst (λ (es : List Entry). Put e (at + 4) (entry_bytes chunk_of es) g) (sym same) r)

pub ruleset listing = (short-first, list-said, said-room, said-chunks, said-put)
