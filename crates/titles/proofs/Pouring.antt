-- The entries of the first titles of a list, put one after the other, each as some bytes. Assumes nothing.
use mathlib.Core.Path.{◌≡◌, refl, sym, ap, ◌∙◌, subst}
use mathlib.Core.List.{List, [], ◌++◌, map}
use Prim.Native.Nat.{ℕ, ◌+◌, ◌≤◌, ◌<◌}
use native.Mathlib.Omega.{arith}
use lib.ListN.{length, length-map, drop, get_or, length-append, length-drop, drop_of_length-le}
use lib.Seq.{drop_at, drop-drop}
use Rattle.little.specs.Writing.{Put}
use Rattle.little.proofs.Filling.{Written, write-begins, write-piece, write-ends, drop-next}
use Rattle.tables.specs.Bytes.{entry_bytes}
use Rattle.titles.specs.declared.Title.{Title}
use Rattle.titles.specs.Titles.{Entry, no_entry, entry_in, no_title}
use Rattle.titles.proofs.Entries.{said_at}

-- ---- the bytes from entry i on
module _ (bytes : Entry → List ℕ) (s : List ℕ) (list : List Title) (i : ℕ) where
  abbrev es : List Entry
  es = map (entry_in s) list

  pub bytes_next : i < length list
      → entry_bytes bytes (drop i (map (entry_in s) list))
      ≡ bytes (entry_in s (get_or list i no_title)) ++ entry_bytes bytes (drop (i + 1) (map (entry_in s) list))
  unfolding entry_bytes
  bytes_next h =
      ap (entry_bytes bytes) (drop-next es i no_entry (omega (arith, length-map list (entry_in s))))
      ∙ ap (λ (e : Entry). bytes e ++ entry_bytes bytes (drop (i + 1) es)) (said_at s list i h)

  pub bytes-over : length list ≤ i → entry_bytes bytes (drop i (map (entry_in s) list)) ≡ []
  unfolding entry_bytes
  bytes-over h = ap (entry_bytes bytes) (drop_of_length-le es {i = i} (omega (arith, length-map list (entry_in s))))

-- ---- of the titles i are put, up to index x; the first went to index at
pub record Poured (bytes : Entry → List ℕ) (s : List ℕ) (list : List Title) (i at x : ℕ) (d d₀ : List ℕ) : Type 0 where
  pub upto : i ≤ length list
  pub to : ℕ
  pub here : x ≡ at + to
  pub left : drop to (entry_bytes bytes (map (entry_in s) list)) ≡ entry_bytes bytes (drop i (map (entry_in s) list))
  pub written : Written (entry_bytes bytes (map (entry_in s) list)) at to d d₀

module _ {bytes : Entry → List ℕ} {s : List ℕ} {list : List Title} where
  pub pour-begins : {at : ℕ} {d : List ℕ} → at + length (entry_bytes bytes (map (entry_in s) list)) ≤ length d → Poured bytes s list 0 at at d d
  pour-begins r = record { upto = omega arith; to = 0; here = omega arith; left = refl; written = write-begins r }

  module _ {i at x : ℕ} {d d₀ : List ℕ} (w : Poured bytes s list i at x d d₀) where
    abbrev all : List ℕ
    all = entry_bytes bytes (map (entry_in s) list)

    pub pour-ends : length list ≤ i → Put d₀ at (entry_bytes bytes (map (entry_in s) list)) d
    pour-ends h =
        let e : drop w.to all ≡ [] = w.left ∙ bytes-over bytes s list i h in
        write-ends w.written (omega (arith, length-drop w.to all, ap length e))

    module _ (h : i < length list) {piece : List ℕ} (e : piece ≡ bytes (entry_in s (get_or list i no_title))) where
      abbrev rest : List ℕ
      rest = entry_bytes bytes (drop (i + 1) (map (entry_in s) list))

      first : drop w.to all ≡ piece ++ rest
      first = w.left ∙ bytes_next bytes s list i h ∙ ap (λ (l : List ℕ). l ++ rest) (sym e)

      within : w.to + length piece ≤ length all
      within = omega (arith, length-drop w.to all, ap length first, length-append piece rest, w.written.upto)

      after : drop (w.to + length piece) all ≡ rest
      after = sym (drop-drop (length piece) w.to all) ∙ ap (drop (length piece)) first ∙ drop_at piece rest (length piece) refl

      pub pour-room : x + length piece ≤ length d
      pour-room = omega (arith, w.here, within, w.written.room, w.written.filled.long)

      pub pour-next : {y : ℕ} {g : List ℕ} → Put d x piece g → y ≡ x + length piece → Poured bytes s list (i + 1) at y g d₀
      pour-next {y} {g} p k =
          let q : Put d (at + w.to) piece g = subst (λ (j : ℕ). Put d j piece g) w.here p in
          record {
            upto = omega arith;
            to = w.to + length piece;
            here = omega (arith, w.here);
            left = after;
            written = write-piece w.written q (first ∙ ap (λ (l : List ℕ). piece ++ l) (sym after)) refl within;
          }

pub ruleset pouring = (pour-begins, pour-ends, pour-room, pour-next)
