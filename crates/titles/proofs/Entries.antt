-- The entries of the first titles of a list: how many there are, and which is at a place. Assumes nothing.
use mathlib.Core.Path.{◌≡◌, refl, ap, ◌∙◌}
use mathlib.Core.List.{List, [], ◌∷◌, map}
use Prim.Native.Nat.{ℕ, zero, suc, ◌≤◌, ◌<◌}
use native.Mathlib.Omega.{arith}
use lib.ListN.{length, take, get_or, length-map, get_or-map}
use lib.Seq.{length-take-le, get_or-take}
use Rattle.titles.specs.declared.Title.{Title}
use Rattle.titles.specs.Titles.{no_entry, entry_in, first_entries, no_title}

-- an element that is there is the same whatever else would be read
pub there : {A : Type 0} (l : List A) (i : ℕ) (c d : A) → i < length l → get_or l i c ≡ get_or l i d
there [] i c d h = absurd (omega arith)
there (x ∷ l) zero c d h = refl
there (x ∷ l) (suc i) c d h = there l i c d (omega arith)

-- the entry that a title says
pub said_at : (s : List ℕ) (list : List Title) (i : ℕ) → i < length list
    → get_or (map (entry_in s) list) i no_entry ≡ entry_in s (get_or list i no_title)
said_at s list i h =
    there (map (entry_in s) list) i no_entry (entry_in s no_title) (omega (arith, length-map list (entry_in s)))
    ∙ get_or-map (entry_in s) list i no_title

module _ (s : List ℕ) (list : List Title) (n : ℕ) (h : n ≤ length list) where
  pub entries-long : length (first_entries s list n) ≡ n
  unfolding first_entries
  entries-long = length-map (take n list) (entry_in s) ∙ length-take-le n list h

  pub entry_at : (i : ℕ) → i < n → get_or (first_entries s list n) i no_entry ≡ entry_in s (get_or list i no_title)
  unfolding first_entries
  entry_at i g =
      said_at s (take n list) i (omega (arith, length-take-le n list h))
      ∙ ap (entry_in s) (get_or-take n list i no_title g)
