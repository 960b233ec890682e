-- How long the bytes of a table are, and where its entries stand in them, once for both tables. Assumes nothing.
use mathlib.Core.Path.{◌≡◌, refl, sym, ap, ◌∙◌}
use mathlib.Core.List.{List, [], ◌∷◌, ◌++◌}
use Prim.Native.Nat.{ℕ, zero, suc, ◌+◌, ◌*◌, ◌<◌}
use native.Mathlib.Nat.{mul-zero, mul-suc}
use native.Mathlib.Omega.{arith}
use lib.ListN.{length, take, drop, get_or, length-append}
use lib.Seq.{length-take-le, drop-nil, drop-append-add}
use Rattle.little.specs.Numbers.{bytes_of}
use Rattle.little.proofs.Filling.{drop-next}
use Rattle.little.proofs.Reading.{length-bytes}
use Rattle.tables.specs.declared.Cues.{Cues}
use Rattle.tables.specs.declared.Playlist.{Playlist}
use Rattle.tables.specs.Tables.{held}
use Rattle.tables.specs.Bytes.{entry_bytes, table_bytes, cue_bytes, cues_bytes, play_bytes, plays_bytes, cue-long, play-long}
use Rattle.tables.proofs.Entries.{held-room}

-- ---- entries of one size
module _ {A : Type 0} (bytes : A → List ℕ) (size : ℕ) (fixed : (a : A) → length (bytes a) ≡ size) where
  pub entries-long : (es : List A) → length (entry_bytes bytes es) ≡ size * length es
  unfolding entry_bytes
  entries-long [] = sym (mul-zero size)
  entries-long (e ∷ es) =
      omega (arith, length-append (bytes e) (entry_bytes bytes es), fixed e, entries-long es, mul-suc size (length es))

  pub entries_from_lem : (es : List A) (i : ℕ) → drop (size * i) (entry_bytes bytes es) ≡ entry_bytes bytes (drop i es)
  unfolding entry_bytes
  entries_from_lem es zero = ap (λ (k : ℕ). drop k (entry_bytes bytes es)) (mul-zero size)
  entries_from_lem [] (suc i) = drop-nil (size * suc i)
  entries_from_lem (e ∷ es) (suc i) =
      let k : size * suc i ≡ length (bytes e) + size * i = omega (arith, fixed e, mul-suc size i) in
      rw k (drop-append-add (bytes e) (entry_bytes bytes es) (size * i) ∙ entries_from_lem es i)

  -- the bytes from entry i on
  pub entry-from : (es : List A) (i : ℕ) (none : A) → i < length es
      → drop (size * i) (entry_bytes bytes es) ≡ bytes (get_or es i none) ++ drop (size * (i + 1)) (entry_bytes bytes es)
  unfolding entry_bytes
  entry-from es i none h =
      entries_from_lem es i
      ∙ ap (entry_bytes bytes) (drop-next es i none h)
      ∙ ap (λ (m : List ℕ). bytes (get_or es i none) ++ m) (sym (entries_from_lem es (i + 1)))

  pub table-long : (count : ℕ) (list : List A) → length list ≡ 64 → length (table_bytes bytes count list) ≡ 4 + size * held count
  unfolding table_bytes
  table-long count list h =
      let k : length (take (held count) list) ≡ held count = length-take-le (held count) list (omega (arith, held-room count)) in
      length-append (bytes_of 4 count) (entry_bytes bytes (take (held count) list))
      ∙ omega (arith, length-bytes 4 count, entries-long (take (held count) list), ap (λ (m : ℕ). size * m) k)

-- ---- cues, of 24 bytes each, and playlist entries, of 12
module _ (c : Cues) where
  pub cues-long : length c.list ≡ 64 → length (cues_bytes c) ≡ 4 + 24 * held c.count
  unfolding cues_bytes
  cues-long h = table-long cue_bytes 24 cue-long c.count c.list h

  pub cues-none : c.count ≡ 0 → cues_bytes c ≡ 0 ∷ 0 ∷ 0 ∷ 0 ∷ []
  unfolding cues_bytes table_bytes entry_bytes bytes_of held
  cues-none e = rw e refl

module _ (p : Playlist) where
  pub plays-long : length p.list ≡ 64 → length (plays_bytes p) ≡ 4 + 12 * held p.count
  unfolding plays_bytes
  plays-long h = table-long play_bytes 12 play-long p.count p.list h

  pub plays-none : p.count ≡ 0 → plays_bytes p ≡ 0 ∷ 0 ∷ 0 ∷ 0 ∷ []
  unfolding plays_bytes table_bytes entry_bytes bytes_of held
  plays-none e = rw e refl
