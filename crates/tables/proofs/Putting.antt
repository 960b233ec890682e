-- The writes of `cue ` and `plst`, in the words of the code. Assumes nothing.
use mathlib.Core.Path.{◌≡◌, refl, sym, ap, ◌∙◌, subst, subst₂}
use mathlib.Core.List.{List, map, ◌++◌}
use Prim.Native.Nat.{ℕ, ◌+◌, ◌*◌, ◌≤◌, ◌<◌}
use native.Mathlib.Nat.{mul-zero, mul-suc, mul-le-mul_left}
use native.Mathlib.Numerals.{add-one}
use native.Mathlib.Omega.{arith}
use lib.ListN.{length, take, get_or, length-map, length-append}
use lib.Seq.{length-take-le, get_or-take, take_all}
use Rattle.little.specs.Numbers.{bytes_of}
use Rattle.little.specs.Writing.{Put}
use Rattle.little.proofs.Filling.{Written, put-long, put_next, write-begins, write-piece, write-ends}
use Rattle.little.proofs.Reading.{length-bytes}
use Rattle.codes.specs.Codes.{code_bytes}
use Rattle.codes.specs.declared.Code.TheVariants.{Data}
use Rattle.tables.specs.declared.Cue.{Cue}
use Rattle.tables.specs.declared.Cues.{Cues}
use Rattle.tables.specs.declared.Play.{Play}
use Rattle.tables.specs.declared.Playlist.{Playlist}
use Rattle.tables.specs.Tables.{held}
use Rattle.tables.specs.Bytes.{entry_bytes, table_bytes, cue_bytes, cues_bytes, play_bytes, plays_bytes}
use Rattle.tables.proofs.Entries.{held-room}
use Rattle.tables.proofs.Lengths.{entries-long, table-long, entry-from, cues-long, plays-long}

-- ---- the sizes
-- of an array in a struct the code knows how many values its entries have
pub array_long : {A B : Type 0} (f : A → B) (l : List A) (n : ℕ) → length (map f l) ≡ n → length l ≡ n
array_long f l n e = sym (length-map l f) ∙ e

module _ {n : ℕ} where
  pub cues-sized : (c : Cues) → n ≡ 4 + 24 * held c.count → length c.list ≡ 64 → n ≡ length (cues_bytes c)
  cues-sized c e h = omega (arith, cues-long c h)

  pub plays-sized : (p : Playlist) → n ≡ 4 + 12 * held p.count → length p.list ≡ 64 → n ≡ length (plays_bytes p)
  plays-sized p e h = omega (arith, plays-long p h)

pub ruleset sizing = (array_long, cues-sized, plays-sized, held-room)

-- ---- one entry
module _ {d e g : List ℕ} {at : ℕ} where
  module _ {h : List ℕ} (l : at + 12 ≤ length d) where
    pub name-put : (c : Cue) → Put d at (bytes_of 4 c.name.0) e → Put e (at + 4) (bytes_of 4 c.position.0) g → Put g (at + 8) (code_bytes Data) h
        → Put d at (bytes_of 4 c.name.0 ++ (bytes_of 4 c.position.0 ++ code_bytes Data)) h
    unfolding code_bytes bytes_of
    name-put c p q r = put_next (put_next p q refl (omega arith)) r refl (omega arith)

    pub place-put : (c : Cue) → Put d at (bytes_of 4 0) e → Put e (at + 4) (bytes_of 4 0) g → Put g (at + 8) (bytes_of 4 c.place.0) h
        → Put d at (bytes_of 4 0 ++ (bytes_of 4 0 ++ bytes_of 4 c.place.0)) h
    unfolding bytes_of
    place-put c p q r = put_next (put_next p q refl (omega arith)) r refl (omega arith)

    pub play-put : (c : Play) → Put d at (bytes_of 4 c.name.0) e → Put e (at + 4) (bytes_of 4 c.length.0) g → Put g (at + 8) (bytes_of 4 c.times) h
        → Put d at (play_bytes c) h
    unfolding play_bytes bytes_of
    play-put c p q r = put_next (put_next p q refl (omega arith)) r refl (omega arith)

  pub cue-put : (c : Cue) → Put d at (bytes_of 4 c.name.0 ++ (bytes_of 4 c.position.0 ++ code_bytes Data)) e
      → Put e (at + 12) (bytes_of 4 0 ++ (bytes_of 4 0 ++ bytes_of 4 c.place.0)) g → at + 24 ≤ length d → Put d at (cue_bytes c) g
  unfolding cue_bytes code_bytes bytes_of
  cue-put c p q l = put_next p q refl (omega arith)

pub ruleset putting = (name-put, place-put, play-put, cue-put)

-- ---- the entries one after the other: of the first n entries of a list, i are put
pub record Entered {A : Type 0} (bytes : A → List ℕ) (size : ℕ) (list : List A) (n i at : ℕ) (d d₀ : List ℕ) : Type 0 where
  pub fixed : (a : A) → length (bytes a) ≡ size
  pub room : length (take n list) ≡ n
  pub written : Written (entry_bytes bytes (take n list)) at (size * i) d d₀

module _ {A : Type 0} {bytes : A → List ℕ} {size : ℕ} where
  pub entries-begin : {list : List A} {all n at : ℕ} {d : List ℕ} → ((a : A) → length (bytes a) ≡ size) → length list ≡ all → n ≤ all
      → at + size * n ≤ length d → Entered bytes size list n 0 at d d
  entries-begin {list} {all} {n} {at} {d} f h k l =
      let r = length-take-le n list (omega arith) in
      let m = entries-long bytes size f (take n list) in
      record {
        fixed = f;
        room = r;
        written = rw (mul-zero size) (write-begins (omega (arith, ap (λ (j : ℕ). size * j) r)));
      }

  module _ {list : List A} {n i at : ℕ} {d d₀ : List ℕ} (w : Entered bytes size list n i at d d₀) where
    long : length (entry_bytes bytes (take n list)) ≡ size * n
    long = entries-long bytes size w.fixed (take n list) ∙ ap (λ (j : ℕ). size * j) w.room

    within : i < n → size * (i + 1) ≤ size * n
    within h = mul-le-mul_left size (omega arith)

    more : size * (i + 1) ≡ size * i + size
    more = ap (λ (j : ℕ). size * j) (add-one i) ∙ mul-suc size i

    pub entry-room : i < n → at + size * i + size ≤ length d
    entry-room h = omega (arith, w.written.room, w.written.filled.long, long, within h, more)

    pub entry_next : (none : A) {e : List ℕ} → i < n → Put d (at + size * i) (bytes (get_or list i none)) e → Entered bytes size list n (i + 1) at e d₀
    entry_next none {e} h p =
        let s : get_or (take n list) i none ≡ get_or list i none = get_or-take n list i none h in
        let q : Put d (at + size * i) (bytes (get_or (take n list) i none)) e = rw s p in
        record {
          fixed = w.fixed;
          room = w.room;
          written =
              write-piece w.written q (entry-from bytes size w.fixed (take n list) i none (omega (arith, w.room)))
              (omega (arith, more, w.fixed (get_or (take n list) i none)))
              (omega (arith, long, within h));
        }

    -- at the place that was reached, an element that was lent
    pub entry_step : {x : A} {next : ℕ} {e : List ℕ} → i < n → next ≡ at + size * i → x ≡ get_or list i x → Put d next (bytes x) e
        → Entered bytes size list n (i + 1) at e d₀
    entry_step {x} {next} {e} h k m p = entry_next x h (subst₂ (λ (j : ℕ) (y : A). Put d j (bytes y) e) k m p)

    pub entries-end : n ≤ i → Put d₀ at (entry_bytes bytes (take n list)) d
    entries-end h = let m : size * n ≤ size * i = mul-le-mul_left size h in write-ends w.written (omega (arith, long))

    -- where these are all of the list
    pub entries-whole : n ≡ length list → n ≤ i → Put d₀ at (entry_bytes bytes list) d
    entries-whole e h =
        let t : take n list ≡ list = take_all n list (omega arith) in
        subst (λ (l : List A). Put d₀ at (entry_bytes bytes l) d) t (entries-end h)

pub ruleset entering = (entries-begin, entry-room, entry_next, entries-whole)

-- ---- the whole: the count, and behind it the entries
module _ {A : Type 0} (bytes : A → List ℕ) (size : ℕ) (fixed : (a : A) → length (bytes a) ≡ size) (count : ℕ) (list : List A)
    (at : ℕ) (d : List ℕ) (h : length list ≡ 64) (l : at + length (table_bytes bytes count list) ≤ length d) where
  pub count_room : at + 4 ≤ length d
  count_room = omega (arith, table-long bytes size fixed count list h)

  module _ {n : ℕ} (e : n ≡ held count) {g : List ℕ} (p : Put d at (bytes_of 4 count) g) where
    pub list-room : at + 4 + size * n ≤ length g
    list-room =
        omega (
          arith,
          table-long bytes size fixed count list h,
          ap (λ (k : ℕ). size * k) e,
          put-long p (omega (arith, count_room, length-bytes 4 count)),
        )

    pub table-put : {k : List ℕ} → Put g (at + 4) (entry_bytes bytes (take n list)) k → Put d at (table_bytes bytes count list) k
    unfolding table_bytes
    table-put {k} q =
        let r : Put g (at + 4) (entry_bytes bytes (take (held count) list)) k = subst (λ (m : ℕ). Put g (at + 4) (entry_bytes bytes (take m list)) k) e q in
        put_next p r (omega (arith, length-bytes 4 count))
        (omega (arith, length-append (bytes_of 4 count) (entry_bytes bytes (take (held count) list)), length-bytes 4 count))
