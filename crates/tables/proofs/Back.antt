-- Tables there and back: the count and the entries that the written bytes say, and zero past them. Assumes nothing.
use mathlib.Core.Path.{◌≡◌, refl, sym, ap, ◌∙◌}
use mathlib.Core.List.{List, ◌∷◌, ◌++◌}
use Prim.Native.Nat.{ℕ, zero, suc, ◌+◌, ◌-◌, ◌*◌, ◌≤◌, ◌<◌}
use native.Mathlib.Nat.{add-zero, zero-add}
use native.Mathlib.Omega.{arith}
use lib.ListN.{length, take, drop, get_or, set, replicate, length-append, length-replicate, get_or-append}
use Rattle.std.proofs.lemmas.List.{drop-replicate}
use Rattle.lists.specs.Turns.{values}
use Rattle.lists.proofs.Turns.{values-long, values-at}
use lib.Seq.{length-take-le, take_at, drop-append-add, get_or-take, set_at, take-suc, append_snoc}
use Rattle.little.specs.Numbers.{number_at, bytes_of}
use Rattle.little.proofs.Reading.{bytes-say, number-dropped, number-first}
use Rattle.codes.specs.Codes.{code_bytes}
use Rattle.tables.specs.declared.Cue.{Cue}
use Rattle.tables.specs.declared.Cues.{Cues}
use Rattle.tables.specs.declared.Play.{Play}
use Rattle.tables.specs.declared.Playlist.{Playlist}
use Rattle.tables.specs.Tables.{count_in, held}
use Rattle.tables.specs.Cues.{no_cue, cue_at, cues_in, cues_of}
use Rattle.tables.specs.Plays.{no_play, play_at, plays_in, plays_of}
use Rattle.tables.specs.Bytes.{entry_bytes, table_bytes, zero_past, cue_bytes, cues_bytes, cues_kept, play_bytes, plays_bytes, plays_kept, CuesFit, PlaysFit}
use Rattle.tables.proofs.Entries.{held-room}
use Rattle.tables.specs.Bytes.{cue-long, play-long}
use Rattle.tables.proofs.Lengths.{entry-from}

-- ---- the count, and where entry k stands
module _ {A : Type 0} (bytes : A → List ℕ) (count : ℕ) (list : List A) where
  pub count-said : count < 4294967296 → count_in (table_bytes bytes count list) ≡ count
  unfolding count_in table_bytes
  count-said h = number-first 4 count (entry_bytes bytes (take (held count) list)) h

  -- a reading of what stands at a place gives x for entry k, where it does so whatever follows the entry
  pub entry-said : {B : Type 0} (size : ℕ) → ((a : A) → length (bytes a) ≡ size) → length list ≡ 64 → (none : A) (read : List ℕ → ℕ → B)
      → ((s : List ℕ) (at : ℕ) → read s at ≡ read (drop at s) 0) → (k : ℕ) {x : B} → k < held count
      → ((rest : List ℕ) → read (bytes (get_or list k none) ++ rest) 0 ≡ x) → read (table_bytes bytes count list) (4 + size * k) ≡ x
  unfolding table_bytes bytes_of
  entry-said size fixed h none read from k l f =
      let es : List A = take (held count) list in
      let n : length es ≡ held count = length-take-le (held count) list (omega (arith, held-room count)) in
      let rest : List ℕ = drop (size * (k + 1)) (entry_bytes bytes es) in
      from (table_bytes bytes count list) (4 + size * k)
      ∙ ap (λ (m : List ℕ). read m 0) (drop-append-add (bytes_of 4 count) (entry_bytes bytes es) (size * k))
      ∙ ap (λ (m : List ℕ). read m 0) (entry-from bytes size fixed es k none (omega arith))
      ∙ ap (λ (a : A). read (bytes a ++ rest) 0) (get_or-take (held count) list k none l)
      ∙ f rest

-- ---- one entry, whatever follows it
module _ (s : List ℕ) (at : ℕ) where
  here : (n : ℕ) → number_at n s at ≡ number_at n (drop at s) 0
  here n = ap (number_at n s) (sym (add-zero at)) ∙ sym (number-dropped n s at 0)

  pub there : (n k : ℕ) → number_at n s (at + k) ≡ number_at n (drop at s) k
  there n k = sym (number-dropped n s at k)

  cue-from : cue_at s at ≡ cue_at (drop at s) 0
  unfolding cue_at
  cue-from = λ i. record { name = record { 0 = here 4 i }; position = record { 0 = there 4 4 i }; place = record { 0 = there 4 20 i } }

  play-from : play_at s at ≡ play_at (drop at s) 0
  unfolding play_at
  play-from = λ i. record { name = record { 0 = here 4 i }; length = record { 0 = there 4 4 i }; times = there 4 8 i }

said-cue : (c : Cue) (rest : List ℕ) → c.name.0 < 4294967296 → c.position.0 < 4294967296 → c.place.0 < 4294967296
    → cue_at (cue_bytes c ++ rest) 0 ≡ c
unfolding cue_at cue_bytes code_bytes bytes_of number_at
said-cue c rest f g h =
    λ i. record {
      name = record { 0 = bytes-say 4 c.name.0 f i };
      position = record { 0 = bytes-say 4 c.position.0 g i };
      place = record { 0 = bytes-say 4 c.place.0 h i };
    }

said-play : (p : Play) (rest : List ℕ) → p.name.0 < 4294967296 → p.length.0 < 4294967296 → p.times < 4294967296
    → play_at (play_bytes p ++ rest) 0 ≡ p
unfolding play_at play_bytes bytes_of number_at
said-play p rest f g h =
    λ i. record {
      name = record { 0 = bytes-say 4 p.name.0 f i };
      length = record { 0 = bytes-say 4 p.length.0 g i };
      times = bytes-say 4 p.times h i;
    }

-- ---- where the entries that are read are those of a list, the table is its first entries, and zero past them
pub entries-kept : {A : Type 0} {room : ℕ} (z : A) (many : ℕ → List A) (entry : ℕ → A) (list : List A)
    → ((k : ℕ) → many (suc k) ≡ set (many k) k (entry k)) → many 0 ≡ replicate room z → length list ≡ room
    → (n : ℕ) → n ≤ room → ((k : ℕ) → k < n → entry k ≡ get_or list k z) → many n ≡ take n list ++ replicate (room - n) z
entries-kept {A} {room} z many entry list more begin h zero l f =
    let m : room ≡ room - 0 = omega arith in
    begin ∙ ap (λ (k : ℕ). replicate k z) m
entries-kept {A} {room} z many entry list more begin h (suc n) l f =
    let m : room - n ≡ suc (room - suc n) = omega arith in
    let rest : List A = replicate (room - suc n) z in
    more n
    ∙ ap (λ (xs : List A). set xs n (entry n)) (entries-kept z many entry list more begin h n (omega arith) (λ k g. f k (omega arith)))
    ∙ ap (λ (k : ℕ). set (take n list ++ replicate k z) n (entry n)) m
    ∙ set_at (take n list) z rest (entry n) n (length-take-le n list (omega arith))
    ∙ ap (λ (x : A). take n list ++ x ∷ rest) (f n (omega arith))
    ∙ sym (append_snoc (take n list) (get_or list n z) rest)
    ∙ ap (λ (xs : List A). xs ++ rest) (sym (take-suc list n z (omega arith)))

-- ---- the same where the first n entries are read into a list that is zero
read-in : {A : Type 0} (z : A) (many : ℕ → List A) (entry : ℕ → A) → ((k : ℕ) → many (suc k) ≡ set (many k) k (entry k))
    → many 0 ≡ replicate 64 z → {n : ℕ} {list new : List A} → n ≤ 64 → list ≡ replicate 64 z
    → new ≡ values entry 0 (length (take n list)) → new ++ drop n list ≡ many n
read-in {A} z many entry more begin {n} {list} {new} l e f =
    let rest : List A = replicate (64 - n) z in
    let m : length (values entry 0 n) ≡ n = values-long entry 0 n in
    let k : length list ≡ 64 = ap length e ∙ length-replicate 64 z in
    let g : new ≡ values entry 0 n = f ∙ ap (values entry 0) (length-take-le n list (omega arith)) in
    (λ i. g i ++ (ap (drop n) e ∙ drop-replicate n 64 z) i)
    ∙ ap (λ (xs : List A). xs ++ rest) (sym (take_at (values entry 0 n) rest n m))
    ∙ sym
    (entries-kept z many entry (values entry 0 n ++ rest) more begin
    (length-append (values entry 0 n) rest ∙ omega (arith, length-replicate (64 - n) z)) n l
    (λ k h.
    sym (get_or-append (values entry 0 n) rest z k (omega arith) ∙ values-at entry 0 n k z h ∙ ap entry (zero-add k))))

module _ (s : List ℕ) {count n : ℕ} (e : count ≡ number_at 4 s 0) (f : n ≡ held count) where
  few : n ≤ 64
  few = omega (arith, held-room count)

  pub cues-read : {list new : List Cue} → list ≡ replicate 64 no_cue → new ≡ values (λ k. cue_at s (4 + 24 * k)) 0 (length (take n list))
      → record { count = count; list = new ++ drop n list } ≡ cues_of s
  unfolding cues_of cues_in count_in
  cues-read g h =
      let l = read-in no_cue (cues_in s) (λ k. cue_at s (4 + 24 * k)) (λ k. refl) refl few g h in
      λ i. record { count = e i; list = (l ∙ ap (cues_in s) (f ∙ ap held e)) i }

  pub plays-read : {list new : List Play} → list ≡ replicate 64 no_play → new ≡ values (λ k. play_at s (4 + 12 * k)) 0 (length (take n list))
      → record { count = count; list = new ++ drop n list } ≡ plays_of s
  unfolding plays_of plays_in count_in
  plays-read g h =
      let l = read-in no_play (plays_in s) (λ k. play_at s (4 + 12 * k)) (λ k. refl) refl few g h in
      λ i. record { count = e i; list = (l ∙ ap (plays_in s) (f ∙ ap held e)) i }

pub ruleset tabling = (cues-read, plays-read)

-- ---- the laws
pub cues-back : {c : Cues} → CuesFit c → cues_of (cues_bytes c) ≡ cues_kept c
unfolding cues_of cues_in cues_kept zero_past cues_bytes
cues-back {c} f =
    let s : List ℕ = cues_bytes c in
    let n : ℕ = held c.count in
    let e : count_in s ≡ c.count = count-said cue_bytes c.count c.list f.count in
    let said : (k : ℕ) → k < n → cue_at s (4 + 24 * k) ≡ get_or c.list k no_cue =
    λ k h.
    entry-said cue_bytes c.count c.list 24 cue-long f.room no_cue cue_at cue-from k h
    (λ rest. said-cue (get_or c.list k no_cue) rest (f.name k) (f.position k) (f.place k)) in
    let l : cues_in s n ≡ take n c.list ++ replicate (64 - n) no_cue =
    entries-kept no_cue (cues_in s) (λ k. cue_at s (4 + 24 * k)) c.list (λ k. refl) refl f.room n (held-room c.count) said in
    λ i. record { count = e i; list = (ap (λ (k : ℕ). cues_in s (held k)) e ∙ l) i }

pub plays-back : {p : Playlist} → PlaysFit p → plays_of (plays_bytes p) ≡ plays_kept p
unfolding plays_of plays_in plays_kept zero_past plays_bytes
plays-back {p} f =
    let s : List ℕ = plays_bytes p in
    let n : ℕ = held p.count in
    let e : count_in s ≡ p.count = count-said play_bytes p.count p.list f.count in
    let said : (k : ℕ) → k < n → play_at s (4 + 12 * k) ≡ get_or p.list k no_play =
    λ k h.
    entry-said play_bytes p.count p.list 12 play-long f.room no_play play_at play-from k h
    (λ rest. said-play (get_or p.list k no_play) rest (f.name k) (f.long k) (f.times k)) in
    let l : plays_in s n ≡ take n p.list ++ replicate (64 - n) no_play =
    entries-kept no_play (plays_in s) (λ k. play_at s (4 + 12 * k)) p.list (λ k. refl) refl f.room n (held-room p.count) said in
    λ i. record { count = e i; list = (ap (λ (k : ℕ). plays_in s (held k)) e ∙ l) i }
