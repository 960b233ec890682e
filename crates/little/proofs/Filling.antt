-- The laws of filling a lent buffer, once for every type of element: what a run of writes has done and has left to do. Assumes nothing.
use mathlib.Core.Path.{◌≡◌, refl, sym, ap, ◌∙◌, subst}
use mathlib.Core.List.{List, [], ◌∷◌, ◌++◌, append_assoc, append-nil}
use Prim.Native.Nat.{ℕ, ◌+◌, ◌-◌, ◌*◌, ◌/◌, ◌≤◌, ◌<◌}
use native.Mathlib.Nat.{zero-add, add-zero}
use native.Mathlib.Numerals.{add-one, add-two, add-three}
use native.Mathlib.Omega.{arith}
use lib.ListN.{length, take, drop, get_or, set, length-append, length-drop, take-append-drop, drop_of_length-le}
use lib.Seq.{take-add, take_all, take_at, take-take, take-append-add, take-append-le, drop_at, drop-drop, length-take-le, drop-cons, sets-eq}
use borrow.Rule.Slice.PartMut.{put_mid}
use Rattle.little.specs.Writing.{write_at, front, Put}

-- d₀ is to become p, and then what d₀ has past it. In d that is done up to index at, and rest is left to write
pub record Filled {A : Type 0} (p rest : List A) (at : ℕ) (d d₀ : List A) : Type 0 where
  pub head : take at d ++ rest ≡ p
  pub tail : drop at d ≡ drop at d₀
  pub long : length d ≡ length d₀
  pub room : at ≤ length d

module _ {A : Type 0} where
  head-long : (d : List A) (at : ℕ) (ys : List A) → at ≤ length d → length (take at d ++ ys) ≡ at + length ys
  head-long d at ys h = length-append (take at d) ys ∙ ap (λ (k : ℕ). k + length ys) (length-take-le at d h)

  drop_more : (d d₀ : List A) (at k : ℕ) → drop at d ≡ drop at d₀ → drop (at + k) d ≡ drop (at + k) d₀
  drop_more d d₀ at k e = sym (drop-drop k at d) ∙ ap (drop k) e ∙ drop-drop k at d₀

  -- ---- one write
  pub length-write : (d : List A) (at : ℕ) (ys : List A) → at + length ys ≤ length d → length (write_at d at ys) ≡ length d
  unfolding write_at
  length-write d at ys h =
      length-append (take at d ++ ys) (drop (at + length ys) d)
      ∙ omega (arith, head-long d at ys (omega arith), length-drop (at + length ys) d)

  pub put-long : {d ys e : List A} {at : ℕ} → Put d at ys e → at + length ys ≤ length d → length e ≡ length d
  put-long {d} {ys} {e} {at} p h = ap length p.same ∙ length-write d at ys h

  -- at index 0
  pub put_front : {d ys e : List A} → Put d 0 ys e → e ≡ front ys d
  unfolding write_at front
  put_front {d} {ys} p = p.same ∙ ap (λ (k : ℕ). ys ++ drop k d) (zero-add (length ys))

  -- no bytes, at any index
  pub put-nothing : {d : List A} {at : ℕ} → Put d at [] d
  unfolding write_at
  put-nothing {d} {at} = record { same = sym (rw (append-nil (take at d), add-zero at) (take-append-drop at d)) }

  -- a copy over a part of the buffer, which leaves put_mid
  pub put_part : {d ys : List A} (at k : ℕ) → length ys ≡ k → Put d at ys (put_mid at k d ys)
  unfolding write_at
  put_part {d} {ys} at k e =
      record {
        same =
            sym (append_assoc (take at d) ys (drop k (drop at d)))
            ∙ ap (λ (l : List A). take at d ++ ys ++ l) (drop-drop k at d ∙ ap (λ (n : ℕ). drop (at + n) d) (sym e));
      }

  -- a write from the start of what lies behind index k
  pub put_rest : {d ys e : List A} (k : ℕ) → k ≤ length d → e ≡ front ys (take (length d - k) (drop k d)) → Put d k ys (put_mid k (length d - k) d e)
  unfolding write_at front
  put_rest {d} {ys} {e} k h w =
      let m : ℕ = length d - k in
      let none : drop m (drop k d) ≡ [] = drop-drop m k d ∙ drop_of_length-le d (omega arith) in
      let whole : take m (drop k d) ≡ drop k d = take_all m (drop k d) (omega (arith, length-drop k d)) in
      let made : e ≡ ys ++ drop (k + length ys) d = w ∙ ap (λ (l : List A). ys ++ drop (length ys) l) whole ∙ ap (λ (l : List A). ys ++ l) (drop-drop (length ys) k d) in
      record {
        same =
            (λ i. take k d ++ (made i ++ none i))
            ∙ ap (λ (l : List A). take k d ++ l) (append-nil (ys ++ drop (k + length ys) d))
            ∙ sym (append_assoc (take k d) ys (drop (k + length ys) d));
      }

  -- the whole of a buffer is written
  pub front-whole : (d ys : List A) → length d ≤ length ys → front ys d ≡ ys
  unfolding front
  front-whole d ys h = ap (λ (l : List A). ys ++ l) (drop_of_length-le d h) ∙ append-nil ys

  -- one store, and two and four in a row
  pub one_store : {d : List A} {at : ℕ} {x : A} → at + 1 ≤ length d → Put d at (x ∷ []) (set d at x)
  unfolding write_at
  one_store {d} {at} {x} h = record { same = sets-eq (x ∷ []) d at h }

  pub two-stores : {d : List A} {at : ℕ} {x y : A} → at + 2 ≤ length d → Put d at (x ∷ y ∷ []) (set (set d at x) (at + 1) y)
  unfolding write_at
  two-stores {d} {at} {x} {y} h = record { same = rw (add-one at) (sets-eq (x ∷ y ∷ []) d at h) }

  pub four-stores : {d : List A} {at : ℕ} {x y z w : A} → at + 4 ≤ length d
      → Put d at (x ∷ y ∷ z ∷ w ∷ []) (set (set (set (set d at x) (at + 1) y) (at + 2) z) (at + 3) w)
  unfolding write_at
  four-stores {d} {at} {x} {y} {z} {w} h =
      record { same = rw (add-one at, add-two at, add-three at) (sets-eq (x ∷ y ∷ z ∷ w ∷ []) d at h) }

  -- ---- a run of writes
  -- nothing is written yet; the writing starts at index at
  pub filled_none : {d ys : List A} {at : ℕ} → at ≤ length d → Filled (take at d ++ ys) ys at d d
  filled_none h = record { head = refl; tail = refl; long = refl; room = h }

  -- a piece ys is written at index at
  pub filled-piece : {p rest rest' ys d e d₀ : List A} {at at' : ℕ}
      → Filled p rest at d d₀ → Put d at ys e → rest ≡ ys ++ rest' → at' ≡ at + length ys → at' ≤ length d → Filled p rest' at' e d₀
  unfolding write_at
  filled-piece {p} {rest} {rest'} {ys} {d} {e} {d₀} {at} {at'} f w r n h =
      let q : List A = take at d ++ ys in
      let z : List A = drop (at + length ys) d in
      let l : length q ≡ at' = head-long d at ys f.room ∙ sym n in
      let g : length e ≡ length d = put-long w (omega arith) in
      record {
        head =
            ap (λ (m : List A). take at' m ++ rest') w.same
            ∙ ap (λ (m : List A). m ++ rest') (take_at q z at' l)
            ∙ append_assoc (take at d) ys rest'
            ∙ ap (λ (m : List A). take at d ++ m) (sym r)
            ∙ f.head;
        tail =
            ap (drop at') w.same
            ∙ drop_at q z at' l
            ∙ drop_more d d₀ at (length ys) f.tail
            ∙ ap (λ (k : ℕ). drop k d₀) (sym n);
        long = g ∙ f.long;
        room = omega arith;
      }

  -- one element v is stored at index at
  pub filled-store : {p rest rest' d d₀ : List A} {at at' : ℕ} {v : A}
      → Filled p rest at d d₀ → rest ≡ v ∷ rest' → at < length d → at' ≡ at + 1 → Filled p rest' at' (set d at v) d₀
  filled-store f e h n = filled-piece f (one_store (omega arith)) e n (omega arith)

  -- nothing is left
  pub filled-all : {p d d₀ : List A} {at : ℕ} → Filled p [] at d d₀ → d ≡ front p d₀
  unfolding front
  filled-all {p} {d} {d₀} {at} f =
      let w : take at d ≡ p = sym (append-nil (take at d)) ∙ f.head in
      let n : at ≡ length p = sym (length-take-le at d f.room) ∙ ap length w in
      sym (take-append-drop at d)
      ∙ ap (λ (l : List A). l ++ drop at d) w
      ∙ ap (λ (l : List A). p ++ l) f.tail
      ∙ ap (λ (k : ℕ). p ++ drop k d₀) n

  -- the same where the writing started at index a
  pub filled_put : {ys d d₀ : List A} {a at : ℕ} → Filled (take a d₀ ++ ys) [] at d d₀ → a ≤ length d₀ → Put d₀ a ys d
  unfolding front write_at
  filled_put {ys} {d} {d₀} {a} f h = record { same = filled-all f ∙ ap (λ (k : ℕ). take a d₀ ++ ys ++ drop k d₀) (head-long d₀ a ys h) }

  -- two writes, one behind the other, are one
  pub put_next : {d xs ys e g : List A} {at at' : ℕ}
      → Put d at xs e → Put e at' ys g → at' ≡ at + length xs → at' + length ys ≤ length d → Put d at (xs ++ ys) g
  put_next {xs = xs} {ys} p q n h =
      let f = filled-piece (filled_none (omega arith)) p refl n (omega arith) in
      filled_put (filled-piece f q (sym (append-nil ys)) refl (omega (arith, f.long))) (omega arith)

  -- the room of each of them, and where they end
  pub first-room : (xs ys : List A) (at : ℕ) {m : ℕ} → at + length (xs ++ ys) ≤ m → at + length xs ≤ m
  first-room xs ys at h = omega (arith, length-append xs ys)

  pub second-room : (xs ys : List A) (at : ℕ) {m : ℕ} → at + length (xs ++ ys) ≤ m → at + length ys ≤ m
  second-room xs ys at h = omega (arith, length-append xs ys)

  pub both_end : (xs ys : List A) (at : ℕ) {at' end : ℕ} → at' ≡ at + length xs → end ≡ at' + length ys → end ≡ at + length (xs ++ ys)
  both_end xs ys at n k = omega (arith, length-append xs ys)

  module _ (xs ys : List A) {d e : List A} {at at' : ℕ} (h : at + length (xs ++ ys) ≤ length d) (p : Put d at xs e) (n : at' ≡ at + length xs) where
    pub next-room : at' + length ys ≤ length e
    next-room = let l = put-long p (first-room xs ys at h) in omega (arith, length-append xs ys)

    pub both-put : {g : List A} → Put e at' ys g → Put d at (xs ++ ys) g
    both-put q = put_next p q n (omega (arith, length-append xs ys))

  -- there is room for the first also where the second is written before it
  pub other-room : (xs ys : List A) {d e : List A} {at at' : ℕ} → at + length (xs ++ ys) ≤ length d → Put d at ys e → at' ≡ at + length ys
      → at' + length xs ≤ length e
  other-room xs ys {at = at} h p n = let l = put-long p (second-room xs ys at h) in omega (arith, length-append xs ys)

  -- ---- what a loop reads: a part of n elements from index x, and the next element from index i on
  pub part-long : (s : List A) (x n : ℕ) → x + n ≤ length s → length (take n (drop x s)) ≡ n
  part-long s x n h = length-take-le n (drop x s) (omega (arith, length-drop x s))

  pub drop-next : (s : List A) (i : ℕ) (z : A) → i < length s → drop i s ≡ get_or s i z ∷ drop (i + 1) s
  drop-next s i z h = drop-cons s i z h ∙ ap (λ (k : ℕ). get_or s i z ∷ drop k s) (sym (add-one i))

  -- two parts of ys, put one behind the other, are one: m elements from index i, and n from index j
  pub put-parts : (ys : List A) {d e g : List A} {at at' : ℕ} (i j m n : ℕ) → Put d at (take m (drop i ys)) e → Put e at' (take n (drop j ys)) g
      → at' ≡ at + m → j ≡ i + m → at' + n ≤ length d → j + n ≤ length ys → Put d at (take (m + n) (drop i ys)) g
  put-parts ys {d} {e} {g} {at} {at'} i j m n p q a b r h =
      subst (λ (l : List A). Put d at l g)
      (ap (λ (k : ℕ). take m (drop i ys) ++ take n (drop k ys)) b
      ∙ ap (λ (l : List A). take m (drop i ys) ++ take n l) (sym (drop-drop m i ys))
      ∙ sym (take-add m n (drop i ys)))
      (put_next p q (omega (arith, part-long ys i m (omega arith))) (omega (arith, part-long ys j n h)))

  -- four parts of n elements each
  pub four-parts : (n : ℕ) (ys : List A) {d a b c e : List A} {at at₁ at₂ at₃ : ℕ} (i i₁ i₂ i₃ : ℕ)
      → Put d at (take n (drop i ys)) a → Put a at₁ (take n (drop i₁ ys)) b → Put b at₂ (take n (drop i₂ ys)) c → Put c at₃ (take n (drop i₃ ys)) e
      → at₁ ≡ at + n → at₂ ≡ at₁ + n → at₃ ≡ at₂ + n → i₁ ≡ i + n → i₂ ≡ i₁ + n → i₃ ≡ i₂ + n
      → at₃ + n ≤ length d → i₃ + n ≤ length ys → Put d at (take (n + n + n + n) (drop i ys)) e
  four-parts n ys i i₁ i₂ i₃ p q r t a₁ a₂ a₃ b₁ b₂ b₃ room h =
      let v = put-parts ys i i₁ n n p q a₁ b₁ (omega arith) (omega arith) in
      let w = put-parts ys i i₂ (n + n) n v r (omega arith) (omega arith) (omega arith) (omega arith) in
      put-parts ys i i₃ (n + n + n) n w t (omega arith) (omega arith) (omega arith) h

-- ---- ys goes to index at of d₀; in d its first i elements are written
pub record Written {A : Type 0} (ys : List A) (at i : ℕ) (d d₀ : List A) : Type 0 where
  pub room : at + length ys ≤ length d₀
  pub upto : i ≤ length ys
  pub filled : Filled (take at d₀ ++ ys) (drop i ys) (at + i) d d₀

module _ {A : Type 0} where
  pub write-begins : {ys d : List A} {at : ℕ} → at + length ys ≤ length d → Written ys at 0 d d
  write-begins {at = at} h = record { room = h; upto = omega arith; filled = rw (add-zero at) (filled_none (omega arith)) }

module _ {A : Type 0} {ys d d₀ : List A} {at i : ℕ} (w : Written ys at i d d₀) where
  pub write-room : i < length ys → at + i < length d
  write-room h = omega (arith, w.room, w.filled.long)

  -- a piece xs more, up to index j
  pub write-piece : {xs e : List A} {j : ℕ} → Put d (at + i) xs e → drop i ys ≡ xs ++ drop j ys → j ≡ i + length xs → j ≤ length ys → Written ys at j e d₀
  write-piece {j = j} p r n h =
      record { room = w.room; upto = h; filled = filled-piece w.filled p r (omega arith) (omega (arith, w.room, w.filled.long)) }

  -- one element more
  pub write-next : {v : A} (z : A) → i < length ys → v ≡ get_or ys i z → Written ys at (i + 1) (set d (at + i) v) d₀
  write-next z h e =
      let r = write-room h in
      write-piece (one_store (omega arith)) (drop-next ys i z h ∙ ap (λ (x : A). x ∷ drop (i + 1) ys) (sym e)) refl (omega arith)

  pub write-ends : length ys ≤ i → Put d₀ at ys d
  write-ends h =
      filled_put (subst (λ (l : List A). Filled (take at d₀ ++ ys) l (at + i) d d₀) (drop_of_length-le ys h) w.filled) (omega (arith, w.room))

  -- the next element as it stands
  pub copy-next : (z : A) → i < length ys → Written ys at (i + 1) (set d (at + i) (get_or ys i z)) d₀
  copy-next z h = write-next z h refl

  -- k elements more, as they stand
  pub part_room : (k : ℕ) → k < length ys - i → at + i + k ≤ length d
  part_room k h = omega (arith, w.room, w.filled.long)

  pub copy-part : (k : ℕ) {e : List A} → k < length ys - i → Put d (at + i) (take k (drop i ys)) e → Written ys at (i + k) e d₀
  copy-part k h p =
      let rest : List A = drop i ys in
      write-piece p
      (sym (take-append-drop k rest) ∙ ap (λ (m : List A). take k rest ++ m) (drop-drop k i ys))
      (omega (arith, part-long ys i k (omega arith)))
      (omega arith)

  -- the first j elements, of those that are written
  first_part : (j : ℕ) → j ≤ i → take (at + j) d ≡ take at d₀ ++ take j ys
  first_part j h =
      let l = length-take-le (at + i) d w.filled.room in
      let l₀ = length-take-le at d₀ (omega (arith, w.room)) in
      sym (take-take (at + j) (at + i) d (omega arith))
      ∙ sym (take-append-le (at + j) (take (at + i) d) (drop i ys) (omega arith))
      ∙ ap (take (at + j)) w.filled.head
      ∙ ap (λ (k : ℕ). take (k + j) (take at d₀ ++ ys)) (sym l₀)
      ∙ take-append-add (take at d₀) ys j

  -- the last k elements, of which some may be written already
  pub last-room : (k : ℕ) → k ≤ length ys → at + (length ys - k) + k ≤ length d
  last-room k h = omega (arith, w.room, w.filled.long)

  pub copy-last : (k : ℕ) {e : List A} → k ≤ length ys → length ys - i ≤ k
      → Put d (at + (length ys - k)) (take k (drop (length ys - k) ys)) e → Put d₀ at ys e
  unfolding write_at
  copy-last k {e} h u p =
      let j : ℕ = length ys - k in
      let r : List A = drop (at + length ys) d₀ in
      let l : length (drop j ys) ≡ k = length-drop j ys ∙ omega arith in
      let n : at + j + length (take k (drop j ys)) ≡ at + i + (length ys - i) = omega (arith, part-long ys j k (omega arith), w.upto) in
      let m : at + i + (length ys - i) ≡ at + length ys = omega (arith, w.upto) in
      let t = ap (λ (z : ℕ). drop z d) n ∙ drop_more d d₀ (at + i) (length ys - i) w.filled.tail ∙ ap (λ (z : ℕ). drop z d₀) m in
      let f = first_part j (omega arith) in
      let g = take_all k (drop j ys) (omega arith) in
      record {
        same =
            p.same
            ∙ (λ x. f x ++ g x ++ t x)
            ∙ ap (λ (z : List A). z ++ r) (append_assoc (take at d₀) (take j ys) (drop j ys) ∙ ap (λ (z : List A). take at d₀ ++ z) (take-append-drop j ys));
      }

-- ys goes to index at, 128 elements at a turn, and then the rest
module _ {A : Type 0} (ys : List A) (at : ℕ) {d d₀ : List A} where
  -- n elements more, from index x on, in a copy over that part of the buffer
  pub piece-next : {e : List A} (x n : ℕ) → Written ys at x d d₀ → x + n ≤ length ys → e ≡ take (x + n - x) (drop x ys)
      → Written ys at (x + n) (put_mid (at + x) (at + x + n - (at + x)) d e) d₀
  piece-next {e} x n w h g =
      let m : x + n - x ≡ n = omega arith in
      let q : e ≡ take n (drop x ys) = g ∙ ap (λ (k : ℕ). take k (drop x ys)) m in
      let l : length e ≡ n = ap length q ∙ part-long ys x n h in
      write-piece w (put_part (at + x) (at + x + n - (at + x)) (omega arith))
      (sym (take-append-drop n (drop x ys)) ∙ ap (λ (m : List A). m ++ drop n (drop x ys)) (sym q)
      ∙ ap (λ (m : List A). e ++ m) (drop-drop n x ys))
      (omega arith)
      h

  pub turns-next : {e : List A} (i : ℕ) → Written ys at (128 * i) d d₀ → i < length ys / 128 → e ≡ take (128 * i + 128 - 128 * i) (drop (128 * i) ys)
      → Written ys at (128 * (i + 1)) (put_mid (at + 128 * i) (at + 128 * i + 128 - (at + 128 * i)) d e) d₀
  turns-next {e} i w h g =
      let n : 128 * i + 128 ≡ 128 * (i + 1) = omega arith in
      subst (λ (k : ℕ). Written ys at k (put_mid (at + 128 * i) (at + 128 * i + 128 - (at + 128 * i)) d e) d₀) n
      (piece-next (128 * i) 128 w (omega arith) g)

  pub turns-end : {e : List A} (i : ℕ) → Written ys at (128 * i) d d₀ → length ys / 128 ≤ i → i ≤ length ys / 128
      → e ≡ take (length ys - 128 * (length ys / 128)) (drop (128 * (length ys / 128)) ys)
      → Put d₀ at ys (put_mid (at + 128 * (length ys / 128)) (at + length ys - (at + 128 * (length ys / 128))) d e)
  turns-end {e} i w h k g =
      let r : ℕ = 128 * (length ys / 128) in
      let w' : Written ys at r d d₀ = subst (λ (n : ℕ). Written ys at n d d₀) (omega arith) w in
      let q : e ≡ drop r ys = g ∙ take_all (length ys - r) (drop r ys) (omega (arith, length-drop r ys)) in
      let l : length e ≡ length ys - r = ap length q ∙ length-drop r ys in
      write-ends
      (write-piece w' {j = length ys} (put_part (at + r) (at + length ys - (at + r)) (omega arith))
      (sym (append-nil (drop r ys)) ∙ ap (λ (m : List A). m ++ []) (sym q) ∙ ap (λ (m : List A). e ++ m) (sym (drop_of_length-le ys {i = length ys} (omega arith))))
      (omega arith)
      (omega arith))
      (omega arith)

  -- the same where the last 128 are copied whole, of which some may be written already
  pub turns-more : {e : List A} (i : ℕ) → Written ys at (128 * i) d d₀ → i < (length ys - 1) / 128
      → e ≡ take (128 * i + 128 - 128 * i) (drop (128 * i) ys)
      → Written ys at (128 * (i + 1)) (put_mid (at + 128 * i) (at + 128 * i + 128 - (at + 128 * i)) d e) d₀
  turns-more i w h g = turns-next i w (omega arith) g

  pub turns-last : {e : List A} (i : ℕ) → Written ys at (128 * i) d d₀ → (length ys - 1) / 128 ≤ i → 128 ≤ length ys
      → e ≡ take (length ys - 128 + 128 - (length ys - 128)) (drop (length ys - 128) ys)
      → Put d₀ at ys (put_mid (at + (length ys - 128)) (at + (length ys - 128) + 128 - (at + (length ys - 128))) d e)
  turns-last {e} i w k h g =
      let j : ℕ = length ys - 128 in
      let n : j + 128 - j ≡ 128 = omega arith in
      let q : e ≡ take 128 (drop j ys) = g ∙ ap (λ (m : ℕ). take m (drop j ys)) n in
      let l : length e ≡ 128 = ap length q ∙ part-long ys j 128 (omega arith) in
      copy-last w 128 h (omega arith)
      (subst (λ (xs : List A). Put d (at + j) xs (put_mid (at + j) (at + j + 128 - (at + j)) d e)) q (put_part (at + j) (at + j + 128 - (at + j)) (omega arith)))

pub ruleset turning = (turns-next, turns-end, turns-more, turns-last)

pub ruleset copying = (write-begins, write-room, copy-next, write-ends)

-- the first k elements, and then the rest
pub few-long : {n k : ℕ} → k ≤ 16 → 80 ≤ n → k ≤ n
few-long h g = omega arith

pub few-room : {A : Type 0} (ys d : List A) (at k : ℕ) → at + length ys ≤ length d → k ≤ length ys → at + length (take k ys) ≤ length d
few-room ys d at k r h = omega (arith, length-take-le k ys h)

module _ {A : Type 0} {ys d e g : List A} {at : ℕ} where
  pub copy-both : (k : ℕ) → Put d at (take k ys) e → Put e (at + k) (take (length ys - k) (drop k ys)) g
      → k ≤ 16 → 80 ≤ length ys → at + length ys ≤ length d → Put d at ys g
  copy-both k p q l n r =
      let h = length-take-le k ys (omega arith) in
      let u = take_all (length ys - k) (drop k ys) (omega (arith, length-drop k ys)) in
      subst (λ (l : List A). Put d at l g)
      (ap (λ (l : List A). take k ys ++ l) u ∙ take-append-drop k ys)
      (put_next p q (omega arith) (omega (arith, ap length u, length-drop k ys)))

pub ruleset few_copying = (few-long, few-room, length-take-le, copy-both)

pub ruleset behind = (first-room, second-room, both_end, next-room, other-room, both-put)

-- the same from the start of a buffer
module _ {A : Type 0} where
  pub front-begins : {ys d : List A} → length ys ≤ length d → Written ys 0 0 d d
  front-begins h = write-begins (omega arith)

module _ {A : Type 0} {ys d d₀ : List A} {i : ℕ} (w : Written ys 0 i d d₀) where
  pub front-next : {v : A} (z : A) → i < length ys → v ≡ get_or ys i z → Written ys 0 (i + 1) (set d i v) d₀
  front-next {v} z h e = subst (λ (k : ℕ). Written ys 0 (i + 1) (set d k v) d₀) (zero-add i) (write-next w z h e)

  pub front-piece : {xs e : List A} {j : ℕ} → Put d i xs e → drop i ys ≡ xs ++ drop j ys → j ≡ i + length xs → j ≤ length ys → Written ys 0 j e d₀
  front-piece {xs} {e} p = write-piece w (subst (λ (k : ℕ). Put d k xs e) (sym (zero-add i)) p)

  pub front_ends : length ys ≤ i → d ≡ front ys d₀
  front_ends h = put_front (write-ends w h)

-- 128 elements of a buffer as long, sixteen at a turn
module _ {A : Type 0} (ys : List A) {d d₀ : List A} (n : length ys ≡ 128) where
  pub sixteens-next : {e : List A} (k : ℕ) → Written ys 0 (16 * k) d d₀ → k < 8 → e ≡ take (16 * k + 16 - 16 * k) (drop (16 * k) ys)
      → Written ys 0 (16 * (k + 1)) (put_mid (16 * k) (16 * k + 16 - 16 * k) d e) d₀
  sixteens-next {e} k w h g =
      let m : 16 * k + 16 ≡ 16 * (k + 1) = omega arith in
      subst (λ (z : ℕ). Written ys 0 z (put_mid (16 * k) (16 * k + 16 - 16 * k) d e) d₀) m
      (subst (λ (x : ℕ). Written ys 0 (16 * k + 16) (put_mid x (x + 16 - x) d e) d₀) (zero-add (16 * k)) (piece-next ys 0 (16 * k) 16 w (omega arith) g))

  pub sixteens-end : (k : ℕ) → Written ys 0 (16 * k) d d₀ → 8 ≤ k → length d₀ ≡ 128 → d ≡ ys
  sixteens-end k w h l = front_ends w (omega arith) ∙ front-whole d₀ ys (omega arith)

pub ruleset sixteens = (front-begins, sixteens-next, sixteens-end)
