-- Laws of lists in turn: what was put in turn is picked again, and where an element of a picked list stands. Assumes nothing.
use mathlib.Core.Path.{◌≡◌, refl, sym, ap, ◌∙◌, subst}
use mathlib.Core.List.{List, [], ◌∷◌, ◌++◌, map, append_assoc, append-nil}
use Prim.Native.Nat.{ℕ, zero, suc, ◌+◌, ◌-◌, ◌*◌, ◌/◌, ◌%◌, ◌≤◌, ◌<◌}
use native.Mathlib.Omega.{arith}
use native.Mathlib.Nat.{mul-zero, zero-mul, mul-suc, suc-mul, add-zero, zero-add, le_trans, mod-lt, div-add-mod', div-lt_iff_lt-mul}
use native.Mathlib.Numerals.{add-one}
use lib.ListN.{length, take, drop, get_or, length-append, length-take, length-drop, take-append-drop, get_or-append}
use lib.Seq.{take_at, drop_at, drop-cons, drop-drop, length-take-le, take-append-add, get_or-take, get_or-drop, get_or-append-add}
use Rattle.lists.specs.Turns.{values, joined, in_turn, picked}

-- ---- all lists have m elements
abbrev pub Long : {A : Type 0} → ℕ → List (List A) → Type 0
Long m [] = Unit {0}
Long m (l ∷ ls) = (length l ≡ m) × Long m ls

module _ {A : Type 0} where
  -- ---- picking goes by what stands behind a place
  pub picked-drop : (w stride : ℕ) (s : List A) (at n : ℕ) → picked w stride s at n ≡ picked w stride (drop at s) 0 n
  unfolding picked
  picked-drop w stride s at zero = refl
  picked-drop w stride s at (suc n) =
      ap (λ (l : List A). take w (drop at s) ++ l)
      (picked-drop w stride s (at + stride) n
      ∙ ap (λ (l : List A). picked w stride l 0 n) (sym (drop-drop stride at s))
      ∙ sym (picked-drop w stride (drop at s) stride n)
      ∙ ap (λ (k : ℕ). picked w stride (drop at s) k n) (sym (zero-add stride)))

  pub picked-shift : (w stride : ℕ) (p s : List A) (k at n : ℕ) → length p ≡ k → picked w stride (p ++ s) (k + at) n ≡ picked w stride s at n
  picked-shift w stride p s k at n e =
      picked-drop w stride (p ++ s) (k + at) n
      ∙ ap (λ (l : List A). picked w stride l 0 n) (sym (drop-drop at k (p ++ s)) ∙ ap (drop at) (drop_at p s k e))
      ∙ sym (picked-drop w stride s at n)

  -- ---- one round: the first w elements of each list
  round-long : (w m : ℕ) (ls : List (List A)) → Long m ls → w ≤ m → length (joined (map (take w) ls)) ≡ w * length ls
  unfolding joined
  round-long w m [] e h = sym (mul-zero w)
  round-long w m (l ∷ ls) e h =
      length-append (take w l) (joined (map (take w) ls))
      ∙ omega (arith, length-take-le w l (le_trans h (omega (arith, e.0))), round-long w m ls e.1 h, mul-suc w (length ls))

  round-at : (w m : ℕ) (ls : List (List A)) (r : List A) (ch : ℕ) → Long m ls → w ≤ m → ch < length ls → take w (drop (w * ch) (joined (map (take w) ls) ++ r)) ≡ take w (get_or ls ch [])
  unfolding joined
  round-at w m [] r ch e h g = absurd (omega arith)
  round-at w m (l ∷ ls) r zero e h g =
      ap (λ (k : ℕ). take w (drop k (take w l ++ joined (map (take w) ls) ++ r))) (mul-zero w)
      ∙ ap (take w) (append_assoc (take w l) (joined (map (take w) ls)) r)
      ∙ take_at (take w l) (joined (map (take w) ls) ++ r) w (length-take-le w l (le_trans h (omega (arith, e.0))))
  round-at w m (l ∷ ls) r (suc ch) e h g =
      let a : w * suc ch ≡ w + w * ch = omega (arith, mul-suc w ch) in
      ap (λ (k : ℕ). take w (drop k (take w l ++ joined (map (take w) ls) ++ r))) a
      ∙ ap (take w)
      (sym (drop-drop (w * ch) w (take w l ++ joined (map (take w) ls) ++ r))
      ∙ ap (drop (w * ch))
      (ap (drop w) (append_assoc (take w l) (joined (map (take w) ls)) r)
      ∙ drop_at (take w l) (joined (map (take w) ls) ++ r) w (length-take-le w l (le_trans h (omega (arith, e.0))))))
      ∙ round-at w m ls r ch e.1 h (omega arith)

  drops-long : (w m : ℕ) (ls : List (List A)) → Long (m + w) ls → Long m (map (drop w) ls)
  drops-long w m [] e = tt
  drops-long w m (l ∷ ls) e = (omega (arith, length-drop w l, e.0), drops-long w m ls e.1)

  drops-count : (w : ℕ) (ls : List (List A)) → length (map (drop w) ls) ≡ length ls
  drops-count w [] = refl
  drops-count w (l ∷ ls) = ap suc (drops-count w ls)

  drops-at : (w : ℕ) (ls : List (List A)) (ch : ℕ) → ch < length ls → get_or (map (drop w) ls) ch [] ≡ drop w (get_or ls ch [])
  drops-at w [] ch h = absurd (omega arith)
  drops-at w (l ∷ ls) zero h = refl
  drops-at w (l ∷ ls) (suc ch) h = drops-at w ls ch (omega arith)

  long-at : (m : ℕ) (ls : List (List A)) (ch : ℕ) → Long m ls → ch < length ls → length (get_or ls ch []) ≡ m
  long-at m [] ch e h = absurd (omega arith)
  long-at m (l ∷ ls) zero e h = e.0
  long-at m (l ∷ ls) (suc ch) e h = long-at m ls ch e.1 (omega arith)

  nothing : (l : List A) → length l ≡ 0 → [] ≡ l
  nothing [] e = refl
  nothing (x ∷ l) e = absurd (omega arith)

  -- what was put in turn is picked again
  pub picked-turn : (w n : ℕ) (ls : List (List A)) (ch : ℕ) → Long (w * n) ls → ch < length ls → picked w (w * length ls) (in_turn w n ls) (w * ch) n ≡ get_or ls ch []
  unfolding picked in_turn
  picked-turn w zero ls ch e h = nothing (get_or ls ch []) (long-at (w * 0) ls ch e h ∙ mul-zero w)
  picked-turn w (suc n) ls ch e h =
      let j : List A = joined (map (take w) ls) in
      let r : List A = in_turn w n (map (drop w) ls) in
      let e' : Long (w * n + w) ls = subst (λ (k : ℕ). Long k ls) (mul-suc w n) e in
      let i : w ≤ w * n + w = omega arith in
      let a : w * ch + w * length ls ≡ w * length ls + w * ch = omega arith in
      ap (λ (l : List A). l ++ picked w (w * length ls) (j ++ r) (w * ch + w * length ls) n) (round-at w (w * n + w) ls r ch e' i h)
      ∙ ap (λ (l : List A). take w (get_or ls ch []) ++ l)
      (ap (λ (k : ℕ). picked w (w * length ls) (j ++ r) k n) a
      ∙ picked-shift w (w * length ls) j r (w * length ls) (w * ch) n (round-long w (w * n + w) ls e' i)
      ∙ ap (λ (k : ℕ). picked w (w * k) r (w * ch) n) (sym (drops-count w ls))
      ∙ picked-turn w n (map (drop w) ls) ch (drops-long w (w * n) ls e') (omega (arith, drops-count w ls))
      ∙ drops-at w ls ch h)
      ∙ take-append-drop w (get_or ls ch [])

  -- ---- one list in turn with none is that list
  pub turn_one : (w n : ℕ) (l : List A) → length l ≡ w * n → in_turn w n (l ∷ []) ≡ l
  unfolding in_turn joined
  turn_one w zero l e = nothing l (e ∙ mul-zero w)
  turn_one w (suc n) l e =
      ap (λ (r : List A). r ++ in_turn w n (drop w l ∷ [])) (append-nil (take w l))
      ∙ ap (λ (r : List A). take w l ++ r) (turn_one w n (drop w l) (omega (arith, length-drop w l, mul-suc w n)))
      ∙ take-append-drop w l

  -- ---- n times w elements of each list are no more than that
  round_room : (w : ℕ) (ls : List (List A)) → length (joined (map (take w) ls)) ≤ w * length ls
  unfolding joined
  round_room w [] = omega arith
  round_room w (l ∷ ls) =
      omega (arith, length-append (take w l) (joined (map (take w) ls)), length-take w l, round_room w ls, mul-suc w (length ls))

  pub turn-room : (w n : ℕ) (ls : List (List A)) → length (in_turn w n ls) ≤ w * length ls * n
  unfolding in_turn
  turn-room w zero ls = omega arith
  turn-room w (suc n) ls =
      let r = ap (λ (k : ℕ). w * k * n) (drops-count w ls) in
      omega (
        arith,
        length-append (joined (map (take w) ls)) (in_turn w n (map (drop w) ls)),
        round_room w ls,
        turn-room w n (map (drop w) ls),
        mul-suc (w * length ls) n,
      )

  -- ---- where an element of what is picked stands, and how many there are: four at a time
  module _ (stride : ℕ) (s : List A) where
    module _ (at n j : ℕ) (d : A) (h : at + stride * suc n + 4 ≤ length s + stride) where
      four : length (take 4 (drop at s)) ≡ 4
      four = length-take-le 4 (drop at s) (omega (arith, length-drop at s, mul-suc stride n))

      picked_first : j < 4 → get_or (picked 4 stride s at (suc n)) j d ≡ get_or s (at + stride * (j / 4) + j % 4) d
      unfolding picked
      picked_first k =
          let q : j / 4 ≡ 0 = omega arith in
          let e : at + j ≡ at + stride * (j / 4) + j % 4 = omega (arith, ap (λ (m : ℕ). stride * m) q, mul-zero stride) in
          get_or-append (take 4 (drop at s)) (picked 4 stride s (at + stride) n) d j (omega (arith, four))
          ∙ get_or-take 4 (drop at s) j d k
          ∙ get_or-drop at s j d
          ∙ ap (λ (m : ℕ). get_or s m d) e

      picked-later : get_or (picked 4 stride s (at + stride) n) j d ≡ get_or s (at + stride + stride * (j / 4) + j % 4) d
          → get_or (picked 4 stride s at (suc n)) (4 + j) d ≡ get_or s (at + stride * ((4 + j) / 4) + (4 + j) % 4) d
      unfolding picked
      picked-later r =
          let q : (4 + j) / 4 ≡ suc (j / 4) = omega arith in
          let e : at + stride + stride * (j / 4) + j % 4 ≡ at + stride * ((4 + j) / 4) + (4 + j) % 4 =
          omega (arith, ap (λ (m : ℕ). stride * m) q, mul-suc stride (j / 4)) in
          ap (λ (m : ℕ). get_or (take 4 (drop at s) ++ picked 4 stride s (at + stride) n) (m + j) d) (sym four)
          ∙ get_or-append-add (take 4 (drop at s)) (picked 4 stride s (at + stride) n) j d
          ∙ r
          ∙ ap (λ (m : ℕ). get_or s m d) e

    pub picked-at : (at n j : ℕ) (d : A) → at + stride * n + 4 ≤ length s + stride → j < 4 * n → get_or (picked 4 stride s at n) j d ≡ get_or s (at + stride * (j / 4) + j % 4) d
    picked-at at zero j d h g = absurd (omega arith)
    picked-at at (suc n) zero d h g = picked_first at n 0 d h (omega arith)
    picked-at at (suc n) (suc zero) d h g = picked_first at n 1 d h (omega arith)
    picked-at at (suc n) (suc (suc zero)) d h g = picked_first at n 2 d h (omega arith)
    picked-at at (suc n) (suc (suc (suc zero))) d h g = picked_first at n 3 d h (omega arith)
    picked-at at (suc n) (suc (suc (suc (suc j)))) d h g =
        subst (λ (k : ℕ). get_or (picked 4 stride s at (suc n)) k d ≡ get_or s (at + stride * (k / 4) + k % 4) d) (four-more j)
        (picked-later at n j d h (picked-at (at + stride) n j d (omega (arith, mul-suc stride n)) (omega arith)))
      where
        four-more : (j : ℕ) → 4 + j ≡ suc (suc (suc (suc j)))
        four-more j = omega arith

  pub picked-long : (stride : ℕ) (s : List A) (at n : ℕ) → at + stride * n + 4 ≤ length s + stride → length (picked 4 stride s at n) ≡ 4 * n
  unfolding picked
  picked-long stride s at zero h = refl
  picked-long stride s at (suc n) h =
      length-append (take 4 (drop at s)) (picked 4 stride s (at + stride) n)
      ∙ omega (arith, length-take-le 4 (drop at s) (omega (arith, length-drop at s, mul-suc stride n)), picked-long stride s (at + stride) n (omega (arith, mul-suc stride n)))

  -- ---- pieces of one length, one after the other
  pub joined-next : (f : ℕ → List A) (i n : ℕ) → i < n → joined (values f i (n - i)) ≡ f i ++ joined (values f (i + 1) (n - (i + 1)))
  unfolding values joined
  joined-next f i n h =
      let a : n - i ≡ suc (n - (i + 1)) = omega arith in
      ap (λ (k : ℕ). joined (values f i k)) a ∙ ap (λ (k : ℕ). f i ++ joined (values f k (n - (i + 1)))) (sym (add-one i))

  -- how long they are, where each of them has a elements; and piece k
  pub pieces-long : (f : ℕ → List A) (a i n : ℕ) → ((k : ℕ) → i ≤ k → k < i + n → length (f k) ≡ a) → length (joined (values f i n)) ≡ n * a
  unfolding values joined
  pieces-long f a i zero e = sym (zero-mul a)
  pieces-long f a i (suc n) e =
      length-append (f i) (joined (values f (suc i) n))
      ∙ omega (arith, e i (omega arith) (omega arith), pieces-long f a (suc i) n (λ k h g. e k (omega arith) (omega arith)), suc-mul n a)

  pub joined-long : (f : ℕ → List A) (a i n : ℕ) → ((k : ℕ) → length (f k) ≡ a) → length (joined (values f i n)) ≡ n * a
  joined-long f a i n e = pieces-long f a i n (λ k h g. e k)

  pub piece-at : (f : ℕ → List A) (a i n k : ℕ) → ((k : ℕ) → i ≤ k → k < i + n → length (f k) ≡ a) → k < n
      → take a (drop (k * a) (joined (values f i n))) ≡ f (i + k)
  unfolding values joined
  piece-at f a i zero k e h = absurd (omega arith)
  piece-at f a i (suc n) zero e h =
      ap (λ (m : ℕ). take a (drop m (f i ++ joined (values f (suc i) n)))) (zero-mul a)
      ∙ take_at (f i) (joined (values f (suc i) n)) a (e i (omega arith) (omega arith))
      ∙ ap f (sym (add-zero i))
  piece-at f a i (suc n) (suc k) e h =
      let m : suc k * a ≡ a + k * a = omega (arith, suc-mul k a) in
      let j : suc i + k ≡ i + suc k = omega arith in
      let l : length (f i) ≡ a = e i (omega arith) (omega arith) in
      ap (λ (m : ℕ). take a (drop m (f i ++ joined (values f (suc i) n)))) m
      ∙ ap (take a)
      (sym (drop-drop (k * a) a (f i ++ joined (values f (suc i) n)))
      ∙ ap (drop (k * a)) (drop_at (f i) (joined (values f (suc i) n)) a l))
      ∙ piece-at f a (suc i) n k (λ k h g. e k (omega arith) (omega arith)) (omega arith)
      ∙ ap f j

  pub joined_at : (f : ℕ → List A) (a i n k : ℕ) → ((k : ℕ) → length (f k) ≡ a) → k < n → take a (drop (k * a) (joined (values f i n))) ≡ f (i + k)
  joined_at f a i n k e h = piece-at f a i n k (λ k h g. e k) h

  -- ---- where every list has as many, how many there are
  pub turn-long : (w n : ℕ) (ls : List (List A)) → Long (w * n) ls → length (in_turn w n ls) ≡ w * length ls * n
  unfolding in_turn
  turn-long w zero ls e = sym (mul-zero (w * length ls))
  turn-long w (suc n) ls e =
      let e' : Long (w * n + w) ls = subst (λ (k : ℕ). Long k ls) (mul-suc w n) e in
      let r = ap (λ (k : ℕ). w * k * n) (drops-count w ls) in
      length-append (joined (map (take w) ls)) (in_turn w n (map (drop w) ls))
      ∙ omega (
        arith,
        round-long w (w * n + w) ls e' (omega arith),
        turn-long w n (map (drop w) ls) (drops-long w (w * n) ls e'),
        mul-suc (w * length ls) n,
      )

  -- ---- two lists: the next w elements of each
  pub turn_two : (w n : ℕ) (a b p q : List A) → length a ≡ w → length b ≡ w → in_turn w (suc n) ((a ++ p) ∷ (b ++ q) ∷ []) ≡ a ++ (b ++ in_turn w n (p ∷ q ∷ []))
  unfolding in_turn joined
  turn_two w n a b p q e f =
      rw (take_at a p w e, take_at b q w f, drop_at a p w e, drop_at b q w f, append-nil b) (append_assoc a b (in_turn w n (p ∷ q ∷ [])))

  -- ---- the values of a function
  pub values-long : (f : ℕ → A) (i n : ℕ) → length (values f i n) ≡ n
  unfolding values
  values-long f i zero = refl
  values-long f i (suc n) = ap suc (values-long f (suc i) n)

  pub values-at : (f : ℕ → A) (i n k : ℕ) (d : A) → k < n → get_or (values f i n) k d ≡ f (i + k)
  unfolding values
  values-at f i zero k d h = absurd (omega arith)
  values-at f i (suc n) zero d h = ap f (sym (add-zero i))
  values-at f i (suc n) (suc k) d h =
      let e : suc i + k ≡ i + suc k = omega arith in
      values-at f (suc i) n k d (omega arith) ∙ ap f e

  -- element i of pieces of one length
  pub joined-element : (f : ℕ → List A) (a n i : ℕ) (d : A) → ((k : ℕ) → length (f k) ≡ a) → 1 ≤ a → i < n * a
      → get_or (joined (values f 0 n)) i d ≡ get_or (f (i / a)) (i % a) d
  joined-element f a n i d e h g =
      let k : ℕ = i / a in
      let j : ℕ = i % a in
      let p : i ≡ k * a + j = sym (div-add-mod' i a) in
      let q : k < n = (div-lt_iff_lt-mul {x = i} {y = n} h).1 g in
      let z : 0 + k ≡ k = zero-add k in
      ap (λ (m : ℕ). get_or (joined (values f 0 n)) m d) p
      ∙ sym (get_or-drop (k * a) (joined (values f 0 n)) j d)
      ∙ sym (get_or-take a (drop (k * a) (joined (values f 0 n))) j d (mod-lt i h))
      ∙ ap (λ (l : List A). get_or l j d) (joined_at f a 0 n k e q)
      ∙ ap (λ (m : ℕ). get_or (f m) j d) z

  -- ---- one element of each list in turn: where an element stands
  first-at : (n : ℕ) (ls : List (List A)) (ch : ℕ) (d : A) → Long (suc n) ls → ch < length ls
      → get_or (joined (map (take 1) ls)) ch d ≡ get_or (get_or ls ch []) 0 d
  unfolding joined
  first-at n [] ch d e h = absurd (omega arith)
  first-at n ([] ∷ ls) ch d e h = absurd (omega (arith, e.0))
  first-at n ((x ∷ l) ∷ ls) zero d e h = refl
  first-at n ((x ∷ l) ∷ ls) (suc ch) d e h = first-at n ls ch d e.1 (omega arith)

  pub turn-element : (n : ℕ) (ls : List (List A)) (j ch : ℕ) (d : A) → Long n ls → j < n → ch < length ls
      → get_or (in_turn 1 n ls) (length ls * j + ch) d ≡ get_or (get_or ls ch []) j d
  unfolding in_turn
  turn-element zero ls j ch d e h g = absurd (omega arith)
  turn-element (suc n) ls zero ch d e h g =
      let k : length ls * 0 + ch ≡ ch = omega (arith, mul-zero (length ls)) in
      let l = round-long 1 (suc n) ls e (omega arith) in
      ap (λ (m : ℕ). get_or (joined (map (take 1) ls) ++ in_turn 1 n (map (drop 1) ls)) m d) k
      ∙ get_or-append (joined (map (take 1) ls)) (in_turn 1 n (map (drop 1) ls)) d ch (omega arith)
      ∙ first-at n ls ch d e g
  turn-element (suc n) ls (suc j) ch d e h g =
      let js : List A = joined (map (take 1) ls) in
      let l : length js ≡ length ls = round-long 1 (suc n) ls e (omega arith) ∙ omega arith in
      let k : length ls * suc j + ch ≡ length js + (length (map (drop 1) ls) * j + ch) =
      omega (arith, mul-suc (length ls) j, ap (λ (m : ℕ). m * j) (drops-count 1 ls)) in
      let e' : Long (n + 1) ls = subst (λ (m : ℕ). Long m ls) (sym (add-one n)) e in
      let a : 1 + j ≡ suc j = omega arith in
      ap (λ (m : ℕ). get_or (js ++ in_turn 1 n (map (drop 1) ls)) m d) k
      ∙ get_or-append-add js (in_turn 1 n (map (drop 1) ls)) (length (map (drop 1) ls) * j + ch) d
      ∙ turn-element n (map (drop 1) ls) j ch d (drops-long 1 n ls e') (omega arith) (omega (arith, drops-count 1 ls))
      ∙ ap (λ (m : List A). get_or m j d) (drops-at 1 ls ch g)
      ∙ get_or-drop 1 (get_or ls ch []) j d
      ∙ ap (λ (m : ℕ). get_or (get_or ls ch []) m d) a

  -- ---- one element at a time: where an element of what is picked stands, how many there are, and all of a list
  picked_next : (stride : ℕ) (s : List A) (at n : ℕ) (d : A) → at < length s
      → picked 1 stride s at (suc n) ≡ get_or s at d ∷ picked 1 stride s (at + stride) n
  unfolding picked
  picked_next stride s at n d h = ap (λ (l : List A). take 1 l ++ picked 1 stride s (at + stride) n) (drop-cons s at d h)

  pub picked-one-at : (stride : ℕ) (s : List A) (at n j : ℕ) (d : A) → at + stride * n + 1 ≤ length s + stride → j < n
      → get_or (picked 1 stride s at n) j d ≡ get_or s (at + stride * j) d
  picked-one-at stride s at zero j d h g = absurd (omega arith)
  picked-one-at stride s at (suc n) zero d h g =
      let e : at ≡ at + stride * 0 = omega (arith, mul-zero stride) in
      ap (λ (l : List A). get_or l 0 d) (picked_next stride s at n d (omega (arith, mul-suc stride n))) ∙ ap (λ (m : ℕ). get_or s m d) e
  picked-one-at stride s at (suc n) (suc j) d h g =
      let e : at + stride + stride * j ≡ at + stride * suc j = omega (arith, mul-suc stride j) in
      ap (λ (l : List A). get_or l (suc j) d) (picked_next stride s at n d (omega (arith, mul-suc stride n)))
      ∙ picked-one-at stride s (at + stride) n j d (omega (arith, mul-suc stride n)) (omega arith)
      ∙ ap (λ (m : ℕ). get_or s m d) e

  pub picked-one-long : (stride : ℕ) (s : List A) (at n : ℕ) → at + stride * n + 1 ≤ length s + stride
      → length (picked 1 stride s at n) ≡ n
  unfolding picked
  picked-one-long stride s at zero h = refl
  picked-one-long stride s at (suc n) h =
      length-append (take 1 (drop at s)) (picked 1 stride s (at + stride) n)
      ∙ omega (
        arith,
        length-take-le 1 (drop at s) (omega (arith, length-drop at s, mul-suc stride n)),
        picked-one-long stride s (at + stride) n (omega (arith, mul-suc stride n)),
      )

  pub picked_all : (s : List A) (n : ℕ) → n ≡ length s → picked 1 1 s 0 n ≡ s
  picked_all s n e =
      let l : length s ≡ 1 * n = omega arith in
      ap (λ (r : List A). picked 1 1 r 0 n) (sym (turn_one 1 n s l)) ∙ picked-turn 1 n (s ∷ []) 0 (l, tt) (omega arith)

  -- ---- the first n of m turns
  pub turn-first : (n m : ℕ) (ls : List (List A)) → n ≤ m → Long m ls → in_turn 1 n ls ≡ take (n * length ls) (in_turn 1 m ls)
  unfolding in_turn
  turn-first zero m ls h e = ap (λ (k : ℕ). take k (in_turn 1 m ls)) (sym (zero-mul (length ls)))
  turn-first (suc n) zero ls h e = absurd (omega arith)
  turn-first (suc n) (suc m) ls h e =
      let js : List A = joined (map (take 1) ls) in
      let ds : List (List A) = map (drop 1) ls in
      let k : length js + n * length ds ≡ suc n * length ls =
      omega (arith, round-long 1 (suc m) ls e (omega arith), suc-mul n (length ls), ap (λ (c : ℕ). n * c) (drops-count 1 ls)) in
      let e' : Long (m + 1) ls = subst (λ (k : ℕ). Long k ls) (sym (add-one m)) e in
      ap (λ (l : List A). js ++ l) (turn-first n m ds (omega arith) (drops-long 1 m ls e'))
      ∙ sym (take-append-add js (in_turn 1 m ds) (n * length ds))
      ∙ ap (λ (k : ℕ). take k (js ++ in_turn 1 m ds)) k

  -- ---- values that are lists of one length
  pub values-alike : (f : ℕ → List A) (m i n : ℕ) → ((k : ℕ) → i ≤ k → k < i + n → length (f k) ≡ m) → Long m (values f i n)
  unfolding values
  values-alike f m i zero e = tt
  values-alike f m i (suc n) e = (e i (omega arith) (omega arith), values-alike f m (suc i) n (λ k h g. e k (omega arith) (omega arith)))
