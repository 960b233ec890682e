-- Laws of the loops over a block's codes: up to a place all is written, what is heard from the next code on is left, and every
-- turn writes the samples of its codes. Good is what a state must keep for its next step. Assumes nothing.
use mathlib.Core.Path.{◌≡◌, refl, ap, ◌∙◌}
use mathlib.Core.List.{List, [], ◌∷◌, ◌++◌}
use Prim.Native.Nat.{ℕ, suc, ◌+◌, ◌-◌, ◌*◌, ◌≤◌, ◌<◌}
use native.Mathlib.Omega.{arith}
use lib.IntN.{ℤ}
use lib.ListN.{length, take, drop, get_or, set}
use mir.Syntax.{w16}
use mir.Val.{SFits}
use mir.Facts.{to_z-of_z}
use Rattle.little.specs.Writing.{Put}
use Rattle.little.proofs.Filling.{Filled, two-stores, filled_none, filled-store, filled-piece, filled_put}
use Rattle.lists.specs.Turns.{joined, in_turn}
use Rattle.samples.proofs.Signed.{back}
use Rattle.codec.specs.Codec.{Codec, heard_from, nibbles}
use Rattle.codec.proofs.Heard.{code-next, byte_next}

-- ---- one channel, two codes in a byte: n frames are left, from byte i of s on
abbrev one_left : {S : Type 0} → Codec S → (ℕ → ℕ) → (ℕ → ℕ) → List ℕ → ℕ → S → ℕ → List ℤ
one_left k first second s n t i = in_turn 1 n (heard_from k t (nibbles first second (drop i s)) ∷ [])

pub record Single {S : Type 0} (k : Codec S) (Good : S → Type 0) (first second : ℕ → ℕ) (s : List ℕ) (from frames : ℕ)
    (out₀ : List ℤ) (at : ℕ) (t₀ : S) (out : List ℤ) (t : S) (n to i : ℕ) : Type 0 where
  pub good : Good t
  pub bytes : n + 2 * i ≤ 2 * length s
  pub room : to + n ≤ length out
  pub start : at ≤ length out₀
  pub filled : Filled (take at out₀ ++ one_left k first second s frames t₀ from) (one_left k first second s n t i) to out out₀

module _ {S : Type 0} {k : Codec S} {Good : S → Type 0} {first second : ℕ → ℕ}
    {s : List ℕ} {from frames : ℕ} {out₀ : List ℤ} {at : ℕ} {t₀ : S} where
  module _ {out : List ℤ} {t : S} {n to i : ℕ} (w : Single k Good first second s from frames out₀ at t₀ out t n to i) where
    pub single-byte : 2 ≤ n → i < length s
    single-byte h = omega (arith, w.bytes)

    -- a turn: the two frames of a byte
    module _ (h : 2 ≤ n) {x y : S} (e : x ≡ k.step t (first (get_or s i 0))) (f : y ≡ k.step x (second (get_or s i 0))) where
      single-two : one_left k first second s n t i ≡ (k.sample x ∷ k.sample y ∷ []) ++ one_left k first second s (n - 2) y (i + 1)
      unfolding in_turn joined
      single-two =
          let m : n ≡ suc (suc (n - 2)) = omega arith in
          ap (λ (j : ℕ). one_left k first second s j t i) m
          ∙ ap (λ (l : List ℤ). in_turn 1 (suc (suc (n - 2))) (l ∷ [])) (byte_next k first second t s i (single-byte h) e f)

      pub single-turn : {m p q j : ℕ} → m ≡ n - 2 → p ≡ to + 1 → q ≡ to + 2 → j ≡ i + 1
          → {u v : ℤ} → u ≡ back w16 (k.sample x) → v ≡ back w16 (k.sample y)
          → Good y → SFits w16 (k.sample x) → SFits w16 (k.sample y)
          → Single k Good first second s from frames out₀ at t₀ (set (set out to u) p v) y m q j
      single-turn c d o l u' v' g a b =
          let z = filled-piece w.filled (two-stores (omega (arith, w.room))) single-two refl (omega (arith, w.room)) in
          rw (u', v', to_z-of_z a, to_z-of_z b, c, d, o, l)
          (record {
            good = g;
            bytes = omega (arith, w.bytes);
            room = omega (arith, w.room, z.long, w.filled.long);
            start = w.start;
            filled = z;
          })

    -- an odd frame is the last: the first code of the next byte
    module _ (h : n ≡ 1) where
      pub single-last : i < length s
      single-last = omega (arith, w.bytes)

      pub single-odd : {x : S} {p j : ℕ} {u : ℤ} → p ≡ to → j ≡ i → x ≡ k.step t (first (get_or s j 0)) → u ≡ back w16 (k.sample x)
          → SFits w16 (k.sample x) → Put out₀ at (one_left k first second s frames t₀ from) (set out p u)
      unfolding in_turn joined
      single-odd c d q u' a =
          let e = rw d at q in
          let m = ap (λ (j : ℕ). one_left k first second s j t i) h
          ∙ ap (λ (l : List ℤ). in_turn 1 1 (l ∷ [])) (byte_next k first second t s i single-last e refl) in
          rw (u', to_z-of_z a, c) (filled_put (filled-store w.filled m (omega (arith, w.room)) refl) w.start)

    pub single-even : n < 2 → (n ≡ 1 → ⊥) → Put out₀ at (one_left k first second s frames t₀ from) out
    unfolding in_turn
    single-even h g =
        let e : n ≡ 0 = omega arith in
        filled_put (rw e at w.filled) w.start

-- ---- two channels: n frames are left, from code j of ls and of rs on
abbrev pub both_left : {S : Type 0} → Codec S → List ℕ → List ℕ → ℕ → S → S → ℕ → List ℤ
both_left k ls rs n l r j = in_turn 1 n (heard_from k l (drop j ls) ∷ heard_from k r (drop j rs) ∷ [])

pub record Double {S : Type 0} (k : Codec S) (Good : S → Type 0) (ls rs : List ℕ) (frames : ℕ)
    (out₀ : List ℤ) (at : ℕ) (l₀ r₀ : S) (out : List ℤ) (l r : S) (n to j : ℕ) : Type 0 where
  pub good_left : Good l
  pub good_right : Good r
  pub left-codes : j + n ≤ length ls
  pub right-codes : j + n ≤ length rs
  pub room : to + 2 * n ≤ length out
  pub start : at ≤ length out₀
  pub filled : Filled (take at out₀ ++ both_left k ls rs frames l₀ r₀ 0) (both_left k ls rs n l r j) to out out₀

module _ {S : Type 0} {k : Codec S} {Good : S → Type 0} {ls rs : List ℕ} {frames : ℕ} {out₀ : List ℤ} {at : ℕ} {l₀ r₀ : S} where
  pub double-begins : frames ≤ length ls → frames ≤ length rs → at + 2 * frames ≤ length out₀ → Good l₀ → Good r₀
      → Double k Good ls rs frames out₀ at l₀ r₀ out₀ l₀ r₀ frames at 0
  double-begins h i m g f =
      record {
        good_left = g;
        good_right = f;
        left-codes = omega arith;
        right-codes = omega arith;
        room = m;
        start = omega arith;
        filled = filled_none (omega arith);
      }

  module _ {out : List ℤ} {l r : S} {n to j : ℕ} (w : Double k Good ls rs frames out₀ at l₀ r₀ out l r n to j) where
    -- a frame: the next code of each channel
    pub double-frame : {a b : S} {m to' to'' i : ℕ} → n ≡ suc m → to' ≡ to + 1 → to'' ≡ to + 2 → i ≡ j + 1
        → a ≡ k.step l (get_or ls j 0) → b ≡ k.step r (get_or rs j 0) → Good a → Good b
        → Double k Good ls rs frames out₀ at l₀ r₀ (set (set out to (k.sample a)) to' (k.sample b)) a b m to'' i
    unfolding in_turn joined
    double-frame {a} {b} {m} {to'} {to''} {i} e o p q f g x y =
        let d : both_left k ls rs n l r j ≡ (k.sample a ∷ k.sample b ∷ []) ++ both_left k ls rs m a b (j + 1) =
        ap (λ (n : ℕ). both_left k ls rs n l r j) e
        ∙ (λ z. in_turn 1 (suc m) (code-next k l ls j (omega (arith, w.left-codes)) f z
        ∷ code-next k r rs j (omega (arith, w.right-codes)) g z ∷ [])) in
        let z = filled-piece w.filled (two-stores (omega (arith, w.room))) d refl (omega (arith, w.room)) in
        rw (o, p, q)
        (record {
          good_left = x;
          good_right = y;
          left-codes = omega (arith, w.left-codes);
          right-codes = omega (arith, w.right-codes);
          room = omega (arith, w.room, z.long, w.filled.long);
          start = w.start;
          filled = z;
        })

    pub double-ends : n ≡ 0 → Put out₀ at (both_left k ls rs frames l₀ r₀ 0) out
    unfolding in_turn
    double-ends e = filled_put (rw e at w.filled) w.start
