-- The loop over groups of eight frames of two channels: what is left to do makes the whole, and every turn writes
-- four bytes of each. Assumes nothing.
use mathlib.Core.Path.{◌≡◌, refl, sym, ap, ◌∙◌}
use mathlib.Core.List.{List, [], ◌∷◌, ◌++◌, append_assoc}
use Prim.Native.Nat.{ℕ, suc, ◌+◌, ◌-◌, ◌*◌, ◌/◌, ◌≤◌, ◌<◌}
use native.Mathlib.Omega.{arith}
use native.Mathlib.Nat.{sub-zero}
use lib.IntN.{ℤ}
use lib.ListN.{length, take, length-append}
use Rattle.little.specs.Writing.{Put}
use Rattle.little.proofs.Filling.{Filled, filled_none, filled-piece, filled_put, put_next}
use Rattle.lists.specs.Turns.{in_turn}
use Rattle.lists.proofs.Turns.{turn_two}
use Rattle.ima_code.specs.declared.ImaState.{ImaState}
use Rattle.ima_coder.specs.declared.Channel.{Channel}
use Rattle.ima_coder.specs.declared.Channels.{Channels}
use Rattle.ima_coder.specs.Part.{samples_from, channel_after}
use Rattle.ima_coder.proofs.Taken.{bytes_of, channel-none, length_taken}
use Rattle.ima_coder.proofs.Runs.{taken-append, channel-append, bytes-append, length-bytes, lefts, rights, groups_of}

-- ---- one channel: t is where the groups began and p is where i of them are done
pub record Along (s : List ℤ) (last left at groups : ℕ) (t : Channel) (p : Channel) (there x i : ℕ) : Type 0 where
  pub good : p.state.index < 89
  pub few : p.chased ≤ t.chased + 8 * i
  pub fits : t.chased + 8 * groups < 4294967296
  pub ends : channel_after p there (samples_from s 2 last x (8 * (groups - i)))
      ≡ channel_after t left (samples_from s 2 last at (8 * groups))

eight-left : {n i : ℕ} → i < n → 8 * (n - i) ≡ 8 + 8 * (n - (i + 1))
eight-left h = omega arith

module _ (s : List ℤ) (last x : ℕ) {groups i : ℕ} (h : i < groups) where
  eight-taken : samples_from s 2 last x (8 * (groups - i))
      ≡ samples_from s 2 last x 8 ++ samples_from s 2 last (x + 16) (8 * (groups - (i + 1)))
  eight-taken = ap (samples_from s 2 last x) (eight-left h) ∙ taken-append s 2 last x 8 (8 * (groups - (i + 1)))

  -- the bytes of the next eight samples, and the rest
  eight-bytes : (p : Channel) (there : ℕ) {r : Channel} → r ≡ channel_after p there (samples_from s 2 last x 8)
      → bytes_of p.state (samples_from s 2 last x (8 * (groups - i)))
      ≡ bytes_of p.state (samples_from s 2 last x 8) ++ bytes_of r.state (samples_from s 2 last (x + 16) (8 * (groups - (i + 1))))
  unfolding channel_after
  eight-bytes p there e =
      let eight : List ℤ = samples_from s 2 last x 8 in
      let rest : List ℤ = samples_from s 2 last (x + 16) (8 * (groups - (i + 1))) in
      ap (bytes_of p.state) eight-taken
      ∙ bytes-append p.state 4 eight rest (length_taken s 2 last x 8)
      ∙ ap (λ (k : Channel). bytes_of p.state eight ++ bytes_of k.state rest) (sym e)

module _ {s : List ℤ} {last left at groups : ℕ} {t : Channel} where
  along-begins : t.state.index < 89 → t.chased + 8 * groups < 4294967296 → Along s last left at groups t t left at 0
  along-begins g f = record { good = g; few = omega arith; fits = f; ends = rw (sub-zero groups) refl }

  module _ {p : Channel} {there x i : ℕ} (w : Along s last left at groups t p there x i) where
    along-next : i < groups → {r : Channel} {m : ℕ} → r ≡ channel_after p there (samples_from s 2 last x 8)
        → r.state.index < 89 → r.chased ≤ p.chased + 8 → m ≡ there - 8
        → Along s last left at groups t r m (x + 16) (i + 1)
    along-next h {r} {m} e g f em =
        let eight : List ℤ = samples_from s 2 last x 8 in
        let rest : List ℤ = samples_from s 2 last (x + 16) (8 * (groups - (i + 1))) in
        let k : m ≡ there - length eight = em ∙ ap (λ (k : ℕ). there - k) (sym (length_taken s 2 last x 8)) in
        record {
          good = g;
          few = omega (arith, w.few);
          fits = w.fits;
          ends =
              ap (λ (q : Channel). channel_after q m rest) e
              ∙ ap (λ (q : ℕ). channel_after (channel_after p there eight) q rest) k
              ∙ sym (channel-append p there eight rest)
              ∙ sym (ap (channel_after p there) (eight-taken s last x h))
              ∙ w.ends;
        }

    along-ends : groups ≤ i → p ≡ channel_after t left (samples_from s 2 last at (8 * groups))
    along-ends h =
        let n : 8 * (groups - i) ≡ 0 = omega arith in
        sym (channel-none s 2 last x p there) ∙ rw n at w.ends

-- ---- both channels
pub record Groups (s : List ℤ) (left at groups to : ℕ) (from : Channels) (out₀ : List ℕ)
    (p : Channels) (there x y i : ℕ) (out : List ℕ) : Type 0 where
  pub upto : i ≤ groups
  pub many : groups ≤ 511
  pub long : 2 ≤ length s
  pub room : to + 8 * groups ≤ length out₀
  pub here : y ≡ to + 8 * i
  pub start : at ≤ 1073741824
  pub place : x ≡ at + 16 * i
  pub inside : 2 * there ≤ length s - x
  pub left_along : Along s (length s - 2) left at groups from.left p.left there x i
  pub right-along : Along s (length s - 1) left (at + 1) groups from.right p.right there (x + 1) i
  pub filled : Filled (take to out₀ ++ groups_of s from.left.state from.right.state at groups)
      (groups_of s p.left.state p.right.state x (groups - i)) y out out₀

-- both channels have half of what is there
pub half-there : (n : ℕ) → 2 * (n / 2) ≤ n
half-there n = omega arith

pub groups-begin : {s : List ℤ} {left at groups to : ℕ} {from : Channels} {out : List ℕ}
    → 2 ≤ length s → 2 * left ≤ length s - at → at ≤ 1073741824 → groups ≤ 511 → to + 8 * groups ≤ length out
    → from.left.state.index < 89 → from.right.state.index < 89
    → from.left.chased + 8 * groups < 4294967296 → from.right.chased + 8 * groups < 4294967296
    → Groups s left at groups to from out from left at to 0 out
groups-begin {groups = groups} a b c d e f g h k =
    record {
      upto = omega arith;
      many = d;
      long = a;
      room = e;
      here = omega arith;
      start = c;
      place = omega arith;
      inside = b;
      left_along = along-begins f h;
      right-along = along-begins g k;
      filled = rw (sub-zero groups) (filled_none (omega arith));
    }

module _ {s : List ℤ} {left at groups to : ℕ} {from : Channels} {out₀ : List ℕ}
    {p : Channels} {there x y i : ℕ} {out : List ℕ} (w : Groups s left at groups to from out₀ p there x y i out) where
  abbrev a : List ℕ
  a = bytes_of p.left.state (lefts s x 8)

  abbrev b : List ℕ
  b = bytes_of p.right.state (rights s x 8)

  four-left : length a ≡ 4
  four-left = length-bytes p.left.state 4 (lefts s x 8) (length_taken s 2 (length s - 2) x 8)

  four-right : length b ≡ 4
  four-right = length-bytes p.right.state 4 (rights s x 8) (length_taken s 2 (length s - 1) (x + 1) 8)

  -- the next group, and the rest
  groups-split : {r : Channels} → i < groups
      → r.left ≡ channel_after p.left there (lefts s x 8) → r.right ≡ channel_after p.right there (rights s x 8)
      → groups_of s p.left.state p.right.state x (groups - i)
      ≡ a ++ b ++ groups_of s r.left.state r.right.state (x + 16) (groups - (i + 1))
  groups-split {r} h el er =
      let n : ℕ = groups - (i + 1) in
      let k : groups - i ≡ suc n = omega arith in
      let o : x + 16 + 1 ≡ x + 1 + 16 = omega arith in
      let q : List ℕ = bytes_of r.left.state (lefts s (x + 16) (8 * n)) in
      let z : List ℕ = bytes_of r.right.state (samples_from s 2 (length s - 1) (x + 1 + 16) (8 * n)) in
      let c = eight-bytes s (length s - 2) x h p.left there el in
      let d = eight-bytes s (length s - 1) (x + 1) h p.right there er in
      rw (o, c, d, k)
      (turn_two 4 n a b q z four-left four-right ∙ sym (append_assoc a b (in_turn 4 n (q ∷ z ∷ []))))

  pub groups-next : {r : Channels} {m : ℕ} {f : List ℕ} → i < groups
      → (r.left ≡ channel_after p.left there (lefts s x 8))
      × (r.right ≡ channel_after p.right there (rights s x 8))
      × (r.left.state.index < 89)
      × (r.right.state.index < 89)
      × (r.left.chased ≤ p.left.chased + 8)
      × (r.right.chased ≤ p.right.chased + 8)
      × Put out y (a ++ b) f
      → m ≡ there - 8 → {j k : ℕ} → j ≡ x + 16 → k ≡ y + 8
      → Groups s left at groups to from out₀ r m j k (i + 1) f
  groups-next h (el, er, gl, gr, fl, fr, o) em ej ek =
      let e : x + 16 + 1 ≡ x + 1 + 16 = omega arith in
      let k : length (a ++ b) ≡ 8 = length-append a b ∙ omega (arith, four-left, four-right) in
      rw (ej, ek)
      (record {
        upto = omega arith;
        many = w.many;
        long = w.long;
        room = w.room;
        here = omega (arith, w.here);
        start = w.start;
        place = omega (arith, w.place);
        inside = omega (arith, w.inside);
        left_along = along-next w.left_along h el gl fl em;
        right-along = rw e (along-next w.right-along h er gr fr em);
        filled =
            filled-piece w.filled o (groups-split h el er) (omega (arith, k))
            (omega (arith, w.room, w.here, w.filled.long));
      })

  module _ (h : groups ≤ i) where
    pub groups-left : p.left ≡ channel_after from.left left (lefts s at (8 * groups))
    groups-left = along-ends w.left_along h

    pub groups-right : p.right ≡ channel_after from.right left (rights s at (8 * groups))
    groups-right = along-ends w.right-along h

    pub groups-put : Put out₀ to (groups_of s from.left.state from.right.state at groups) out
    unfolding in_turn
    groups-put =
        let n : groups - i ≡ 0 = omega arith in
        filled_put (rw n at w.filled) (omega (arith, w.room))

pub ruleset grouping = (half-there, groups-begin, groups-next, groups-left, groups-right, groups-put)

-- ---- one group: four bytes of one channel, and four of the other behind them
pub group-put : (t u : ImaState) (s : List ℤ) (k l x z : ℕ) {d e f : List ℕ} {to : ℕ}
    → Put d to (bytes_of t (samples_from s 2 k x 8)) e → Put e (to + 4) (bytes_of u (samples_from s 2 l z 8)) f → to + 8 ≤ length d
    → Put d to (bytes_of t (samples_from s 2 k x 8) ++ bytes_of u (samples_from s 2 l z 8)) f
group-put t u s k l x z p q h =
    let a = length-bytes t 4 (samples_from s 2 k x 8) (length_taken s 2 k x 8) in
    let b = length-bytes u 4 (samples_from s 2 l z 8) (length_taken s 2 l z 8) in
    put_next p q (omega (arith, a)) (omega (arith, a, b))
