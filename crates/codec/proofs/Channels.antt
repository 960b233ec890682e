-- Laws for one channel or two: the check of their headers, and what a function for either asks and gives. Assumes nothing.
use mathlib.Core.Path.{◌≡◌, sym, ap, ◌∙◌}
use mathlib.Core.Bool.{Bool, true, false, ◌&&◌}
use mathlib.Core.List.{List}
use Prim.Native.Nat.{ℕ, suc, ◌+◌, ◌-◌, ◌*◌, ◌≤◌, ◌<◌}
use native.Mathlib.Omega.{arith}
use lib.IntN.{ℤ}
use Rattle.little.specs.Writing.{Put}
use Rattle.lists.specs.Every.{every}
use Rattle.lists.proofs.Laws.{and-true, every-at, Holding, hold-ends, hold-fails, hold-next}
use Rattle.codec.specs.Codec.{Codec, Decodable, headers_valid, frames_heard}

-- ---- the check, header by header: those of the channels below i are in range
module _ {S : Type 0} (k : Codec S) (b : List ℕ) {c i : ℕ} (w : Holding (k.valid c b) c i) where
  pub header-ends : c ≤ i → true ≡ headers_valid k c b
  unfolding headers_valid
  header-ends h = hold-ends w h

  module _ (h : i < c) {r : Bool} (e : r ≡ k.valid c b i) where
    pub header-fails : r ≡ false → false ≡ headers_valid k c b
    unfolding headers_valid
    header-fails f = hold-fails w h e f

    pub header-next : r ≡ true → Holding (k.valid c b) c (i + 1)
    header-next f = hold-next w h e f

-- ---- the same straight on, for one channel and for two
module _ {S : Type 0} (k : Codec S) (b : List ℕ) {c : ℕ} where
  module _ (l : 1 ≤ c) where
    pub first-refused : k.valid c b 0 ≡ false → false ≡ headers_valid k c b
    unfolding headers_valid every
    first-refused e =
        let n : c ≡ suc (c - 1) = omega arith in
        sym (ap (every (k.valid c b) 0) n ∙ simp e)

    pub only-valid : k.valid c b 0 ≡ true → c ≡ 1 → true ≡ headers_valid k c b
    unfolding headers_valid every
    only-valid e n = sym (ap (every (k.valid c b) 0) n ∙ simp e)

    pub second-decides : c ≤ 2 → k.valid c b 0 ≡ true → (c ≡ 1 → ⊥) → k.valid c b 1 ≡ headers_valid k c b
    unfolding headers_valid every
    second-decides u e n =
        let m : c ≡ 2 = omega arith in
        sym (ap (every (k.valid c b) 0) m ∙ ap (λ (x : Bool). x && (k.valid c b 1 && true)) e ∙ and-true (k.valid c b 1))

    -- in the words of the code
    pub one-valid : k.valid c b 0 ≡ true → c < 2 → true ≡ headers_valid k c b
    one-valid e h = only-valid e (omega arith)

    pub two-decide : c ≤ 2 → k.valid c b 0 ≡ true → 2 ≤ c → k.valid c b 1 ≡ headers_valid k c b
    two-decide u e h = second-decides u e (λ n. absurd (omega arith))

pub ruleset checking = (first-refused, one-valid, two-decide)

module _ {S : Type 0} (k : Codec S) (b : List ℕ) {c : ℕ} where
  pub each-valid : headers_valid k c b ≡ true → (ch : ℕ) → ch < c → k.valid c b ch ≡ true
  unfolding headers_valid
  each-valid e ch h = every-at (k.valid c b) 0 c ch e (omega arith) (omega arith)

module _ {S : Type 0} {k : Codec S} {b : List ℕ} {c n : ℕ} (w : Decodable k c n b) where
  -- ---- a number of channels that turned out to be 1
  module _ (e : c ≡ 1) where
    pub one_block : Decodable k 1 n b
    one_block = rw e at w

    pub one-room : (l at : ℕ) → at + c * n ≤ l → at + n ≤ l
    one-room l at h = omega (arith, rw e at h)

    pub one-put : {d g : List ℤ} {at : ℕ} → Put d at (frames_heard k 1 n b) g → Put d at (frames_heard k c n b) g
    one-put p = rw e p

  -- and 2
  module _ (o : c ≡ 1 → ⊥) where
    two : c ≡ 2
    two = omega (arith, w.least, w.most)

    pub two-block : Decodable k 2 n b
    two-block = rw two at w

    pub two-room : (l at : ℕ) → at + c * n ≤ l → at + 2 * n ≤ l
    two-room l at h = rw two at h

    pub two-put : {d g : List ℤ} {at : ℕ} → Put d at (frames_heard k 2 n b) g → Put d at (frames_heard k c n b) g
    two-put p = rw two p

pub ruleset channels = (one_block, one-room, one-put, two-block, two-room, two-put)
