-- The answer of encoding, from the checks and the blocks. Assumes nothing.
use mathlib.Core.Path.{◌≡◌, refl, sym, ap, ◌∙◌, subst}
use mathlib.Core.List.{List}
use Prim.Native.Nat.{ℕ, ◌*◌, ◌%◌, ◌≤◌}
use native.Mathlib.Omega.{arith}
use lib.IntN.{ℤ}
use lib.ListN.{length}
use mir.Syntax.{w64}
use mir.Val.{Fits}
use borrow.Author.Tests.{leb-true, eqb-true}
use Rattle.little.specs.Writing.{front}
use Rattle.lists.proofs.Turns.{joined-long}
use Rattle.units.specs.declared.Refusal.{Refusal}
use Rattle.units.specs.Checks.{AllMet}
use Rattle.units.proofs.Checks.{all-met}
use Rattle.encode.specs.declared.Coded.{Coded}
use Rattle.encode.specs.Encoding.{blocks_for, block_bytes, encoded_bytes, chased_count, encode_checks, encode_verdict}
use Rattle.encode.specs.Answer.{coded_of, encoded_by, encoding}
use Rattle.formats.proofs.Making.{Codable, codable-says}
use Rattle.encode.proofs.Settling.{product-fits}
use Rattle.encode.proofs.Loops.{length-mono, length-stereo}
use Rattle.units.specs.Refusals.{Verdict}
use Rattle.std.specs.Prelude.{Err, Ok}

-- ---- what the verdict says where it is accepted
pub record Settled (n c a room : ℕ) : Type 0 where
  pub small : n ≤ 536870912
  pub valid : Codable c a
  pub whole : n % c ≡ 0
  pub fits : blocks_for c a n * a ≤ room

pub settled_says : (n c a room : ℕ) → encode_verdict n c a room ≡ Ok tt → Settled n c a room
unfolding encode_verdict AllMet
settled_says n c a room e =
    let met = all-met (encode_checks n c a room) e in
    record {
      small = leb-true n 536870912 met.0;
      valid = codable-says c a met.1.0;
      whole = eqb-true (n % c) 0 met.1.1.0;
      fits = leb-true (blocks_for c a n * a) room met.1.1.1.0;
    }

module _ (n c a room : ℕ) (e : encode_verdict n c a room ≡ Ok tt) where
  said : Settled n c a room
  said = settled_says n c a room e

  pub said-some : 1 ≤ c
  said-some = said.valid.some

  pub said-room : 4 * c ≤ a
  said-room = omega (arith, said.valid.least)

  pub said-most : a ≤ 4096
  said-most = said.valid.most

  pub said-small : n ≤ 536870912
  said-small = said.small

  pub said_fits : {b : ℕ} → b ≤ 536870912 → Fits w64 (b * a)
  said_fits k = product-fits k said.valid.most

  -- one channel
  module _ (o : c ≡ 1) where
    one : Settled n 1 a room
    one = subst (λ (k : ℕ). Settled n k a room) o said

    pub one-whole : a % 4 ≡ 0
    one-whole = one.valid.whole

    pub one-least : 8 ≤ a
    one-least = one.valid.least

    pub one-blocks : {b : ℕ} → b ≡ blocks_for c a n → b ≡ blocks_for 1 a n
    one-blocks g = g ∙ ap (λ (k : ℕ). blocks_for k a n) o

    pub one-fits : {b : ℕ} → b ≡ blocks_for c a n → b * a ≤ room
    one-fits g = subst (λ (k : ℕ). k * a ≤ room) (sym g) said.fits

  -- two
  module _ (o : c ≡ 1 → ⊥) where
    two-channels : c ≡ 2
    two-channels = two said.valid.some said.valid.two
      where
        two : 1 ≤ c → c ≤ 2 → c ≡ 2
        two h g = omega (arith, o)

    both : Settled n 2 a room
    both = subst (λ (k : ℕ). Settled n k a room) two-channels said

    pub two-whole : a % 8 ≡ 0
    two-whole = both.valid.whole

    pub two-least : 16 ≤ a
    two-least = both.valid.least

    pub two-frames : n % 2 ≡ 0
    two-frames = both.whole

    pub two_blocks : {b : ℕ} → b ≡ blocks_for c a n → b ≡ blocks_for 2 a n
    two_blocks g = g ∙ ap (λ (k : ℕ). blocks_for k a n) two-channels

    pub two_fits : {b : ℕ} → b ≡ blocks_for c a n → b * a ≤ room
    two_fits g = subst (λ (k : ℕ). k * a ≤ room) (sym g) said.fits

-- ---- what was written
pub length-encoded : (c a : ℕ) (s : List ℤ) → ((k : ℕ) → length (block_bytes c a s k) ≡ a)
    → length (encoded_bytes c a s) ≡ blocks_for c a (length s) * a
unfolding encoded_bytes
length-encoded c a s l = joined-long (block_bytes c a s) a 0 (blocks_for c a (length s)) l

absent : (a : ℕ) (s : List ℤ) → 0 ≡ chased_count 1 a s 1
unfolding chased_count
absent a s = refl

-- so many bytes, and so many chased samples of left and right
abbrev told : ℕ → ℕ → ℕ → Coded
told b l r = record { bytes = record { 0 = b }; left = record { 0 = l }; right = record { 0 = r } }

same-told : {b d l m r n : ℕ} → b ≡ d → l ≡ m → r ≡ n → told b l r ≡ told d m n
same-told {b} {d} {l} {m} {r} {n} e f g =
    ap (λ (k : ℕ). told k l r) e ∙ ap (λ (k : ℕ). told d k r) f ∙ ap (told d m) g

module _ (c a room : ℕ) (s : List ℤ) (e : encode_verdict (length s) c a room ≡ Ok tt) {b : ℕ}
    (g : b ≡ blocks_for c a (length s)) where
  pub mono-answer : {n : ℕ} → c ≡ 1 → n ≡ chased_count 1 a s 0 → told (b * a) n 0 ≡ coded_of c a s
  unfolding coded_of
  mono-answer o h =
      let w : Codable 1 a = (one (length s) c a room e o).valid in
      let k : b * a ≡ length (encoded_bytes 1 a s) =
      ap (λ (m : ℕ). m * a) (one-blocks (length s) c a room e o g)
      ∙ sym (length-encoded 1 a s (λ m. length-mono a s m w)) in
      same-told k h (absent a s) ∙ ap (λ (k : ℕ). coded_of k a s) (sym o)

  pub mono-buffer : (d : List ℕ) {f : List ℕ} → c ≡ 1 → f ≡ front (encoded_bytes 1 a s) d
      → f ≡ front (encoded_bytes c a s) d
  mono-buffer d o h = h ∙ ap (λ (k : ℕ). front (encoded_bytes k a s) d) (sym o)

  module _ (o : c ≡ 1 → ⊥) where
    pub stereo-answer : {n m : ℕ} → n ≡ chased_count 2 a s 0 → m ≡ chased_count 2 a s 1
        → told (b * a) n m ≡ coded_of c a s
    unfolding coded_of
    stereo-answer h i =
        let w : Codable 2 a = (both (length s) c a room e o).valid in
        let k : b * a ≡ length (encoded_bytes 2 a s) =
        ap (λ (m : ℕ). m * a) (two_blocks (length s) c a room e o g)
        ∙ sym (length-encoded 2 a s (λ m. length-stereo a s m w)) in
        same-told k h i ∙ ap (λ (k : ℕ). coded_of k a s) (sym (two-channels (length s) c a room e o))

    pub stereo-buffer : (d : List ℕ) {f : List ℕ} → f ≡ front (encoded_bytes 2 a s) d
        → f ≡ front (encoded_bytes c a s) d
    stereo-buffer d h = h ∙ ap (λ (k : ℕ). front (encoded_bytes k a s) d) (sym (two-channels (length s) c a room e o))

pub ruleset writing = (said-some, said-room, said-most, said-small, said_fits, one-whole, one-least, one-blocks, one-fits, two-whole, two-least, two-frames, two_blocks, two_fits, mono-answer, mono-buffer, stereo-answer, stereo-buffer)

-- ---- the answer
module _ (c a room : ℕ) (s : List ℤ) {v : Verdict} (e : v ≡ encode_verdict (length s) c a room) where
  pub asked : v ≡ Ok tt → encode_verdict (length s) c a room ≡ Ok tt
  asked f = sym e ∙ f

  pub answer-blocks : {w : Coded} → v ≡ Ok tt → w ≡ coded_of c a s → encoded_by (Ok tt) w ≡ encoding s c a room
  unfolding encoding
  answer-blocks {w} f g =
      ap (λ (x : Verdict). encoded_by x w) (sym f ∙ e) ∙ ap (encoded_by (encode_verdict (length s) c a room)) g

  pub answer-refused : {r : Refusal} → v ≡ Err r → encoded_by (Err r) (coded_of c a s) ≡ encoding s c a room
  unfolding encoding
  answer-refused f = ap (λ (x : Verdict). encoded_by x (coded_of c a s)) (sym f ∙ e)

pub ruleset answering = (asked, answer-blocks, answer-refused)
