-- Demand 3: what is heard of the blocks written is what encoding tracked, as near as each code is. Assumes nothing.
use mathlib.Core.Path.{◌≡◌, refl, sym, ap, ◌∙◌}
use mathlib.Core.Bool.{Bool, true, false, cond, ◌&&◌}
use mathlib.Core.List.{List, [], ◌∷◌}
use Prim.Native.Nat.{ℕ, suc, ◌+◌, ◌-◌, ◌*◌, ◌/◌, ◌%◌, ◌≤◌, ◌<◌}
use native.Mathlib.Nat.{div-add-mod', mod-lt, zero-add}
use native.Mathlib.Omega.{arith}
use lib.Dec.{leb, ltb}
use lib.IntN.{ℤ, pos}
use lib.ListN.{length, take, get_or, length-map, get_or-map}
use lib.Seq.{ext_get_or, length-take-le, get_or-take}
use borrow.Author.Tests.{lt-ltb, le-leb}
use Rattle.samples.proofs.Signed.{by-ltb}
use Rattle.lists.specs.Turns.{values, joined, in_turn}
use Rattle.lists.proofs.Turns.{values-long, values-alike, values-at, joined-long, joined-element, turn-element}
use Rattle.lists.proofs.Laws.{every-all}
use Rattle.ima_code.specs.declared.ImaState.{ImaState}
use Rattle.ima_code.specs.Code.{is_chased}
use Rattle.ima_code.specs.Quality.{Sixteen, Faithful, within, at_most}
use Rattle.ima_code.proofs.Machine.{length-tracked, sixteen-first, sixteen-rest, faithful-at, chased-at}
use Rattle.formats.specs.Format.{ima_samples}
use Rattle.codec.specs.Codec.{channel_states, channel_heard, frames_heard, headers_valid}
use Rattle.ima_block.specs.Block.{channel_part, ima_opened, ima}
use Rattle.ima_coder.specs.Part.{chased_part, count_of}
use Rattle.units.specs.Refusals.{verdict_number, Verdict}
use Rattle.units.specs.Checks.{number_by}
use Rattle.units.proofs.Checks.{number-row}
use Rattle.encode.specs.declared.Coded.{Coded}
use Rattle.encode.specs.Encoding.{block_of, open_index, channel_bytes, chased_block, blocks_for, encoded_bytes, chased_in, chased_count, encode_checks, encode_verdict}
use Rattle.encode.specs.Answer.{coded_of, encoded_by, encoding, encoded_number, Encoded}
use Rattle.encode.specs.Demands.{frame_of, block_of_bytes, heard_at, chased_at, chased_frames, Quality, tracked_part, tracked_at, Tracked, EncodeNumbered}
use Rattle.formats.proofs.Making.{Codable}
use Rattle.encode.proofs.Answers.{Settled, settled_says}
use Rattle.encode.proofs.Blocks.{per-some, length-block, length_part}
use Rattle.encode.proofs.Heard.{index_back, part-heard, per-is, part-back, block_back}
use Rattle.encode.proofs.Frames.{block-sixteen, block-frame, open-below, calm-take, blocks-calm, same_block, one-before, blocks-enough, block-among}
use Rattle.std.specs.Prelude.{Err, Ok}

abbrev pub silent : ImaState
silent = record { last = pos 0; index = 0 }

-- ---- one block of a channel: the opening sample, the later ones, and which are chased
part-opens : (i : ℕ) (xs : List ℤ) → 1 ≤ length xs → (get_or (tracked_part i xs) 0 silent).last ≡ get_or xs 0 (pos 0)
unfolding tracked_part
part-opens i [] g = absurd (omega arith)
part-opens i (x ∷ xs) g = refl

tracked-long : (i : ℕ) (xs : List ℤ) → length (tracked_part i xs) ≡ length xs
unfolding tracked_part
tracked-long i [] = refl
tracked-long i (x ∷ xs) = ap suc (length-tracked (record { last = x; index = i }) xs)

part-later : (i : ℕ) (xs : List ℤ) (j : ℕ) → Sixteen xs → i < 89 → suc j < length xs
    → Faithful (get_or (tracked_part i xs) j silent) (get_or xs (suc j) (pos 0))
    (get_or (tracked_part i xs) (suc j) silent).last
unfolding tracked_part
part-later i [] j s h g = absurd (omega arith)
part-later i (x ∷ xs) j s h g =
    faithful-at silent (record { last = sixteen-first s; index = h }) (sixteen-rest s) j (omega arith)

part-chased : (i : ℕ) (xs : List ℤ) (j : ℕ) → suc j < length xs
    → get_or (chased_part i xs) (suc j) false ≡ is_chased (get_or (tracked_part i xs) j silent) (get_or xs (suc j) (pos 0))
unfolding tracked_part chased_part
part-chased i [] j g = absurd (omega arith)
part-chased i (x ∷ xs) j g = chased-at (record { last = x; index = i }) xs silent j (omega arith)

part-first : (i : ℕ) (xs : List ℤ) → get_or (chased_part i xs) 0 false ≡ false
unfolding chased_part
part-first i [] = refl
part-first i (x ∷ xs) = refl

-- ---- frame by frame
module _ (c a : ℕ) (s : List ℤ) (ch : ℕ) (w : Codable c a) (z : Sixteen s) (r : length s % c ≡ 0) (l : ch < c) where
  abbrev p : ℕ
  p = ima_samples c a

  abbrev bytes : List ℕ
  bytes = encoded_bytes c a s

  -- what is heard is what encoding tracked
  heard-tracked : (f : ℕ) → f < length s / c
      → heard_at c a bytes ch f ≡ get_or (tracked_part (open_index c a s ch (f / p)) (block_of c a s ch (f / p)))
      (f % p) silent
  unfolding heard_at channel_bytes
  heard-tracked f h =
      let k : ℕ = f / ima_samples c a in
      let i : ℕ = open_index c a s ch k in
      let xs : List ℤ = block_of c a s ch k in
      let e : channel_part c (block_of_bytes a (encoded_bytes c a s) k) ch ≡ channel_bytes c a s k ch =
      ap (λ (b : List ℕ). channel_part c b ch) (block_back w s k (block-among c a (length s) f h))
      ∙ part-back w s k ch l in
      ap (λ (ts : List ImaState). get_or ts (f % ima_samples c a) silent)
      (part-heard c (block_of_bytes a (encoded_bytes c a s) k) ch i (a / (4 * c) - 1) xs e
      (block-sixteen c a s ch k z) (length-block c a s ch k ∙ per-is w))

  frame_is : (f : ℕ) → f < length s / c → get_or (block_of c a s ch (f / p)) (f % p) (pos 0) ≡ frame_of c s ch f
  frame_is f h =
      let n : ℕ = ima_samples c a in
      let e : f / n * n + f % n ≡ f = div-add-mod' f n in
      block-frame c a s ch (f / n) (f % n) r (mod-lt f (per-some c a)) (omega arith) ∙ ap (frame_of c s ch) e

  opens-exact : (f : ℕ) → f < length s / c → f % p ≡ 0 → (heard_at c a bytes ch f).last ≡ frame_of c s ch f
  opens-exact f h e =
      let n : ℕ = ima_samples c a in
      let k : ℕ = f / n in
      let xs : List ℤ = block_of c a s ch k in
      ap (λ (t : ImaState). t.last) (heard-tracked f h)
      ∙ ap (λ (j : ℕ). (get_or (tracked_part (open_index c a s ch k) xs) j silent).last) e
      ∙ part-opens (open_index c a s ch k) xs (omega (arith, length-block c a s ch k, per-some c a))
      ∙ sym (ap (λ (j : ℕ). get_or xs j (pos 0)) e)
      ∙ frame_is f h

  heard-before : (f : ℕ) → f < length s / c → 0 < f % p
      → heard_at c a bytes ch (f - 1) ≡ get_or (tracked_part (open_index c a s ch (f / p)) (block_of c a s ch (f / p)))
      (f % p - 1) silent
  heard-before f h g =
      let n : ℕ = ima_samples c a in
      heard-tracked (f - 1) (omega arith)
      ∙ ap (λ (k : ℕ). get_or (tracked_part (open_index c a s ch k) (block_of c a s ch k)) ((f - 1) % n) silent)
      (same_block n f (per-some c a) g)
      ∙ ap (λ (j : ℕ). get_or (tracked_part (open_index c a s ch (f / n)) (block_of c a s ch (f / n))) j silent)
      (one-before n f (per-some c a) g)

  block-long : (k : ℕ) → length (chased_block c a s ch k) ≡ ima_samples c a
  unfolding chased_block
  block-long k = length_part (open_index c a s ch k) (block_of c a s ch k) ∙ length-block c a s ch k

  -- a later frame has a place in its block, and the frame before it is there too
  later-near : (f : ℕ) → f < length s / c → 0 < f % p
      → Faithful (heard_at c a bytes ch (f - 1)) (frame_of c s ch f) (heard_at c a bytes ch f).last
  later-near f h g =
      let n : ℕ = ima_samples c a in
      let k : ℕ = f / n in
      let i : ℕ = open_index c a s ch k in
      let xs : List ℤ = block_of c a s ch k in
      let j : ℕ = f % n - 1 in
      let e : f % n ≡ suc j = omega arith in
      let before : heard_at c a bytes ch (f - 1) ≡ get_or (tracked_part i xs) j silent = heard-before f h g in
      let here : heard_at c a bytes ch f ≡ get_or (tracked_part i xs) (suc j) silent =
      heard-tracked f h ∙ ap (λ (m : ℕ). get_or (tracked_part i xs) m silent) e in
      let x : frame_of c s ch f ≡ get_or xs (suc j) (pos 0) =
      sym (frame_is f h) ∙ ap (λ (m : ℕ). get_or xs m (pos 0)) e in
      rw (before, here, x) (part-later i xs j (block-sixteen c a s ch k z) (open-below c a s ch z k)
      (omega (arith, mod-lt f (per-some c a), length-block c a s ch k)))

  chased-frame : (f : ℕ) → f < length s / c
      → chased_at c a s bytes ch f ≡ get_or (chased_block c a s ch (f / p)) (f % p) false
  unfolding chased_at chased_block
  chased-frame f h =
      let n : ℕ = ima_samples c a in
      let k : ℕ = f / n in
      let i : ℕ = open_index c a s ch k in
      let xs : List ℤ = block_of c a s ch k in
      by-ltb 0 (f % n) (λ b. (b && is_chased (heard_at c a bytes ch (f - 1)) (frame_of c s ch f))
      ≡ get_or (chased_part i xs) (f % n) false)
      (λ g.
      let j : ℕ = f % n - 1 in
      let e : f % n ≡ suc j = omega arith in
      let x : frame_of c s ch f ≡ get_or xs (suc j) (pos 0) =
      sym (frame_is f h) ∙ ap (λ (m : ℕ). get_or xs m (pos 0)) e in
      ap (λ (t : ImaState). is_chased t (frame_of c s ch f)) (heard-before f h g)
      ∙ ap (is_chased (get_or (tracked_part i xs) j silent)) x
      ∙ sym (part-chased i xs j (omega (arith, mod-lt f (per-some c a), length-block c a s ch k)))
      ∙ ap (λ (m : ℕ). get_or (chased_part i xs) m false) (sym e))
      (λ g.
      let e : f % n ≡ 0 = omega arith in
      sym (ap (λ (m : ℕ). get_or (chased_part i xs) m false) e ∙ part-first i xs))

  -- the frames that are chased are those that encoding counted
  chased-frames : chased_frames c a s bytes ch ≡ take (length s / c) (chased_in c a s ch)
  unfolding chased_frames chased_in
  chased-frames =
      let n : ℕ = length s / c in
      let js : List Bool = joined (values (chased_block c a s ch) 0 (blocks_for c a (length s))) in
      let lj : length js ≡ blocks_for c a (length s) * ima_samples c a =
      joined-long (chased_block c a s ch) (ima_samples c a) 0 (blocks_for c a (length s)) block-long in
      let lt : length (take n js) ≡ n = length-take-le n js (omega (arith, blocks-enough c a (length s))) in
      ext_get_or false (values (chased_at c a s bytes ch) 0 n) (take n js)
      (values-long (chased_at c a s bytes ch) 0 n ∙ sym lt)
      (λ f g.
      let h : f < n = omega (arith, values-long (chased_at c a s bytes ch) 0 n) in
      values-at (chased_at c a s bytes ch) 0 n f false h
      ∙ ap (chased_at c a s bytes ch) (zero-add f)
      ∙ chased-frame f h
      ∙ sym (get_or-take n js f false h
      ∙ joined-element (chased_block c a s ch) (ima_samples c a) (blocks_for c a (length s)) f false block-long
      (per-some c a) (omega (arith, blocks-enough c a (length s)))))

  in-succession : at_most 11 (chased_frames c a s bytes ch) ≡ true
  unfolding at_most chased_in
  in-succession =
      ap (within 11 11) chased-frames
      ∙ calm-take 11 11 (length s / c) (joined (values (chased_block c a s ch) 0 (blocks_for c a (length s))))
      (blocks-calm c a s ch z 0 (blocks_for c a (length s)) 11)

-- ---- what the decoder takes and puts out
module _ (c a : ℕ) (s : List ℤ) (w : Codable c a) (z : Sixteen s) (k : ℕ) (h : k < blocks_for c a (length s)) where
  abbrev block : List ℕ
  block = block_of_bytes a (encoded_bytes c a s) k

  part-is : (ch : ℕ) → ch < c → channel_part c block ch ≡ channel_bytes c a s k ch
  part-is ch l = ap (λ (b : List ℕ). channel_part c b ch) (block_back w s k h) ∙ part-back w s k ch l

  headers-valid : headers_valid ima c block ≡ true
  unfolding headers_valid channel_bytes
  headers-valid =
      every-all (λ ch. leb (ima_opened (channel_part c block ch)).index 88) 0 c
      (λ ch i l.
      let xs : List ℤ = block_of c a s ch k in
      let e : (ima_opened (channel_part c block ch)).index ≡ open_index c a s ch k =
      ap (λ (b : List ℕ). (ima_opened b).index) (part-is ch (omega arith))
      ∙ index_back (open_index c a s ch k) xs (block-sixteen c a s ch k z) (omega (arith, length-block c a s ch k, per-some c a)) in
      le-leb (ima_opened (channel_part c block ch)).index 88 (omega (arith, open-below c a s ch z k)))

  sound-long : (ch : ℕ) → ch < c → length (channel_heard ima c block ch) ≡ ima_samples c a
  unfolding channel_heard channel_bytes
  sound-long ch l =
      let i : ℕ = open_index c a s ch k in
      let xs : List ℤ = block_of c a s ch k in
      length-map (channel_states ima c block ch) (λ t. t.last)
      ∙ ap length
      (part-heard c block ch i (a / (4 * c) - 1) xs (part-is ch l) (block-sixteen c a s ch k z) (length-block c a s ch k ∙ per-is w))
      ∙ tracked-long i xs
      ∙ length-block c a s ch k

  put-out : (j ch : ℕ) → j < ima_samples c a → ch < c
      → get_or (frames_heard ima c (ima_samples c a) block) (c * j + ch) (pos 0) ≡ (get_or (channel_states ima c block ch) j silent).last
  unfolding frames_heard channel_heard
  put-out j ch g l =
      let p : ℕ = ima_samples c a in
      let ls : List (List ℤ) = values (channel_heard ima c block) 0 c in
      let n : length ls ≡ c = values-long (channel_heard ima c block) 0 c in
      ap (λ (m : ℕ). get_or (in_turn 1 p ls) (m * j + ch) (pos 0)) (sym n)
      ∙ turn-element p ls j ch (pos 0)
      (values-alike (channel_heard ima c block) p 0 c (λ ch h g. sound-long ch (omega arith))) g (omega arith)
      ∙ ap (λ (l : List ℤ). get_or l j (pos 0))
      (values-at (channel_heard ima c block) 0 c ch [] l ∙ ap (channel_heard ima c block) (zero-add ch))
      ∙ get_or-map (λ t. t.last) (channel_states ima c block ch) j silent

-- ---- the counts
counted : (c a : ℕ) (s : List ℤ) (ch : ℕ) → Codable c a → Sixteen s → length s % c ≡ 0
    → chased_count c a s ch ≡ cond (ltb ch c) (count_of (chased_frames c a s (encoded_bytes c a s) ch)) 0
unfolding chased_count
counted c a s ch w z r =
    by-ltb ch c (λ b. cond b (count_of (take (length s / c) (chased_in c a s ch))) 0
    ≡ cond b (count_of (chased_frames c a s (encoded_bytes c a s) ch)) 0)
    (λ h. ap count_of (sym (chased-frames c a s ch w z r h)))
    (λ h. refl)

counted-left : (c a : ℕ) (s : List ℤ) → Codable c a → Sixteen s → length s % c ≡ 0
    → chased_count c a s 0 ≡ count_of (chased_frames c a s (encoded_bytes c a s) 0)
counted-left c a s w z r =
    counted c a s 0 w z r
    ∙ ap (λ (b : Bool). cond b (count_of (chased_frames c a s (encoded_bytes c a s) 0)) 0) (lt-ltb 0 c w.some)

-- ---- an answer that is blocks
abbrev within-answer : Coded → Encoded → Coded
within-answer d (Ok w) = w
within-answer d (Err r) = d

pub accepted : (v : Verdict) {u w : Coded} → encoded_by v u ≡ Ok w → (v ≡ Ok tt) × (u ≡ w)
accepted (Ok _) {u} e = (refl, ap (within-answer u) e)
accepted (Err r) e = let z : ◌≡◌ {A = ℕ} 0 1 = cc in absurd (omega arith)

-- the whole of demand 3
pub quality : Quality
unfolding Quality encoding coded_of heard_at
quality s c a room w z e =
    let v = accepted (encode_verdict (length s) c a room) e in
    let t : Settled (length s) c a room = settled_says (length s) c a room v.0 in
    record {
      valid = λ f h. headers-valid c a s t.valid z (f / ima_samples c a) (block-among c a (length s) f h);
      sounded = λ ch f l h.
          put-out c a s t.valid z (f / ima_samples c a) (block-among c a (length s) f h) (f % ima_samples c a) ch (mod-lt f (per-some c a)) l;
      opening = λ ch f l h g. opens-exact c a s ch t.valid z t.whole l f h g;
      later = λ ch f l h g. later-near c a s ch t.valid z t.whole l f h g;
      succession = λ ch l. search (in-succession c a s ch t.valid z t.whole l);
      lefts = ap (λ (u : Coded). u.left.0) (sym v.1) ∙ counted-left c a s t.valid z t.whole;
      rights = ap (λ (u : Coded). u.right.0) (sym v.1) ∙ counted c a s 1 t.valid z t.whole;
    }

-- and decoding gives what encoding tracked
pub tracked-back : Tracked
unfolding Tracked encoding tracked_at
tracked-back s c a room w z e ch f l h =
    let t : Settled (length s) c a room =
    settled_says (length s) c a room (accepted (encode_verdict (length s) c a room) e).0 in
    heard-tracked c a s ch t.valid z t.whole l f h

-- ---- the number of an answer: each check is a row
answer-number : (v : Verdict) (u : Coded) → encoded_number (encoded_by v u) ≡ verdict_number v
answer-number (Ok _) u = refl
answer-number (Err r) u = refl

pub numbered : EncodeNumbered
unfolding EncodeNumbered encoding encode_verdict number_by
numbered s c a room = answer-number (encode_verdict (length s) c a room) (coded_of c a s) ∙ number-row (encode_checks (length s) c a room)
