-- The loops over blocks: what is left to write makes the whole, and every turn writes a block. Assumes nothing.
use mathlib.Core.Path.{◌≡◌, refl, sym, ap, ◌∙◌, subst}
use mathlib.Core.List.{List, [], ◌∷◌}
use Prim.Native.Nat.{ℕ, ◌+◌, ◌-◌, ◌*◌, ◌/◌, ◌%◌, ◌≤◌, ◌<◌}
use native.Mathlib.Nat.{zero-mul, sub-zero, mul-le-mul_right}
use native.Mathlib.Omega.{arith}
use lib.IntN.{ℤ}
use lib.ListN.{length, length-append}
use mir.Syntax.{w64}
use mir.Val.{Fits}
use Rattle.little.specs.Writing.{Put, front}
use Rattle.little.proofs.Filling.{Filled, filled_none, filled-piece, filled-all}
use Rattle.lists.specs.Turns.{values, joined, in_turn}
use Rattle.lists.proofs.Turns.{joined-next, turn_one, turn-long}
use Rattle.ima_code.specs.Machine.{codes_of}
use Rattle.formats.specs.Format.{ima_samples}
use Rattle.ima_coder.specs.declared.Channel.{Channel}
use Rattle.ima_coder.specs.declared.Channels.{Channels}
use Rattle.ima_coder.specs.Part.{samples_from, packed, block_head, coded_part, channel_after_block}
use Rattle.ima_coder.proofs.Heads.{length-head}
use Rattle.ima_coder.proofs.Runs.{length-bytes}
use Rattle.encode.specs.Encoding.{block_of, open_index, channel_bytes, block_bytes, blocks_for, encoded_bytes, chased_count}
use Rattle.formats.proofs.Making.{Codable}
use Rattle.encode.proofs.Blocks.{per-mono, per-stereo, next-times, begun, length-block, Sofar, sofar-begins, sofar-next, sofar-ends}

-- ---- the bytes of one channel
pub length-coded : (i g : ℕ) (xs : List ℤ) → length xs ≡ 8 * g + 1 → length (coded_part i xs) ≡ 4 * (g + 1)
unfolding coded_part
length-coded i g [] e = absurd (omega arith)
length-coded i g (x ∷ xs) e =
    let k : length xs ≡ 2 * (4 * g) = omega arith in
    length-append (block_head x i) (packed (codes_of (record { last = x; index = i }) xs))
    ∙ omega (arith, length-head x i, length-bytes (record { last = x; index = i }) (4 * g) xs k)

-- a block has as many bytes as align says
pub length-mono : (a : ℕ) (s : List ℤ) (k : ℕ) → Codable 1 a → length (block_bytes 1 a s k) ≡ a
unfolding block_bytes channel_bytes values
length-mono a s k w =
    let l = length-coded (open_index 1 a s 0 k) (a / 4 - 1) (block_of 1 a s 0 k)
    (length-block 1 a s 0 k ∙ per-mono w) in
    turn-long 4 (a / 4) (coded_part (open_index 1 a s 0 k) (block_of 1 a s 0 k) ∷ []) (l ∙ omega (arith, w.least), tt)
    ∙ omega (arith, w.whole)

pub length-stereo : (a : ℕ) (s : List ℤ) (k : ℕ) → Codable 2 a → length (block_bytes 2 a s k) ≡ a
unfolding block_bytes channel_bytes values
length-stereo a s k w =
    let l = length-coded (open_index 2 a s 0 k) (a / 8 - 1) (block_of 2 a s 0 k)
    (length-block 2 a s 0 k ∙ per-stereo w) in
    let r = length-coded (open_index 2 a s 1 k) (a / 8 - 1) (block_of 2 a s 1 k)
    (length-block 2 a s 1 k ∙ per-stereo w) in
    turn-long 4 (a / 8) (coded_part (open_index 2 a s 0 k) (block_of 2 a s 0 k)
    ∷ coded_part (open_index 2 a s 1 k) (block_of 2 a s 1 k) ∷ [])
    (l ∙ omega (arith, w.least), (r ∙ omega (arith, w.least), tt))
    ∙ omega (arith, w.whole)

same_taken : (s : List ℤ) (stride : ℕ) {k l x y m n : ℕ} → k ≡ l → x ≡ y → m ≡ n
    → samples_from s stride k x m ≡ samples_from s stride l y n
same_taken s stride {k} {l} {x} {y} {m} {n} e f g =
    ap (λ (i : ℕ). samples_from s stride i x m) e ∙ ap (λ (i : ℕ). samples_from s stride l i m) f ∙ ap (samples_from s stride l y) g

-- ---- mono
pub record Mono (s : List ℤ) (a n : ℕ) (out₀ : List ℕ) (groups : ℕ) (t : Channel) (frame to i : ℕ)
    (out : List ℕ) : Type 0 where
  pub valid : Codable 1 a
  pub small : length s ≤ 536870912
  pub blocks : n ≡ blocks_for 1 a (length s)
  pub room : n * a ≤ length out₀
  pub eights : groups ≡ a / 4 - 1
  pub upto : i ≤ n
  pub frames : frame ≡ i * ima_samples 1 a
  pub bytes : to ≡ i * a
  pub sofar : Sofar 1 a s 0 i t
  pub filled : Filled (encoded_bytes 1 a s) (joined (values (block_bytes 1 a s) i (n - i))) to out out₀

pub mono-begins : {s : List ℤ} {a n : ℕ} {out : List ℕ} {t : Channel} → a % 4 ≡ 0 → 8 ≤ a → a ≤ 4096
    → length s ≤ 536870912 → n ≡ blocks_for 1 a (length s)
    → n * a ≤ length out → t.state.index ≡ 0 → t.chased ≡ 0 → {to : ℕ} → to ≡ 0 → Mono s a n out (a / 4 - 1) t 0 to 0 out
unfolding encoded_bytes
mono-begins {s} {a} {n} {out} {t} w l m k b r e f j =
    rw j
    (record {
      valid = record { some = omega arith; two = omega arith; whole = w; least = l; most = m };
      small = k;
      blocks = b;
      room = r;
      eights = refl;
      upto = omega arith;
      frames = sym (zero-mul (ima_samples 1 a));
      bytes = sym (zero-mul a);
      sofar = sofar-begins 1 a s 0 t e f;
      filled = rw (sub-zero n, b) (filled_none (omega arith));
    })

module _ {s : List ℤ} {a n : ℕ} {out₀ : List ℕ} {groups : ℕ} {t : Channel} {frame to i : ℕ} {out : List ℕ}
    (w : Mono s a n out₀ groups t frame to i out) where
  module _ (h : i < n) where
    per : ima_samples 1 a ≡ 8 * groups + 1
    per = per-mono w.valid ∙ ap (λ (k : ℕ). 8 * k + 1) (sym w.eights)

    among : i < blocks_for 1 a (length s)
    among = omega (arith, w.blocks)

    pub mono-frame : frame < length s
    mono-frame = omega (arith, w.frames, begun 1 a (length s) i among)

    mono-groups : groups ≤ 1023
    mono-groups = omega (arith, w.eights, w.valid.most)

    align_is : 4 * (groups + 1) ≡ a
    align_is = omega (arith, w.eights, w.valid.whole, w.valid.least)

    pub mono-room : to + 4 * groups + 4 ≤ length out
    mono-room = omega (arith, w.bytes, w.room, w.filled.long, next-times i a, mul-le-mul_right {m = i + 1} {n = n} a (omega arith), align_is)

    mono-next-room : to + a ≤ length out
    mono-next-room = omega (arith, mono-room, align_is)

    pub mono-fits : t.chased + 8 * groups < 4294967296
    mono-fits = omega (arith, w.sofar.few, begun 1 a (length s) i among, w.small, mono-groups)

    pub mono-frame-fits : Fits w64 (frame + (8 * groups + 1))
    mono-frame-fits = record { fits = omega (arith, mono-frame, w.small, mono-groups) }

    block-is : samples_from s 1 (length s - 1) frame (8 * groups + 1) ≡ block_of 1 a s 0 i
    unfolding block_of
    block-is =
        let e : length s - 1 ≡ length s - 1 + 0 = omega arith in
        let f : frame ≡ 1 * (i * ima_samples 1 a) + 0 = omega (arith, w.frames) in
        same_taken s 1 e f (sym per)

    part-is : coded_part t.state.index (samples_from s 1 (length s - 1) frame (8 * groups + 1)) ≡ block_bytes 1 a s i
    unfolding block_bytes channel_bytes values
    part-is =
        let xs : List ℤ = block_of 1 a s 0 i in
        let l : length (coded_part (open_index 1 a s 0 i) xs) ≡ 4 * (a / 4) =
        length-coded (open_index 1 a s 0 i) groups xs (length-block 1 a s 0 i ∙ per)
        ∙ omega (arith, w.eights, w.valid.least) in
        ap (coded_part t.state.index) block-is
        ∙ ap (λ (k : ℕ). coded_part k xs) w.sofar.index
        ∙ sym (turn_one 4 (a / 4) (coded_part (open_index 1 a s 0 i) xs) l)

    pub mono-next : {r : Channel} {f : List ℕ}
        → (r ≡ channel_after_block t (length s - frame) (samples_from s 1 (length s - 1) frame (8 * groups + 1)))
        × (r.state.index < 89) × (r.chased ≤ t.chased + 8 * groups)
        × Put out to (coded_part t.state.index (samples_from s 1 (length s - 1) frame (8 * groups + 1))) f
        → {j : ℕ} → j ≡ to + a → Mono s a n out₀ groups r (frame + (8 * groups + 1)) j (i + 1) f
    mono-next {r} {f} (e, g, c, p) o =
        let p' : Put out to (block_bytes 1 a s i) f = subst (λ (l : List ℕ). Put out to l f) part-is p in
        let l : length (block_bytes 1 a s i) ≡ a = length-mono a s i w.valid in
        let k : length s - frame ≡ length s / 1 - i * ima_samples 1 a = omega (arith, w.frames) in
        let e' : r ≡ channel_after_block t (length s / 1 - i * ima_samples 1 a) (block_of 1 a s 0 i) =
        e ∙ ap (λ (m : ℕ). channel_after_block t m (samples_from s 1 (length s - 1) frame (8 * groups + 1))) k
        ∙ ap (channel_after_block t (length s / 1 - i * ima_samples 1 a)) block-is in
        rw o
        (record {
          valid = w.valid;
          small = w.small;
          blocks = w.blocks;
          room = w.room;
          eights = w.eights;
          upto = omega arith;
          frames = omega (arith, w.frames, next-times i (ima_samples 1 a), per);
          bytes = omega (arith, w.bytes, next-times i a);
          sofar = sofar-next w.sofar among e' g (omega (arith, per));
          filled = filled-piece w.filled p' (joined-next (block_bytes 1 a s) i n h) (omega arith) mono-next-room;
        })

  module _ (h : n ≤ i) where
    none : blocks_for 1 a (length s) - i ≡ 0
    none = omega (arith, w.blocks)

    pub mono-chased : t.chased ≡ chased_count 1 a s 0
    unfolding chased_count
    mono-chased = sofar-ends w.sofar none

    pub mono-written : out ≡ front (encoded_bytes 1 a s) out₀
    unfolding values joined
    mono-written =
        let k : n - i ≡ 0 = omega arith in
        filled-all (subst (λ (m : ℕ). Filled (encoded_bytes 1 a s)
        (joined (values (block_bytes 1 a s) i m)) to out out₀) k w.filled)

pub ruleset mono-coding = (mono-begins, mono-frame, mono-frame-fits, mono-room, mono-fits, mono-next, mono-chased, mono-written)

-- ---- stereo
pub record Stereo (s : List ℤ) (a n : ℕ) (out₀ : List ℕ) (groups : ℕ) (t : Channels) (at to i : ℕ)
    (out : List ℕ) : Type 0 where
  pub valid : Codable 2 a
  pub small : length s ≤ 536870912
  pub blocks : n ≡ blocks_for 2 a (length s)
  pub room : n * a ≤ length out₀
  pub eights : groups ≡ a / 8 - 1
  pub upto : i ≤ n
  pub frames : at ≡ 2 * (i * ima_samples 2 a)
  pub bytes : to ≡ i * a
  pub left-sofar : Sofar 2 a s 0 i t.left
  pub right-sofar : Sofar 2 a s 1 i t.right
  pub filled : Filled (encoded_bytes 2 a s) (joined (values (block_bytes 2 a s) i (n - i))) to out out₀

pub stereo-begins : {s : List ℤ} {a n : ℕ} {out : List ℕ} {t : Channels} → a % 8 ≡ 0 → 16 ≤ a → a ≤ 4096
    → length s ≤ 536870912 → n ≡ blocks_for 2 a (length s)
    → n * a ≤ length out → t.left.state.index ≡ 0 → t.left.chased ≡ 0 → t.right.state.index ≡ 0
    → t.right.chased ≡ 0
    → {to : ℕ} → to ≡ 0 → Stereo s a n out (a / 8 - 1) t 0 to 0 out
unfolding encoded_bytes
stereo-begins {s} {a} {n} {out} {t} w l m k b r e f g h j =
    rw j
    (record {
      valid = record { some = omega arith; two = omega arith; whole = w; least = l; most = m };
      small = k;
      blocks = b;
      room = r;
      eights = refl;
      upto = omega arith;
      frames = omega (arith, zero-mul (ima_samples 2 a));
      bytes = sym (zero-mul a);
      left-sofar = sofar-begins 2 a s 0 t.left e f;
      right-sofar = sofar-begins 2 a s 1 t.right g h;
      filled = rw (sub-zero n, b) (filled_none (omega arith));
    })

module _ {s : List ℤ} {a n : ℕ} {out₀ : List ℕ} {groups : ℕ} {t : Channels} {at to i : ℕ} {out : List ℕ}
    (w : Stereo s a n out₀ groups t at to i out) where
  module _ (h : i < n) where
    two-per : ima_samples 2 a ≡ 8 * groups + 1
    two-per = per-stereo w.valid ∙ ap (λ (k : ℕ). 8 * k + 1) (sym w.eights)

    two-among : i < blocks_for 2 a (length s)
    two-among = omega (arith, w.blocks)

    pub stereo-frame : at + 2 ≤ length s
    stereo-frame = omega (arith, w.frames, begun 2 a (length s) i two-among)

    stereo-groups : groups ≤ 511
    stereo-groups = omega (arith, w.eights, w.valid.most)

    pub stereo-frame-fits : Fits w64 (at + (16 * groups + 2))
    stereo-frame-fits = record { fits = omega (arith, stereo-frame, w.small, stereo-groups) }

    two-align : 8 * (groups + 1) ≡ a
    two-align = omega (arith, w.eights, w.valid.whole, w.valid.least)

    pub stereo-room : to + 8 * groups + 8 ≤ length out
    stereo-room = omega (arith, w.bytes, w.room, w.filled.long, next-times i a, mul-le-mul_right {m = i + 1} {n = n} a (omega arith), two-align)

    stereo-next-room : to + a ≤ length out
    stereo-next-room = omega (arith, stereo-room, two-align)

    pub left-fits : t.left.chased + 8 * groups < 4294967296
    left-fits = omega (arith, w.left-sofar.few, begun 2 a (length s) i two-among, w.small, stereo-groups)

    pub right-fits : t.right.chased + 8 * groups < 4294967296
    right-fits = omega (arith, w.right-sofar.few, begun 2 a (length s) i two-among, w.small, stereo-groups)

    left_is : samples_from s 2 (length s - 2) at (8 * groups + 1) ≡ block_of 2 a s 0 i
    unfolding block_of
    left_is =
        let e : length s - 2 ≡ length s - 2 + 0 = omega arith in
        let f : at ≡ 2 * (i * ima_samples 2 a) + 0 = omega (arith, w.frames) in
        same_taken s 2 e f (sym two-per)

    right_is : samples_from s 2 (length s - 1) (at + 1) (8 * groups + 1) ≡ block_of 2 a s 1 i
    unfolding block_of
    right_is =
        let e : length s - 1 ≡ length s - 2 + 1 = omega (arith, stereo-frame) in
        let f : at + 1 ≡ 2 * (i * ima_samples 2 a) + 1 = omega (arith, w.frames) in
        same_taken s 2 e f (sym two-per)

    parts_are : in_turn 4 (groups + 1)
        (coded_part t.left.state.index (samples_from s 2 (length s - 2) at (8 * groups + 1))
        ∷ coded_part t.right.state.index (samples_from s 2 (length s - 1) (at + 1) (8 * groups + 1)) ∷ [])
        ≡ block_bytes 2 a s i
    unfolding block_bytes channel_bytes values
    parts_are =
        let k : groups + 1 ≡ a / 8 = omega (arith, w.eights, w.valid.least) in
        let e : coded_part t.left.state.index (samples_from s 2 (length s - 2) at (8 * groups + 1))
        ≡ coded_part (open_index 2 a s 0 i) (block_of 2 a s 0 i) =
        ap (coded_part t.left.state.index) left_is
        ∙ ap (λ (m : ℕ). coded_part m (block_of 2 a s 0 i)) w.left-sofar.index in
        let f : coded_part t.right.state.index (samples_from s 2 (length s - 1) (at + 1) (8 * groups + 1))
        ≡ coded_part (open_index 2 a s 1 i) (block_of 2 a s 1 i) =
        ap (coded_part t.right.state.index) right_is
        ∙ ap (λ (m : ℕ). coded_part m (block_of 2 a s 1 i)) w.right-sofar.index in
        rw (e, f, k) refl

    pub stereo-next : {r : Channels} {f : List ℕ}
        → (r.left ≡ channel_after_block t.left ((length s - at) / 2)
        (samples_from s 2 (length s - 2) at (8 * groups + 1)))
        × (r.right ≡ channel_after_block t.right ((length s - at) / 2)
        (samples_from s 2 (length s - 1) (at + 1) (8 * groups + 1)))
        × (r.left.state.index < 89)
        × (r.right.state.index < 89)
        × (r.left.chased ≤ t.left.chased + 8 * groups)
        × (r.right.chased ≤ t.right.chased + 8 * groups)
        × Put out to
        (in_turn 4 (groups + 1)
        (coded_part t.left.state.index (samples_from s 2 (length s - 2) at (8 * groups + 1))
        ∷ coded_part t.right.state.index (samples_from s 2 (length s - 1) (at + 1) (8 * groups + 1)) ∷ [])) f
        → {j : ℕ} → j ≡ to + a → Stereo s a n out₀ groups r (at + (16 * groups + 2)) j (i + 1) f
    stereo-next {r} {f} (el, er, gl, gr, cl, cr, p) o =
        let p' : Put out to (block_bytes 2 a s i) f = subst (λ (l : List ℕ). Put out to l f) parts_are p in
        let l : length (block_bytes 2 a s i) ≡ a = length-stereo a s i w.valid in
        let k : (length s - at) / 2 ≡ length s / 2 - i * ima_samples 2 a = omega (arith, w.frames) in
        let el' : r.left ≡ channel_after_block t.left (length s / 2 - i * ima_samples 2 a)
        (block_of 2 a s 0 i) =
        el ∙ ap (λ (m : ℕ). channel_after_block t.left m (samples_from s 2 (length s - 2) at (8 * groups + 1))) k
        ∙ ap (channel_after_block t.left (length s / 2 - i * ima_samples 2 a)) left_is in
        let er' : r.right ≡ channel_after_block t.right (length s / 2 - i * ima_samples 2 a)
        (block_of 2 a s 1 i) =
        er ∙ ap (λ (m : ℕ). channel_after_block t.right m (samples_from s 2 (length s - 1) (at + 1) (8 * groups + 1))) k
        ∙ ap (channel_after_block t.right (length s / 2 - i * ima_samples 2 a)) right_is in
        rw o
        (record {
          valid = w.valid;
          small = w.small;
          blocks = w.blocks;
          room = w.room;
          eights = w.eights;
          upto = omega arith;
          frames = omega (arith, w.frames, next-times i (ima_samples 2 a), two-per);
          bytes = omega (arith, w.bytes, next-times i a);
          left-sofar = sofar-next w.left-sofar two-among el' gl (omega (arith, two-per));
          right-sofar = sofar-next w.right-sofar two-among er' gr (omega (arith, two-per));
          filled = filled-piece w.filled p' (joined-next (block_bytes 2 a s) i n h) (omega arith) stereo-next-room;
        })

  module _ (h : n ≤ i) where
    two_none : blocks_for 2 a (length s) - i ≡ 0
    two_none = omega (arith, w.blocks)

    pub left-chased : t.left.chased ≡ chased_count 2 a s 0
    unfolding chased_count
    left-chased = sofar-ends w.left-sofar two_none

    pub right-chased : t.right.chased ≡ chased_count 2 a s 1
    unfolding chased_count
    right-chased = sofar-ends w.right-sofar two_none

    pub stereo-written : out ≡ front (encoded_bytes 2 a s) out₀
    unfolding values joined
    stereo-written =
        let k : n - i ≡ 0 = omega arith in
        filled-all (subst (λ (m : ℕ). Filled (encoded_bytes 2 a s)
        (joined (values (block_bytes 2 a s) i m)) to out out₀) k w.filled)

pub ruleset stereo-coding = (stereo-begins, stereo-frame, stereo-frame-fits, stereo-room, left-fits, right-fits, stereo-next, left-chased, right-chased, stereo-written)
