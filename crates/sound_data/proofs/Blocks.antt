-- A block of a format: what the crate that decodes it asks and gives, how long its sound is, and its first frames.
-- Assumes nothing.
use mathlib.Core.Path.{◌≡◌, sym, ap, ◌∙◌, subst}
use mathlib.Core.Bool.{Bool, true}
use mathlib.Core.List.{List, [], ◌∷◌}
use Prim.Native.Nat.{ℕ, ◌+◌, ◌*◌, ◌%◌, ◌≤◌, ◌<◌}
use native.Mathlib.Nat.{mul_comm, mul-le-mul_right}
use native.Mathlib.Omega.{arith}
use lib.IntN.{ℤ}
use lib.ListN.{length, take}
use lib.Seq.{length-take-le}
use Rattle.little.specs.Writing.{Put}
use Rattle.little.proofs.Filling.{put_front}
use Rattle.lists.specs.Turns.{values, in_turn}
use Rattle.lists.proofs.Turns.{Long, values-long, values-alike, turn-long, turn-first}
use Rattle.formats.specs.declared.Format.{Format}
use Rattle.formats.specs.Format.{by_tag, ima_samples, ms_samples, format_rule}
use Rattle.formats.proofs.Taken.{taken-some, taken-two, taken-ima, taken-microsoft, taken-samples, by-format, wanted-tag}
use Rattle.codec.specs.Codec.{Codec, Decodable, channel_heard, frames_heard, headers_valid}
use Rattle.ima_block.specs.Block.{ima}
use Rattle.ima_block.proofs.Frames as ima-frames
use Rattle.ms_block.specs.Block.{microsoft}
use Rattle.ms_block.proofs.Frames as microsoft-frames
use Rattle.sound_data.specs.Sound.{pcm_sample, channel_sound, block_frames, block_valid}

-- ---- PCM
module _ (f : Format) (b : List ℕ) where
  abbrev sound_by : ℕ → ℕ → List ℤ
  sound_by tag ch =
      by_tag tag (pcm_sample f.bits b ch ∷ []) (channel_heard ima f.channels b ch) (channel_heard microsoft f.channels b ch) []

  abbrev fine_by : ℕ → Bool
  fine_by tag = by_tag tag true (headers_valid ima f.channels b) (headers_valid microsoft f.channels b) true

  pub sound-pcm : (ch : ℕ) → f.tag ≡ 1 → channel_sound f b ch ≡ pcm_sample f.bits b ch ∷ []
  unfolding channel_sound
  sound-pcm ch t = ap (λ (k : ℕ). sound_by k ch) t

  pub fine-pcm : f.tag ≡ 1 → true ≡ block_valid f b
  unfolding block_valid
  fine-pcm t = sym (ap fine_by t)

-- ---- a block of format f is one of codec k
pub record BlockBy {S : Type 0} (k : Codec S) (f : Format) (b : List ℕ) : Type 0 where
  pub sound : (ch : ℕ) → channel_sound f b ch ≡ channel_heard k f.channels b ch
  pub headers : headers_valid k f.channels b ≡ block_valid f b
  pub whole : length b % k.unit f.channels ≡ 0
  pub headed : k.header * f.channels ≤ length b
  pub samples : f.samples ≡ k.samples f.channels (length b)
  pub long : (ch : ℕ) → ch < f.channels → length (channel_heard k f.channels b ch) ≡ k.samples f.channels (length b)

module _ {S : Type 0} {k : Codec S} {f : Format} {b : List ℕ} (w : BlockBy k f b) where
  pub headers-tested : {r : Bool} → r ≡ headers_valid k f.channels b → r ≡ block_valid f b
  headers-tested g = g ∙ w.headers

  pub frames-decodable : {n : ℕ} → format_rule f ≡ true → block_valid f b ≡ true → n ≤ f.samples → Decodable k f.channels n b
  frames-decodable e v h =
      record {
        least = taken-some f e;
        most = taken-two f e;
        whole = w.whole;
        headed = w.headed;
        enough = omega (arith, w.samples);
        valid = w.headers ∙ v;
      }

  pub frames-put : (n : ℕ) {at : ℕ} {d g : List ℤ} → Put d at (frames_heard k f.channels n b) g → Put d at (block_frames f n b) g
  unfolding frames_heard block_frames
  frames-put n {at} {d} {g} p = subst (λ (l : List ℤ). Put d at l g) (sym (λ i. in_turn 1 n (values (λ ch. w.sound ch i) 0 f.channels))) p

  sound-long : (ch : ℕ) → ch < f.channels → length (channel_sound f b ch) ≡ f.samples
  sound-long ch h = ap length (w.sound ch) ∙ w.long ch h ∙ sym w.samples

module _ (f : Format) (e : format_rule f ≡ true) (b : List ℕ) (l : length b ≡ f.align) where
  -- ---- the codec of each tag
  module _ (n : f.tag ≡ 1 → ⊥) where
    pub by-ima : f.tag ≡ 17 → BlockBy ima f b
    unfolding channel_sound block_valid
    by-ima t =
        let p = taken-ima f e n t in
        let w : length b % (4 * f.channels) ≡ 0 = ap (λ (m : ℕ). m % (4 * f.channels)) l ∙ p.whole in
        let h : 4 * f.channels ≤ length b = omega (arith, p.sized.least) in
        record {
          sound = λ ch. ap (λ (m : ℕ). sound_by f b m ch) t;
          headers = sym (ap (fine_by f b) t);
          whole = w;
          headed = h;
          samples = p.samples ∙ ap (ima_samples f.channels) (sym l);
          long = λ ch i. ima-frames.sound-long f.channels b ch (taken-two f e) i w h;
        }

    pub by-microsoft : (f.tag ≡ 17 → ⊥) → BlockBy microsoft f b
    unfolding channel_sound block_valid
    by-microsoft m =
        let p = taken-microsoft f e n m in
        record {
          sound = λ ch. ap (λ (m : ℕ). sound_by f b m ch) p.tag;
          headers = sym (ap (fine_by f b) p.tag);
          whole = omega arith;
          headed = omega (arith, p.sized.least);
          samples = p.samples ∙ ap (ms_samples f.channels) (sym l);
          long = λ ch i. microsoft-frames.sound-long f.channels b ch i;
        }

    pub ima-headers : f.tag ≡ 17 → 4 * f.channels ≤ length b
    ima-headers t = (by-ima t).headed

    pub microsoft-headers : (f.tag ≡ 17 → ⊥) → 7 * f.channels ≤ length b
    microsoft-headers m = (by-microsoft m).headed

  -- ---- its sound
  channel-long : (ch : ℕ) → ch < f.channels → length (channel_sound f b ch) ≡ f.samples
  channel-long ch h =
      by-format f e (length (channel_sound f b ch) ≡ f.samples)
      (λ t p. ap length (sound-pcm f b ch t) ∙ sym p.samples)
      (λ t p. sound-long (by-ima (λ k. omega arith) t) ch h)
      (λ t p. sound-long (by-microsoft (λ k. omega arith) (λ k. omega arith)) ch h)

  abbrev sounds : List (List ℤ)
  sounds = values (channel_sound f b) 0 f.channels

  sounds-count : length sounds ≡ f.channels
  sounds-count = values-long (channel_sound f b) 0 f.channels

  sounds-long : Long f.samples sounds
  sounds-long = values-alike (channel_sound f b) f.samples 0 f.channels (λ ch h g. channel-long ch (omega arith))

  -- all of a block
  pub all-long : length (block_frames f f.samples b) ≡ f.samples * f.channels
  unfolding block_frames
  all-long =
      let o : 1 * f.samples ≡ f.samples = omega arith in
      let k : 1 * length sounds ≡ f.channels = omega (arith, sounds-count) in
      turn-long 1 f.samples sounds (subst (λ (m : ℕ). Long m sounds) (sym o) sounds-long)
      ∙ ap (λ (m : ℕ). m * f.samples) k
      ∙ mul_comm f.channels f.samples

  -- the first n frames
  module _ (n : ℕ) (h : n ≤ f.samples) where
    pub frames-first : block_frames f n b ≡ take (n * f.channels) (block_frames f f.samples b)
    unfolding block_frames
    frames-first =
        turn-first n f.samples sounds h sounds-long
        ∙ ap (λ (k : ℕ). take (n * k) (in_turn 1 f.samples sounds)) sounds-count

    pub frames-long : length (block_frames f n b) ≡ n * f.channels
    frames-long =
        ap length frames-first
        ∙ length-take-le (n * f.channels) (block_frames f f.samples b)
        (omega (arith, all-long, mul-le-mul_right f.channels h))

-- room for n frames from the start of a buffer
pub start-room : (f : Format) (n : ℕ) (d : List ℤ) → n * f.channels ≤ length d → 0 + f.channels * n ≤ length d
start-room f n d r = omega (arith, mul_comm n f.channels)

pub ruleset testing = (fine-pcm, taken-some, taken-two, by-ima, by-microsoft, ima-headers, microsoft-headers, headers-tested)

pub ruleset decoding = (wanted-tag, by-ima, by-microsoft, frames-decodable, frames-put)

pub ruleset single = (taken-samples, start-room, put_front)
