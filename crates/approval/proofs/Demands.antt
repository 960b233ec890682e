-- Demand 3 for the approval copy: what decoding its file puts out is what is heard of the blocks that encoding wrote.
-- Assumes nothing.
use mathlib.Core.Path.{◌≡◌, refl, sym, ap, ◌∙◌}
use mathlib.Core.Bool.{true}
use mathlib.Core.List.{List, [], ◌∷◌}
use Prim.Native.Nat.{ℕ, ◌+◌, ◌-◌, ◌*◌, ◌/◌, ◌%◌, ◌<◌}
use native.Mathlib.Nat.{mul-div_cancel, mod-lt, div-add-mod'}
use native.Mathlib.Omega.{arith}
use lib.IntN.{ℤ, pos}
use lib.ListN.{length, get_or}
use Rattle.lists.proofs.Laws.{every-all}
use Rattle.units.specs.declared.BytePlace.{BytePlace}
use Rattle.units.specs.declared.Frames.{Frames}
use Rattle.units.specs.Checks.{decided}
use Rattle.formats.specs.declared.Format.{Format}
use Rattle.formats.specs.Frames.{Sounding}
use Rattle.rules.specs.declared.Record.{Record}
use Rattle.reader.specs.Content.{Content, holds, sound_of, sound_in}
use Rattle.reader.proofs.Kept.{content-kept}
use Rattle.ima_code.specs.Quality.{Sixteen, Later}
use Rattle.ima_code.proofs.Machine.{sixteen-none, sixteen-more}
use Rattle.ima_code.proofs.Quality.{in_words}
use Rattle.formats.specs.Format.{ima_samples, codable, ima_stored, ima_format}
use Rattle.formats.proofs.Making.{Codable, codable-is, stored-per}
use Rattle.codec.specs.Codec.{frames_heard, headers_valid}
use Rattle.ima_block.specs.Block.{ima}
use Rattle.encode.specs.declared.Coded.{Coded}
use Rattle.encode.specs.Encoding.{blocks_for, encoded_bytes, encode_verdict}
use Rattle.encode.specs.Answer.{coded_of, encoding}
use Rattle.encode.specs.Demands.{frame_of, block_of_bytes, heard_at, Heard, Quality}
use Rattle.encode.proofs.Answers.{Settled, settled_says}
use Rattle.encode.proofs.Blocks.{per-some, begun}
use Rattle.encode.proofs.Frames.{block-among}
use Rattle.encode.proofs.Demands.{accepted, quality}
use Rattle.writer.specs.File.{file_of, right_titles}
use Rattle.writer.proofs.Files.{sound-limit}
use Rattle.writer.proofs.Settling as settling
use Rattle.writer.proofs.Demands.{bytes-say, content-written}
use Rattle.writer.proofs.Demands as written
use Rattle.sound_data.specs.Sound.{channel_sound, block_frames, block_valid, block_count, block_at, block_sound, whole_sound, data_valid}
use Rattle.sound_data.proofs.Whole.{whole_long, frame-of-whole}
use Rattle.decode.specs.Decoding.{whole_verdict, decoded_by, whole_answer, decoding, content_sound, file_sound}
use Rattle.decode.proofs.Checks.{whole-valid}
use Rattle.approval.specs.Approval.{approval_record}
use Rattle.approval.specs.Demands.{record_for, RulesHold, step_after, Approved, WholeWay, CopyWritten, Met}
use Rattle.approval.proofs.Rules.{blocks-are, rules-hold}
use Rattle.approval.proofs.Sending.{kept_same, titles-right, record-fits, file-below}
use Rattle.std.specs.Prelude.{Ok}

-- ---- what an answer that is blocks says
encoded-says : (s : List ℤ) (c a room : ℕ) (w : Coded) → encoding s c a room ≡ Ok w → Settled (length s) c a room
unfolding encoding
encoded-says s c a room w e =
    settled_says (length s) c a room (accepted (encode_verdict (length s) c a room) e).0

-- ---- a block of the copy is an IMA block
module _ (c rate a : ℕ) where
  block-is : (w : List ℕ) (k : ℕ) → block_at (ima_format c rate a) w k ≡ block_of_bytes a w k
  unfolding block_at block_of_bytes ima_format
  block-is w k = refl

  fine-is : (b : List ℕ) → block_valid (ima_format c rate a) b ≡ headers_valid ima c b
  unfolding block_valid ima_format
  fine-is b = refl

  sound-is : (n : ℕ) (b : List ℕ) → block_frames (ima_format c rate a) n b ≡ frames_heard ima c n b
  unfolding block_frames channel_sound frames_heard ima_format
  sound-is n b = refl

module _ (s : List ℤ) (c rate a : ℕ) (v : Codable c a) where
  abbrev bytes : List ℕ
  bytes = encoded_bytes c a s

  abbrev format : Format
  format = ima_format c rate a

  counted : {k : ℕ} → k < blocks_for c a (length s) → k < block_count format bytes
  unfolding block_count
  counted h = omega (arith, blocks-are v s rate)

  among : {k : ℕ} → k < block_count format bytes → k < blocks_for c a (length s)
  unfolding block_count
  among h = omega (arith, blocks-are v s rate)

  module _ {left right : ℕ} (q : Heard s c a bytes left right) where
    -- no block gives 15
    headers-valid : data_valid format bytes ≡ true
    unfolding data_valid
    headers-valid =
        let p : ℕ = ima_samples c a in
        every-all (λ k. block_valid format (block_at format bytes k)) 0 (block_count format bytes)
        (λ k i l.
        let e : k ≡ k * p / p = sym (mul-div_cancel k (per-some c a)) in
        fine-is c rate a (block_at format bytes k)
        ∙ ap (headers_valid ima c) (block-is c rate a bytes k)
        ∙ ap (λ (m : ℕ). headers_valid ima c (block_of_bytes a bytes m)) e
        ∙ q.valid (k * p) (begun c a (length s) k (among (omega arith))))

    -- frame f of a channel of the whole sound is what is heard of it
    frame-heard : Sounding format (record { 0 = length s / c }) bytes → (ch f : ℕ) → ch < c → f < length s / c
        → get_or (whole_sound format (length s / c) bytes) (c * f + ch) (pos 0) ≡ (heard_at c a bytes ch f).last
    unfolding ima_format block_sound
    frame-heard z ch f l h =
        let p : ℕ = ima_samples c a in
        let k : ℕ = f / p in
        let j : ℕ = f % p in
        let n : ima_stored c a ≡ p = stored-per v in
        let u : f / p * p + f % p ≡ f = div-add-mod' f p in
        let e : k * ima_stored c a + j ≡ f = ap (λ (m : ℕ). k * m + j) n ∙ u in
        ap (λ (m : ℕ). get_or (whole_sound format (length s / c) bytes) (c * m + ch) (pos 0)) (sym e)
        ∙ frame-of-whole z k j ch (counted (block-among c a (length s) f h)) (omega (arith, mod-lt f (per-some c a))) l
        (omega arith)
        ∙ ap (λ (xs : List ℤ). get_or xs (c * j + ch) (pos 0))
        (sound-is c rate a (ima_stored c a) (block_at format bytes k)
        ∙ ap (frames_heard ima c (ima_stored c a)) (block-is c rate a bytes k)
        ∙ ap (λ (m : ℕ). frames_heard ima c m (block_of_bytes a bytes k)) n)
        ∙ q.sounded ch f l h

-- ---- the file
pub approved : Approved
unfolding Approved ima_format Quality decoding file_sound frame_of sound_in
approved s c rate a room most w m file z e form count held enough =
    let t : Settled (length s) c a room = encoded-says s c a room w e in
    let bytes : List ℕ = encoded_bytes c a s in
    let q : Heard s c a bytes w.left.0 w.right.0 = quality s c a room w z e in
    let kept : Sounding (ima_format c rate a) (record { 0 = length s / c }) bytes =
    rw (sym form, sym count) (content-kept file (sym held)) in
    let size : length s / c * c ≡ length s = omega (arith, div-add-mod' (length s) c, t.whole) in
    let same : (ch f : ℕ) → ch < c → f < length s / c
    → frame_of c (file_sound file) ch f ≡ (heard_at c a bytes ch f).last =
    λ ch f l h.
    ap (λ (x : Content). get_or (content_sound x) (c * f + ch) (pos 0)) held
    ∙ (λ i. get_or (whole_sound (form i) (count i).0 bytes) (c * f + ch) (pos 0))
    ∙ frame-heard s c rate a t.valid q kept ch f l h in
    let demand : (ch f : ℕ) → ch < c → f < length s / c → 0 < f % ima_samples c a
    → Later (frame_of c s ch f) (frame_of c (file_sound file) ch f) (frame_of c (file_sound file) ch (f - 1)) (step_after c a s ch (f - 1)) =
    λ ch f l h g. rw (same ch f l h, same ch (f - 1) l (omega arith)) (in_words (q.later ch f l h g)) in
    record {
      sound = ap sound_of held;
      frames =
          ap (λ (x : Content). whole_answer x most) held
          ∙ (λ i. decoded_by (whole_verdict (form i) (count i).0 bytes most) (count i).0)
          ∙ sym (whole-valid (ima_format c rate a) (length s / c) bytes most (omega arith) {valid = true}
          (sym (headers-valid s c rate a t.valid q)) refl);
      long =
          ap (λ (x : Content). length (content_sound x)) held ∙ (λ i. length (whole_sound (form i) (count i).0 bytes))
          ∙ whole_long kept ∙ size;
      decoded = same;
      opening = λ ch f l h g. same ch f l h ∙ q.opening ch f l h g;
      close = λ ch f l h g. (demand ch f l h g).close;
      nearer = λ ch f l h g. (demand ch f l h g).nearer;
      between = λ ch f l h g. (demand ch f l h g).between;
      succession = q.succession;
      quality = q;
    }

-- ---- the whole way
pub whole-way : WholeWay
unfolding WholeWay Approved approval_record
whole-way s c rate a room size most told n z e put enough =
    let m = record_for s c rate a in
    let w : List ℕ = encoded_bytes c a s in
    let frames : Frames = record { 0 = length s / c } in
    let right = right_titles m [] in
    let v = bytes-say right m [] w size n put in
    let k = settling.settled_says right m [] w size v in
    let fits = record-fits c rate a frames k.rules (sound-limit right m [] w size v) in
    let held = content-written m [] w size n fits put ∙ ap (λ (x : Record). holds x w) (kept_same c rate a frames) in
    approved s c rate a room most told m (file_of m [] w) z e refl refl held enough

pub sent : CopyWritten
unfolding CopyWritten RulesHold
sent s c rate a room size told e h g fits =
    let t : Settled (length s) c a room = encoded-says s c a room told e in
    let m = record_for s c rate a in
    let w : List ℕ = encoded_bytes c a s in
    written.accepted m [] w size (rules-hold s c rate a (codable-is t.valid) h g) (titles-right c rate a (record { 0 = length s / c }))
    (file-below s c rate a t.valid t.small) fits

-- ---- the premises can be met
abbrev two : List ℤ
two = pos 0 ∷ pos 13 ∷ []

two-taken : encoding two 1 12 12 ≡ Ok (coded_of 1 12 two)
unfolding encoding encode_verdict decided codable blocks_for ima_samples
two-taken = refl

pub met : Met
unfolding Met WholeWay CopyWritten
met size h =
    let n : BytePlace = record { 0 = length (file_of (record_for two 1 8000 12) [] (encoded_bytes 1 12 two)) } in
    let z : Sixteen two = sixteen-more (omega arith) (sixteen-more (omega arith) sixteen-none) in
    let put = sent two 1 8000 12 12 size (coded_of 1 12 two) two-taken (omega arith) (omega arith) h in
    (put, whole-way two 1 8000 12 12 size 2 (coded_of 1 12 two) n z two-taken put (omega arith))
