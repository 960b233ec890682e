-- The record of a copy keeps every rule of writing: its sound is whole blocks, as many as its frames fill or begin.
-- Assumes nothing.
use mathlib.Core.Path.{◌≡◌, refl, sym, ap, ◌∙◌}
use mathlib.Core.Bool.{Bool, true, false, ◌&&◌}
use mathlib.Core.List.{List}
use Prim.Native.Nat.{ℕ, ◌*◌, ◌/◌, ◌%◌, ◌≤◌}
use native.Mathlib.Nat.{mul-div_cancel, mul-mod_left, zero-mul}
use native.Mathlib.Omega.{arith}
use lib.IntN.{ℤ}
use lib.ListN.{length}
use borrow.Author.Tests.{eq-eqb, ne_eqb}
use Rattle.little.proofs.Tests.{tests}
use Rattle.lists.specs.Among.{distinct}
use Rattle.lists.specs.Every.{every, all_below}
use Rattle.units.specs.declared.BytePlace.{BytePlace}
use Rattle.units.specs.declared.Frames.{Frames}
use Rattle.formats.specs.Format.{ima_samples, shared, blocked, ima_rule, format_rule, ima_stored, ima_format}
use Rattle.formats.specs.Frames.{whole_blocks, blocks_in, count_fits, frames_rule}
use Rattle.formats.proofs.Counts.{count-empty, count-is, frames-counted}
use Rattle.formats.proofs.Making.{Codable, codable-says, stored-none, stored-per}
use Rattle.lists.proofs.Laws.{by_eqb}
use Rattle.tables.specs.Tables.{held}
use Rattle.tables.specs.Cues.{names_in, places_in, cues_rule}
use Rattle.tables.specs.Plays.{all_playable, plays_rule}
use Rattle.encode.specs.Encoding.{blocks_for, encoded_bytes}
use Rattle.encode.proofs.Answers.{length-encoded}
use Rattle.encode.proofs.Blocks.{per-some}
use Rattle.encode.proofs.Frames.{blocks-enough}
use Rattle.encode.proofs.Heard.{length-bytes-of}
use Rattle.approval.specs.Approval.{approval_record}
use Rattle.approval.specs.Demands.{RulesHold, RuleBroken}

module _ {c a : ℕ} (w : Codable c a) where
  -- ---- 9
  format-kept : (rate : ℕ) → 1 ≤ rate → rate ≤ 192000 → format_rule (ima_format c rate a) ≡ true
  unfolding format_rule shared ima_rule blocked ima_format
  format-kept rate h g =
      let some = w.some in
      let two = w.two in
      let whole = w.whole in
      let least = w.least in
      let most = w.most in
      let per : ima_stored c a ≡ ima_samples c a = stored-per w in
      simp tests

  -- ---- 10 and 11, for a sound s
  module _ (s : List ℤ) where
    abbrev blocks : ℕ
    blocks = blocks_for c a (length s)

    abbrev size : BytePlace
    size = record { 0 = length (encoded_bytes c a s) }

    pub sound-long : length (encoded_bytes c a s) ≡ blocks * a
    sound-long = length-encoded c a s (length-bytes-of w s)

    some-align : 1 ≤ a
    some-align = omega (arith, w.some, w.least)

    whole-kept : (rate : ℕ) → whole_blocks (ima_format c rate a) size ≡ true
    unfolding whole_blocks ima_format
    whole-kept rate =
        let h = some-align in
        let e : length (encoded_bytes c a s) % a ≡ 0 = ap (λ (n : ℕ). n % a) sound-long ∙ mul-mod_left blocks a in
        simp tests

    pub blocks-are : (rate : ℕ) → blocks ≡ blocks_in (ima_format c rate a) size
    unfolding blocks_in ima_format
    blocks-are rate = sym (ap (λ (n : ℕ). n / a) sound-long ∙ mul-div_cancel blocks some-align)

    count_fits_lem : true ≡ count_fits blocks (ima_samples c a) (length s / c)
    unfolding blocks_for
    count_fits_lem =
        let p : ℕ = ima_samples c a in
        let f : ℕ = length s / c in
        by_eqb blocks 0 (λ _. true ≡ count_fits blocks p f)
        (λ z.
        let n : f ≡ 0 = omega (arith, blocks-enough c a (length s), ap (λ (k : ℕ). k * p) z, zero-mul p) in
        sym (eq-eqb f 0 n) ∙ count-empty blocks p f z)
        (λ z. sym (eq-eqb blocks blocks refl) ∙ count-is blocks p f z (per-some c a))

    count_kept : (rate : ℕ) → frames_rule (ima_format c rate a) size (record { 0 = length s / c }) ≡ true
    unfolding ima_format
    count_kept rate =
        sym (frames-counted (ima_format c rate a) size (blocks-are rate) (record { 0 = length s / c })
        (λ t. omega arith)
        (count_fits_lem ∙ ap (λ (k : ℕ). count_fits blocks k (length s / c)) (sym (stored-per w))))

-- ---- 12 and 13: the tables are empty
module _ (c rate a : ℕ) (frames : Frames) where
  cues-kept : cues_rule (approval_record c rate a frames).cues frames ≡ true
  unfolding cues_rule names_in places_in held distinct all_below every approval_record
  cues-kept = refl

  plays-kept : plays_rule (approval_record c rate a frames).playlist (approval_record c rate a frames).cues frames ≡ true
  unfolding plays_rule all_playable every approval_record
  plays-kept = refl

-- the rules hold
pub rules-hold : RulesHold
unfolding RulesHold approval_record
rules-hold s c rate a e h g =
    let w : Codable c a = codable-says c a e in
    let frames : Frames = record { 0 = length s / c } in
    record {
      format = format-kept w rate h g;
      whole = whole-kept w s rate;
      count = count_kept w s rate;
      cues = cues-kept c rate a frames;
      plays = plays-kept c rate a frames;
    }

-- ---- where there are no such blocks, the record has 0 samples per block, which the formula never gives
and_none : (b : Bool) → (b && false) ≡ false
and_none true = refl
and_none false = refl

pub rule-broken : RuleBroken
unfolding RuleBroken format_rule ima_rule approval_record ima_format ima_samples
rule-broken s c rate a e =
    let n : ima_stored c a ≡ ima_samples c a → ⊥ = λ t. omega (arith, stored-none c a (sym e) refl) in
    simp (ne_eqb, and_none)
