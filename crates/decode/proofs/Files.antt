-- Decoding a file: reading's refusals first, and else the checks on the sound data that it hands out. Assumes nothing.
use mathlib.Core.Path.{◌≡◌, refl, sym, ap, ◌∙◌}
use mathlib.Core.Bool.{true}
use mathlib.Core.List.{List, []}
use Prim.Native.Nat.{ℕ}
use lib.IntN.{ℤ}
use Rattle.little.specs.Writing.{holding}
use Rattle.units.specs.declared.Refusal.{Refusal}
use Rattle.formats.specs.Format.{format_rule}
use Rattle.formats.specs.Frames.{Sounding}
use Rattle.riff.specs.Walk.{part_of}
use Rattle.reader.specs.Content.{Content, holds, content_of, reading, sound_spot}
use Rattle.reader.proofs.Demands.{sound-placed}
use Rattle.reader.proofs.Kept.{content-refused, content-taken, content-kept}
use Rattle.sound_data.specs.Sound.{block_sound, whole_sound}
use Rattle.decode.specs.Decoding.{whole_verdict, block_verdict, decoded_by, whole_answer, block_answer, decoding, block_decoding, content_sound, content_block, file_sound, file_block, decoded_verdict, Decoded}
use Rattle.riff.specs.Chunks.{Spot}
use Rattle.std.specs.Prelude.{Err, Ok}
use Rattle.rules.specs.declared.Record.{Record}

module _ (s : List ℕ) where
  module _ {r : Refusal} (e : reading s ≡ Err r) where
    pub file-refused : (room : ℕ) → Err r ≡ decoding s room
    unfolding decoding
    file-refused room = ap (λ (c : Content). whole_answer c room) (content-refused s (sym e) refl)

    pub block_refused : (k room : ℕ) → Err r ≡ block_decoding s k room
    unfolding block_decoding
    block_refused k room = ap (λ (c : Content). block_answer c k room) (content-refused s (sym e) refl)

  module _ {m : Record} (e : reading s ≡ Ok m) {spot : Spot} {w : List ℕ} (f : spot ≡ sound_spot s) (g : w ≡ part_of s spot []) where
    content : holds m w ≡ content_of s
    content = content-taken s (sym e) refl (sound-placed s f g)

    pub file-sounding : Sounding m.format m.frames w
    file-sounding = content-kept s content

    pub file-taken : (room : ℕ) {a : Decoded}
        → a ≡ decoded_by (whole_verdict m.format m.frames.0 w room) m.frames.0 → a ≡ decoding s room
    unfolding decoding
    file-taken room i = i ∙ ap (λ (c : Content). whole_answer c room) content

    pub file-held : (a : Decoded) (d : List ℤ) {out : List ℤ}
        → out ≡ holding (decoded_verdict a) (whole_sound m.format m.frames.0 w) d → out ≡ holding (decoded_verdict a) (file_sound s) d
    unfolding file_sound
    file-held a d i = i ∙ ap (λ (c : Content). holding (decoded_verdict a) (content_sound c) d) content

    pub block-taken : (k room : ℕ) {a : Decoded}
        → a ≡ decoded_by (block_verdict m.format w k room) m.format.samples → a ≡ block_decoding s k room
    unfolding block_decoding
    block-taken k room i = i ∙ ap (λ (c : Content). block_answer c k room) content

    pub block_held : (k : ℕ) (a : Decoded) (d : List ℤ) {out : List ℤ}
        → out ≡ holding (decoded_verdict a) (block_sound m.format w k) d → out ≡ holding (decoded_verdict a) (file_block s k) d
    unfolding file_block
    block_held k a d i = i ∙ ap (λ (c : Content). holding (decoded_verdict a) (content_block c k) d) content

    pub block-rule : format_rule m.format ≡ true
    block-rule = file-sounding.rule

pub ruleset files = (file-refused, block_refused, file-sounding, file-taken, file-held, block-taken, block_held, block-rule)
