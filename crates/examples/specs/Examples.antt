-- The examples of document 01 that are marked P, all of them and in its order, as one list under one statement. Assumes nothing.
use Rattle.std.specs.Prelude.{ℕ, ◌≡◌, cond, List, [], ◌∷◌, ◌++◌, map, ℤ, pos, negsuc, take, drop, replicate}
use Rattle.units.specs.Refusals.{verdict_number}
use Rattle.formats.specs.declared.Format.{Format}
use Rattle.formats.specs.Format.{ms_samples, plain_format, ima_format}
use Rattle.ima_code.specs.declared.ImaState.{ImaState}
use Rattle.ima_code.specs.Code.{code_for, tracked, is_chased}
use Rattle.encode.specs.Encoding.{encoded_bytes, chased_count}
use Rattle.sound_data.specs.Sound.{whole_sound}
use Rattle.decode.specs.Decoding.{whole_verdict}

-- what the definitions give, and what document 01 prints
pub record Example : Type 0 where
  pub given : List ℤ
  pub printed : List ℤ

-- ---- what is asked of the definitions

-- IMA after 0 at index 0: the code of a sample, what is decoded, and whether it is chased
unfoldable pub coded : ℤ → List ℤ
coded x =
    let t : ImaState = record { last = pos 0; index = 0 } in
    pos (code_for t x) ∷ (tracked t x).last ∷ pos (cond (is_chased t x) 1 0) ∷ []

-- a mono sound at align 12: its blocks, and how many samples are chased
unfoldable pub written : List ℤ → List ℤ
written s = map pos (encoded_bytes 1 12 s) ++ (pos (chased_count 1 12 s 0) ∷ [])

-- the number of decoding sound data that are an IMA block of 8 bytes, which has 9 samples, whose header holds an index
unfoldable pub headed : ℕ → List ℤ
headed i = pos (verdict_number (whole_verdict (ima_format 1 8000 8) 9 (0 ∷ 0 ∷ i ∷ 0 ∷ 0 ∷ 0 ∷ 0 ∷ 0 ∷ []) 9)) ∷ []

-- the sound of data that are a Microsoft block of 8 bytes, which has 4 samples
unfoldable pub microsoft_sound : List ℕ → List ℤ
microsoft_sound block =
    let format : Format = record { tag = 2; channels = 1; rate = 8000; bits = 4; align = 8; samples = ms_samples 1 8 } in
    whole_sound format 4 block

-- the sound of 8-bit PCM, n frames
unfoldable pub eights : ℕ → List ℕ → List ℤ
eights n bytes = whole_sound (plain_format 1 8000 8) n bytes

-- ---- the examples

unfoldable pub examples : List Example
examples =
    -- IMA after 0 at index 0: 13 gives code 7, decoded 11; 14 gives 7, decoded 11, chased; -1 gives 9, decoded -1
    record { given = coded (pos 13); printed = pos 7 ∷ pos 11 ∷ pos 0 ∷ [] }
    ∷ record { given = coded (pos 14); printed = pos 7 ∷ pos 11 ∷ pos 1 ∷ [] }
    ∷ record { given = coded (negsuc 0); printed = pos 9 ∷ negsuc 0 ∷ pos 0 ∷ [] }
    -- IMA mono align 12, -32768 then sixteen of 32767: 00 80 00 00 77 77 77 77 77 17 00 00, 11 chased
    ∷ record {
      given = written (negsuc 32767 ∷ replicate 16 (pos 32767));
      printed = map pos (0 ∷ 128 ∷ 0 ∷ 0 ∷ 119 ∷ 119 ∷ 119 ∷ 119 ∷ 119 ∷ 23 ∷ 0 ∷ 0 ∷ 11 ∷ []);
    }
    -- index 88 read, 89 is 15
    ∷ record { given = headed 88; printed = pos 0 ∷ [] }
    ∷ record { given = headed 89; printed = pos 15 ∷ [] }
    -- Microsoft 00 10 00 64 00 32 00 1F gives 50, 100, 116, 100
    ∷ record {
      given = microsoft_sound (0 ∷ 16 ∷ 0 ∷ 100 ∷ 0 ∷ 50 ∷ 0 ∷ 31 ∷ []);
      printed = pos 50 ∷ pos 100 ∷ pos 116 ∷ pos 100 ∷ [];
    }
    -- pair 4, newer -1, nibble 0 gives 0: the first sample after the older and the newer
    ∷ record { given = take 1 (drop 2 (microsoft_sound (4 ∷ 16 ∷ 0 ∷ 255 ∷ 255 ∷ 0 ∷ 0 ∷ 0 ∷ []))); printed = pos 0 ∷ [] }
    -- 8-bit 0, 128, 255 give -32768, 0, 32512
    ∷ record { given = eights 3 (0 ∷ 128 ∷ 255 ∷ []); printed = negsuc 32767 ∷ pos 0 ∷ pos 32512 ∷ [] }
    ∷ []

unfoldable pub Worked : Type 0
Worked = map (λ e. e.given) examples ≡ map (λ e. e.printed) examples
