-- The chunk `fmt `: what it says, its form, and the rule on what it says. Assumes nothing.
use Rattle.std.specs.Prelude.{ℕ, ◌+◌, ◌-◌, ◌*◌, ◌/◌, ◌%◌, Bool, false, cond, ◌&&◌, ◌||◌, List, [], ◌∷◌, leb, eqb, ℤ, pos, neg_ℤ, length, get_or}
use Rattle.little.specs.Numbers.{number_at}
use Rattle.samples.specs.Sound.{bits_of}
use Rattle.lists.specs.Every.{every}
use Rattle.formats.specs.declared.Format.{Format}

-- ---- what it says

-- a value for each format of document 01, by its tag: PCM is 1, IMA 17, Microsoft 2; and one for every other tag
abbrev pub by_tag : {A : Type 0} → ℕ → A → A → A → A → A
by_tag tag pcm ima microsoft other = cond (eqb tag 1) pcm (cond (eqb tag 17) ima (cond (eqb tag 2) microsoft other))

-- samples per block: a stored field, 1 for PCM
unfoldable pub samples_field : List ℕ → ℕ → ℕ
samples_field s tag = cond (eqb tag 1) 1 (number_at 2 s 18)

-- in a `fmt ` stand tag, channels, rate, average, align and bits, then extension size and samples per block
unfoldable pub format_of : List ℕ → Format
format_of s =
    record {
      tag = number_at 2 s 0;
      channels = number_at 2 s 2;
      rate = number_at 4 s 4;
      align = number_at 2 s 12;
      bits = number_at 2 s 14;
      samples = samples_field s (number_at 2 s 0);
    }

-- ---- its form: what the bytes must hold besides

-- "at least 20 bytes, extension size at least 2, 18 + extension size within the chunk", or 50 bytes and 32
unfoldable pub extended : ℕ → ℕ → List ℕ → Bool
extended size extension s =
    leb size (length s) && leb extension (number_at 2 s 16) && leb (18 + number_at 2 s 16) (length s)

-- the seven pairs
abbrev pub pairs : List (List ℤ)
pairs =
    (pos 256 ∷ pos 0 ∷ [])
    ∷ (pos 512 ∷ neg_ℤ (pos 256) ∷ [])
    ∷ (pos 0 ∷ pos 0 ∷ [])
    ∷ (pos 192 ∷ pos 64 ∷ [])
    ∷ (pos 240 ∷ pos 0 ∷ [])
    ∷ (pos 460 ∷ neg_ℤ (pos 208) ∷ [])
    ∷ (pos 392 ∷ neg_ℤ (pos 232) ∷ [])
    ∷ []

-- a pair stands at a place, as two signed 16-bit numbers
unfoldable pub pair_at : List ℕ → ℕ → List ℤ → Bool
pair_at s at pair = eqb (number_at 2 s at) (bits_of (get_or pair 0 (pos 0))) && eqb (number_at 2 s (at + 2)) (bits_of (get_or pair 1 (pos 0)))

-- the pair count is 7, and exactly the seven pairs follow it
unfoldable pub pairs_form : List ℕ → Bool
pairs_form s = eqb (number_at 2 s 20) 7 && every (λ i. pair_at s (22 + 4 * i) (get_or pairs i [])) 0 7

-- average = rate x align
unfoldable pub average : List ℕ → Bool
average s = eqb (number_at 4 s 8) (number_at 4 s 4 * number_at 2 s 12)

-- at least 16 bytes, and what the tag asks for
unfoldable pub format_form : List ℕ → Bool
format_form s =
    leb 16 (length s) && by_tag (number_at 2 s 0) (average s) (extended 20 2 s) (extended 50 32 s && pairs_form s) false

-- ---- samples per block, of c channels in blocks of align a

-- IMA: (align - 4 x channels) x 2 / channels + 1
unfoldable pub ima_samples : ℕ → ℕ → ℕ
ima_samples c a = (a - 4 * c) * 2 / c + 1

-- Microsoft: (align - 7 x channels) x 2 / channels + 2
unfoldable pub ms_samples : ℕ → ℕ → ℕ
ms_samples c a = (a - 7 * c) * 2 / c + 2

-- ---- the rule on what it says

-- 1 or 2 channels, rate 1 to 192,000
unfoldable pub shared : Format → Bool
shared f = leb 1 f.channels && leb f.channels 2 && leb 1 f.rate && leb f.rate 192000

-- bits 8 or 16, block align = channels x bits / 8; a block is one frame
unfoldable pub pcm_rule : Format → Bool
pcm_rule f = (eqb f.bits 8 || eqb f.bits 16) && eqb f.align (f.channels * f.bits / 8) && eqb f.samples 1

-- bits 4; align from 8 x channels to 4,096
unfoldable pub blocked : Format → Bool
blocked f = eqb f.bits 4 && leb (8 * f.channels) f.align && leb f.align 4096

-- align a multiple of 4 x channels; samples per block by the formula
unfoldable pub ima_rule : Format → Bool
ima_rule f = blocked f && eqb (f.align % (4 * f.channels)) 0 && eqb f.samples (ima_samples f.channels f.align)

-- samples per block by the formula
unfoldable pub microsoft_rule : Format → Bool
microsoft_rule f = blocked f && eqb f.samples (ms_samples f.channels f.align)

unfoldable pub format_rule : Format → Bool
format_rule f = shared f && by_tag f.tag (pcm_rule f) (ima_rule f) (microsoft_rule f) false

-- ---- formats by what they are made of

-- PCM: a frame has channels x bits / 8 bytes
unfoldable pub plain_format : ℕ → ℕ → ℕ → Format
plain_format c rate bits = record { tag = 1; channels = c; rate = rate; bits = bits; align = c * bits / 8; samples = 1 }

-- whether IMA has blocks of c channels and align a: 1 or 2 channels; align a multiple of 4 x channels, from 8 x channels to 4,096
unfoldable pub codable : ℕ → ℕ → Bool
codable c a = leb 1 c && leb c 2 && eqb (a % (4 * c)) 0 && leb (8 * c) a && leb a 4096

-- samples per block by the formula; 0, which no format has, where there are no such blocks
unfoldable pub ima_stored : ℕ → ℕ → ℕ
ima_stored c a = cond (codable c a) (ima_samples c a) 0

-- IMA in blocks of align a
unfoldable pub ima_format : ℕ → ℕ → ℕ → Format
ima_format c rate a = record { tag = 17; channels = c; rate = rate; bits = 4; align = a; samples = ima_stored c a }
