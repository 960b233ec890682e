-- A record that chunks make: where it keeps the rules it fits the fields that it is written to, and it is as it would be read back.
-- The same holds with titles that fit and are as they would be read back, since titles stand by themselves. Assumes nothing.
use mathlib.Core.Path.{◌≡◌, refl, sym, subst, ◌∙◌}
use Prim.Native.Nat.{◌≤◌, ◌<◌}
use native.Mathlib.Omega.{arith}
use lib.Dec.{T}
use lib.ListN.{length-replicate}
use lib.Pow.{are_bytes}
use Rattle.units.specs.Refusals.{file_limit}
use Rattle.formats.proofs.Bounds.{taken-fits, frames-bound}
use Rattle.tables.proofs.Again.{cues-fit, plays-fit, cues-kept-read, plays-kept-read}
use Rattle.tables.proofs.Entries.{all-zero}
use Rattle.titles.specs.declared.Title.{Title}
use Rattle.titles.specs.declared.Titles.{Titles}
use Rattle.titles.specs.Titles.{no_title, no_titles, table_of}
use Rattle.titles.specs.Writing.{titles_kept, TitlesFit}
use Rattle.rules.specs.declared.Record.{Record}
use Rattle.rules.specs.Rules.{ChunkBytes, record_of, with_titles, Writable}
use Rattle.rules.specs.Written.{record_kept, RecordFits}

-- ---- no titles
pub none-fit : TitlesFit no_titles
none-fit =
    record {
      room = length-replicate 128 no_title;
      name = λ i. subst (λ (t : Title). t.name.0 < 4294967296) (sym (all-zero no_title 128 i)) (omega arith);
    }

pub none_kept : titles_kept no_titles ≡ no_titles
unfolding titles_kept table_of
none_kept = refl

-- ---- other titles
module _ (m : Record) (t : Titles) where
  pub titled-fits : RecordFits m → TitlesFit t → RecordFits (with_titles m t)
  titled-fits f g = record { format = f.format; frames = f.frames; cues = f.cues; plays = f.plays; titles = g }

  pub titled-kept : record_kept (with_titles m t) ≡ with_titles (record_kept m) (titles_kept t)
  unfolding record_kept
  titled-kept = refl

-- ---- of chunks
module _ (b : ChunkBytes) where
  abbrev m : Record
  m = record_of b

  pub record-fits : T (are_bytes b.cues) → T (are_bytes b.plays) → b.sound.0 ≤ file_limit → Writable m b.sound → RecordFits m
  unfolding record_of
  record-fits t u l k =
      record {
        format = taken-fits m.format k.format;
        frames = frames-bound m.format b.sound m.frames k.format k.count l;
        cues = cues-fit b.cues t;
        plays = plays-fit b.plays u;
        titles = none-fit;
      }

  pub kept_read : record_kept m ≡ m
  unfolding record_kept record_of
  kept_read =
      λ i. record {
        format = m.format;
        frames = m.frames;
        cues = cues-kept-read b.cues i;
        playlist = plays-kept-read b.plays i;
        titles = none_kept i;
      }

  pub titled-kept-read : {t : Titles} → titles_kept t ≡ t → record_kept (with_titles m t) ≡ with_titles m t
  titled-kept-read {t} q = titled-kept m t ∙ (λ i. with_titles (kept_read i) (q i))
