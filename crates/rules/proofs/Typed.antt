-- The numbers of a record of the code fit the fields that they are written to, since its types say so, of an array for each
-- entry. Assumes nothing.
use mathlib.Core.List.{List, [], ◌∷◌}
use Prim.Native.Nat.{ℕ, zero, suc, ◌<◌}
use lib.ListN.{get_or}
use borrow.Author.Rules.{rules}
use mir.Val.{Val}
use base.Fml.{Fml}
use denote.Shadow.{shadow}
use denote.Array.{each}
use denote.Laws.{Is}
use Rattle.tables.specs.declared.Cue.{Cue}
use Rattle.tables.specs.declared.Cues.{Cues}
use Rattle.tables.specs.declared.Play.{Play}
use Rattle.tables.specs.declared.Playlist.{Playlist}
use Rattle.tables.specs.Cues.{no_cue}
use Rattle.tables.specs.Plays.{no_play}
use Rattle.tables.specs.Bytes.{CuesFit, PlaysFit}
use Rattle.tables.specs.contracts.Cue as cue
use Rattle.tables.specs.contracts.Cues as cues
use Rattle.tables.specs.contracts.Play as play
use Rattle.tables.specs.contracts.Playlist as plays
use Rattle.titles.specs.declared.Title.{Title}
use Rattle.titles.specs.declared.Titles.{Titles}
use Rattle.titles.specs.Titles.{no_title}
use Rattle.titles.specs.Writing.{TitlesFit}
use Rattle.titles.specs.contracts.Title as title
use Rattle.titles.specs.contracts.Titles as titles
use Rattle.rules.specs.declared.Record.{Record}
use Rattle.rules.specs.Written.{RecordFits}
use Rattle.rules.specs.contracts.Record as made

-- what each entry of an array keeps, the one at any place keeps, where the one past the end does
module _ {A : Type 0} (own : A → List Val → Fml) (P : A → Type 0) (z : A) (none : P z)
    (one : (x : A) (u : Val) → shadow (own x (u ∷ [])) → P x) where
  each_keeps : (xs : List A) (us : List Val) → shadow (each A own xs us) → (i : ℕ) → P (get_or xs i z)
  each_keeps [] us s i = none
  each_keeps (x ∷ xs) [] s i = absurd s
  each_keeps (x ∷ xs) (u ∷ us) s zero = one x u s.0
  each_keeps (x ∷ xs) (u ∷ us) s (suc i) = each_keeps xs us s.1 i

-- three numbers of an entry
abbrev Three : (A : Type 0) → (a b c : A → ℕ) → A → Type 0
Three A a b c x = (a x < 4294967296) × (b x < 4294967296) × (c x < 4294967296)

cues-typed : (c : Cues) (vs : List Val) → Is cues.the_row c vs → CuesFit c
cues-typed c vs s =
    let l = s.1.1.1.0 in
    let e =
    each_keeps (cue.the_row).own_val (Three Cue (λ x. x.name.0) (λ x. x.position.0) (λ x. x.place.0)) no_cue
    (search rules) (λ x u h. search rules) c.list l.0 l.1.1 in
    record {
      count = search rules;
      room = l.1.0.1;
      name = λ i. (e i).0;
      position = λ i. (e i).1;
      place = λ i. (e i).2;
    }

plays-typed : (p : Playlist) (vs : List Val) → Is plays.the_row p vs → PlaysFit p
plays-typed p vs s =
    let l = s.1.1.1.0 in
    let e =
    each_keeps (play.the_row).own_val (Three Play (λ x. x.name.0) (λ x. x.length.0) (λ x. x.times)) no_play
    (search rules) (λ x u h. search rules) p.list l.0 l.1.1 in
    record {
      count = search rules;
      room = l.1.0.1;
      name = λ i. (e i).0;
      long = λ i. (e i).1;
      times = λ i. (e i).2;
    }

titles-typed : (t : Titles) (vs : List Val) → Is titles.the_row t vs → TitlesFit t
titles-typed t vs s =
    let l = s.1.1.1.0 in
    record {
      room = l.1.0.1;
      name = each_keeps (title.the_row).own_val (λ (x : Title). x.name.0 < 4294967296) no_title (search rules)
          (λ x u h. search rules) t.list l.0 l.1.1;
    }

-- of a record that the code holds
pub record-typed : (m : Record) (vs : List Val) → Is made.the_row m vs → RecordFits m
record-typed m vs s =
    let a = s.1.1 in
    record {
      format = search rules;
      frames = search rules;
      cues = cues-typed m.cues _ a.1.1.0;
      plays = plays-typed m.playlist _ a.1.1.1.0;
      titles = titles-typed m.titles _ a.1.1.1.1.0;
    }
