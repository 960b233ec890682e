-- A name among the cues, and a table without entries, in the words of the code. Assumes nothing.
use Rattle.std.proofs.Common.{◌≡◌, false, List, map, ℕ, ◌≤◌, ◌<◌, arith, length, take, replicate, length-take, Option, None, Some, MatchOption}
use Rattle.lists.specs.Among.{index_in, has, place_in}
use Rattle.lists.proofs.Laws.{place-found}
use Rattle.tables.specs.declared.Cue.{Cue}
use Rattle.tables.specs.declared.Cues.{Cues}
use Rattle.tables.specs.declared.Play.{Play}
use Rattle.tables.specs.Tables.{held}
use Rattle.tables.specs.Cues.{no_cue, no_cues, name_of, names_in}
use Rattle.tables.specs.Plays.{no_play, no_plays}
use Rattle.tables.proofs.Entries.{held-room}

-- ---- a name
pub name-sought : (c : Cues) (x : ℕ) {n : ℕ} {names : List ℕ} {r : Option ℕ} → n ≡ held c.count → names ≡ map name_of c.list
    → r ≡ place_in x (take n names) → r ≡ place_in x (names_in c)
unfolding names_in
name-sought c x e g h = simp (← e, ← g, h)

names-few : (c : Cues) → length (names_in c) ≤ held c.count
unfolding names_in
names-few c = omega (arith, length-take (held c.count) (map name_of c.list))

-- no cue has it, or the first that has it stands at an index that is held
pub cue-found : (c : Cues) (x : ℕ) (r : Option ℕ) → r ≡ place_in x (names_in c)
    → MatchOption r (has x (names_in c) ≡ false)
    (λ i. (i ≡ index_in x (names_in c)) × (i < length (names_in c)) × (i < held c.count) × (i < 64))
cue-found c x None e = place-found x (names_in c) e
cue-found c x (Some i) e =
    let p : (i ≡ index_in x (names_in c)) × (i < length (names_in c)) = place-found x (names_in c) e in
    let l = p.1 in
    (p.0, l, omega (arith, names-few c), omega (arith, names-few c, held-room c.count))

-- ---- a table without entries
