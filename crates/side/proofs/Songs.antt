-- Cues and entries that tile the frames, by induction from the last one back; and the songs that they are. Assumes nothing.
use mathlib.Core.Path.{◌≡◌, refl, sym, ap, ◌∙◌, subst}
use mathlib.Core.Bool.{Bool, true, false, cond, ◌&&◌, ◌||◌}
use mathlib.Core.List.{List, [], ◌∷◌, ◌++◌, map}
use Prim.Native.Nat.{ℕ, suc, ◌+◌, ◌*◌, ◌≤◌}
use native.Mathlib.Nat.{mul-add, mul-le-mul_left}
use native.Mathlib.Omega.{arith}
use lib.Dec.{T, eqb}
use lib.ListN.{length, take, drop, length-drop}
use lib.Seq.{take_all, take-append-le, drop-append-le, drop_at, length-take-le}
use borrow.Author.Tests.{eq-eqb, eqb-true}
use Rattle.lists.specs.Among.{index_in, has}
use Rattle.lists.proofs.Laws.{and_both}
use Rattle.units.specs.declared.Donation.{Donation}
use Rattle.units.specs.declared.Frames.{Frames}
use Rattle.formats.specs.declared.Format.{Format}
use Rattle.tables.specs.declared.Cue.{Cue}
use Rattle.tables.specs.declared.Cues.{Cues}
use Rattle.tables.specs.declared.Play.{Play}
use Rattle.tables.specs.declared.Playlist.{Playlist}
use Rattle.tables.specs.Cues.{name_of}
use Rattle.rules.specs.declared.Record.{Record}
use Rattle.side.specs.Side.{Song, sixteen_bit, cue_list, play_list, tiled, is_side, side_by, side_read, frames_at, song_of, songs_of, is_listed}
use Rattle.lists.proofs.Behind.{has_first}
use Rattle.side.proofs.Sixteen.{sixteen-says}
use Rattle.units.specs.Refusals.{Verdict}
use Rattle.std.specs.Prelude.{Err, Ok}
use Rattle.rules.specs.Rules.{record_in, reading_verdict, Reading}

-- an entry plays a cue once
pub record Once (c : Cue) (p : Play) : Type 0 where
  pub name : p.name.0 ≡ c.name.0
  pub times : p.times ≡ 1

-- what is so at F, where none is left, and of one more before those of which it is so, is so of all
pub by-tiles : (f : ℕ) (P : List Cue → List Play → ℕ → Type 0) → P [] [] f
    → ((c : Cue) (p : Play) (cs : List Cue) (ps : List Play) → Once c p → P cs ps (c.place.0 + p.length.0)
    → P (c ∷ cs) (p ∷ ps) c.place.0)
    → (cs : List Cue) (ps : List Play) (at : ℕ) → tiled cs ps at f ≡ true → P cs ps at
unfolding tiled
by-tiles f P none next [] [] at e = subst (P [] []) (sym (eqb-true at f e)) none
by-tiles f P none next [] (p ∷ ps) at e = absurd (subst T (sym e) tt)
by-tiles f P none next (c ∷ cs) [] at e = absurd (subst T (sym e) tt)
by-tiles f P none next (c ∷ cs) (p ∷ ps) at e =
    let a : Bool = eqb c.place.0 at in
    let b : Bool = eqb p.name.0 c.name.0 in
    let d : Bool = eqb p.times 1 in
    let x = and_both (a && b && d) (tiled cs ps (at + p.length.0) f) e in
    let y = and_both (a && b) d x.0 in
    let z = and_both a b y.0 in
    let g : c.place.0 ≡ at = eqb-true c.place.0 at z.0 in
    let o : Once c p = record { name = eqb-true p.name.0 c.name.0 z.1; times = eqb-true p.times 1 y.1 } in
    subst (P (c ∷ cs) (p ∷ ps)) g
    (next c p cs ps o (subst (λ (k : ℕ). P cs ps (k + p.length.0)) (sym g) (by-tiles f P none next cs ps (at + p.length.0) x.1)))

module _ (f : ℕ) (cs : List Cue) (ps : List Play) (at : ℕ) (e : tiled cs ps at f ≡ true) where
  pub tiled-long : length cs ≡ length ps
  tiled-long = by-tiles f (λ cs ps at. length cs ≡ length ps) refl (λ c p cs ps o h. ap suc h) cs ps at e

  -- one more, from F on
  pub tiled-more : (c : Cue) (p : Play) → c.place.0 ≡ f → Once c p
      → tiled (cs ++ (c ∷ [])) (ps ++ (p ∷ [])) at (f + p.length.0) ≡ true
  unfolding tiled
  tiled-more c p g o =
      let n : ℕ = f + p.length.0 in
      by-tiles f (λ cs ps at. tiled (cs ++ (c ∷ [])) (ps ++ (p ∷ [])) at n ≡ true)
      (simp (eq-eqb c.place.0 f g, eq-eqb p.name.0 c.name.0 o.name, eq-eqb p.times 1 o.times, eq-eqb n n refl))
      (λ d q ds qs r h.
      simp (eq-eqb d.place.0 d.place.0 refl, eq-eqb q.name.0 d.name.0 r.name, eq-eqb q.times 1 r.times, h))
      cs ps at e

-- ---- their songs
pub songs-long : (f : Format) (w : List ℕ) (cs : List Cue) (ps : List Play) → length cs ≡ length ps
    → length (songs_of f w cs ps) ≡ length cs
unfolding songs_of
songs-long f w [] ps e = refl
songs-long f w (c ∷ cs) [] e = sym e
songs-long f w (c ∷ cs) (p ∷ ps) e = ap suc (songs-long f w cs ps (omega arith))

or-cond : (a b : Bool) → (a || b) ≡ cond a true b
or-cond true b = refl
or-cond false b = refl

-- a number is listed where a cue has it as its name
pub songs-named : (n : Donation) (f : Format) (w : List ℕ) (cs : List Cue) (ps : List Play) → length cs ≡ length ps
    → is_listed n (songs_of f w cs ps) ≡ has n.0 (map name_of cs)
unfolding songs_of is_listed has index_in
songs-named n f w [] ps e = refl
songs-named n f w (c ∷ cs) [] e = absurd (omega arith)
songs-named n f w (c ∷ cs) (p ∷ ps) e =
    or-cond (eqb c.name.0 n.0) (is_listed n (songs_of f w cs ps))
    ∙ ap (cond (eqb c.name.0 n.0) true) (songs-named n f w cs ps (omega arith))
    ∙ sym (has_first n.0 c.name.0 (map name_of cs))

-- ---- more sound behind the old
module _ (f : Format) (w v : List ℕ) where
  -- a song within the old sound stays as it was
  song-stays : (place long : Frames) → f.align * (place.0 + long.0) ≤ length w
      → frames_at f (w ++ v) place long ≡ frames_at f w place long
  unfolding frames_at
  song-stays place long h =
      let a : ℕ = f.align * place.0 in
      let b : ℕ = f.align * long.0 in
      let g : f.align * (place.0 + long.0) ≡ a + b = mul-add f.align place.0 long.0 in
      ap (take b) (drop-append-le a w v (omega arith)) ∙ take-append-le b (drop a w) v (omega (arith, length-drop a w))

  -- the new sound is a song of its own
  pub song-last : (place long : Frames) → length w ≡ f.align * place.0 → length v ≡ f.align * long.0
      → frames_at f (w ++ v) place long ≡ v
  unfolding frames_at
  song-last place long h g =
      let n : ℕ = f.align * long.0 in
      ap (take n) (drop_at w v (f.align * place.0) h) ∙ take_all n v (omega arith)

  -- one song more, from F on
  pub songs-more : (frames at : ℕ) (cs : List Cue) (ps : List Play) (c : Cue) (p : Play)
      → tiled cs ps at frames ≡ true → f.align * frames ≤ length w
      → songs_of f (w ++ v) (cs ++ (c ∷ [])) (ps ++ (p ∷ [])) ≡ songs_of f w cs ps ++ (song_of f (w ++ v) c p ∷ [])
  unfolding songs_of
  songs-more frames at cs ps c p e h =
      let l : List Song = song_of f (w ++ v) c p ∷ [] in
      (by-tiles frames
      (λ cs ps at. (at ≤ frames) × (songs_of f (w ++ v) (cs ++ (c ∷ [])) (ps ++ (p ∷ [])) ≡ songs_of f w cs ps ++ l))
      (omega arith, refl)
      (λ d q ds qs o r.
      let n : ℕ = d.place.0 + q.length.0 in
      let within : f.align * n ≤ f.align * frames = mul-le-mul_left f.align r.0 in
      let t = song-stays d.place q.length (omega arith) in (
        omega (arith, r.0),
        λ i. (record { number = d.name; position = d.position; place = d.place; frames = q.length; sound = t i } ∷ r.1 i),
      ))
      cs ps at e).1

-- ---- what a side says
module _ (m : Record) (e : is_side m ≡ true) where
  parts : (sixteen_bit m.format ≡ true) × (tiled (cue_list m) (play_list m) 0 m.frames.0 ≡ true)
  unfolding is_side
  parts = and_both (sixteen_bit m.format) (tiled (cue_list m) (play_list m) 0 m.frames.0) e

  pub side-sixteen : sixteen_bit m.format ≡ true
  side-sixteen = parts.0

  pub side-tiled : tiled (cue_list m) (play_list m) 0 m.frames.0 ≡ true
  side-tiled = parts.1

  pub lists-long : length (cue_list m) ≡ length (play_list m)
  lists-long = tiled-long m.frames.0 (cue_list m) (play_list m) 0 side-tiled

  pub side-tag : m.format.tag ≡ 1
  side-tag = (sixteen-says m.format side-sixteen).0

  pub side-bits : m.format.bits ≡ 16
  side-bits = (sixteen-says m.format side-sixteen).1

-- how many cues and entries there are
pub cues-many : (m : Record) → m.cues.count ≤ 64 → length m.cues.list ≡ 64 → length (cue_list m) ≡ m.cues.count
unfolding cue_list
cues-many m h room = length-take-le m.cues.count m.cues.list (omega arith)

pub counts-agree : (c : Cues) (p : Playlist) (f : ℕ) → c.count ≤ 64 → p.count ≤ 64 → length c.list ≡ 64 → length p.list ≡ 64
    → tiled (take c.count c.list) (take p.count p.list) 0 f ≡ true → c.count ≡ p.count
counts-agree c p f h k cue_room play_room e =
    sym (length-take-le c.count c.list (omega arith))
    ∙ tiled-long f (take c.count c.list) (take p.count p.list) 0 e
    ∙ length-take-le p.count p.list (omega arith)

-- a file that was read and is a side is taken, and has the record of one
pub side-says : (x : Reading) → side_read x ≡ true → (reading_verdict x ≡ Ok tt) × (is_side (record_in x) ≡ true)
unfolding side_read
side-says x = by (reading_verdict x)
  where
    by : (v : Verdict) → side_by v (record_in x) ≡ true → (v ≡ Ok tt) × (is_side (record_in x) ≡ true)
    by (Ok _) h = (refl, h)
    by (Err r) h = absurd (subst T (sym h) tt)
