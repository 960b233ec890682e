-- A number among songs: behind others, and that each song of a side has some sound, since the cues tile its frames and no entry is
-- empty. Assumes nothing.
use mathlib.Core.Path.{◌≡◌, refl, sym, ap, ◌∙◌, subst}
use mathlib.Core.Bool.{Bool, true, false, cond, ◌&&◌, ◌||◌}
use mathlib.Core.List.{List, [], ◌∷◌, ◌++◌}
use Prim.Native.Nat.{ℕ, suc, ◌+◌, ◌*◌, ◌≤◌, ◌<◌}
use native.Mathlib.Nat.{mul-add, mul-le-mul_left}
use native.Mathlib.Omega.{arith}
use lib.Dec.{T, eqb, leb}
use lib.ListN.{length, drop, get_or, length-take, length-drop}
use lib.Seq.{get_or-take}
use borrow.Author.Tests.{leb-true}
use Rattle.lists.proofs.Laws.{and_both, every-at}
use Rattle.units.specs.declared.Donation.{Donation}
use Rattle.formats.specs.declared.Format.{Format}
use Rattle.formats.proofs.Taken.{taken-align}
use Rattle.tables.specs.declared.Cue.{Cue}
use Rattle.tables.specs.declared.Play.{Play}
use Rattle.tables.specs.Plays.{no_play, is_cue, cue_place, plays_from, playable, all_playable, plays_rule}
use Rattle.rules.specs.declared.Record.{Record}
use Rattle.side.specs.Side.{Song, cue_list, play_list, tiled, frames_at, songs_of, songs_held, is_listed, listed_sound}
use Rattle.side.proofs.Songs.{by-tiles, side-tiled}
use Rattle.side.proofs.Growing.{Standing, sound-long}

-- ---- a number that the first songs do not have
pub neither : (a b : Bool) → (a || b) ≡ false → (a ≡ false) × (b ≡ false)
neither true b e = absurd (subst T e tt)
neither false b e = (refl, e)

module _ (number : Donation) where
  pub listed-behind : (xs ys : List Song) → is_listed number xs ≡ false → is_listed number (xs ++ ys) ≡ is_listed number ys
  unfolding is_listed
  listed-behind [] ys e = refl
  listed-behind (x ∷ xs) ys e =
      let p = neither (eqb x.number.0 number.0) (is_listed number xs) e in
      ap (λ (b : Bool). b || is_listed number (xs ++ ys)) p.0 ∙ listed-behind xs ys p.1

  pub listed-before : (xs ys : List Song) → is_listed number xs ≡ true → is_listed number (xs ++ ys) ≡ true
  unfolding is_listed
  listed-before [] ys e = absurd (subst T (sym e) tt)
  listed-before (x ∷ xs) ys e = by (eqb x.number.0 number.0) e (listed-before xs ys)
    where
      by : (b : Bool) → (b || is_listed number xs) ≡ true → (is_listed number xs ≡ true → is_listed number (xs ++ ys) ≡ true)
          → (b || is_listed number (xs ++ ys)) ≡ true
      by true h k = refl
      by false h k = k h

  pub sound-before : (xs ys : List Song) → is_listed number xs ≡ true → listed_sound number (xs ++ ys) ≡ listed_sound number xs
  unfolding is_listed listed_sound
  sound-before [] ys e = absurd (subst T (sym e) tt)
  sound-before (x ∷ xs) ys e = by (eqb x.number.0 number.0) e (sound-before xs ys)
    where
      by : (b : Bool) → (b || is_listed number xs) ≡ true
          → (is_listed number xs ≡ true → listed_sound number (xs ++ ys) ≡ listed_sound number xs)
          → cond b x.sound (listed_sound number (xs ++ ys)) ≡ cond b x.sound (listed_sound number xs)
      by true h k = refl
      by false h k = k h

  pub sound-behind : (xs ys : List Song) → is_listed number xs ≡ false → listed_sound number (xs ++ ys) ≡ listed_sound number ys
  unfolding is_listed listed_sound
  sound-behind [] ys e = refl
  sound-behind (x ∷ xs) ys e =
      let p = neither (eqb x.number.0 number.0) (is_listed number xs) e in
      ap (λ (b : Bool). cond b x.sound (listed_sound number (xs ++ ys))) p.0 ∙ sound-behind xs ys p.1

-- ---- the sound of a song in the tiling is not empty
module _ (f : Format) (w : List ℕ) (frames : ℕ) (a : 1 ≤ f.align) (l : length w ≡ f.align * frames) (number : Donation) where
  sound-there : (c : Cue) (p : Play) → c.place.0 + p.length.0 ≤ frames → 1 ≤ p.length.0
      → 1 ≤ length (frames_at f w c.place p.length)
  unfolding frames_at
  sound-there c p h g =
      let x : f.align * (c.place.0 + p.length.0) ≤ f.align * frames = mul-le-mul_left f.align h in
      let y : f.align * 1 ≤ f.align * p.length.0 = mul-le-mul_left f.align g in
      let from : ℕ = f.align * c.place.0 in
      let size : ℕ = f.align * p.length.0 in
      omega (arith, mul-add f.align c.place.0 p.length.0, length-drop from w, length-take size (drop from w))

  sound-among : (cs : List Cue) (ps : List Play) (at : ℕ) → tiled cs ps at frames ≡ true
      → ((i : ℕ) → i < length ps → 1 ≤ (get_or ps i no_play).length.0) → is_listed number (songs_of f w cs ps) ≡ true
      → 1 ≤ length (listed_sound number (songs_of f w cs ps))
  unfolding songs_of is_listed listed_sound
  sound-among cs ps at e =
      (by-tiles frames
      (λ cs ps at. (at ≤ frames) × (((i : ℕ) → i < length ps → 1 ≤ (get_or ps i no_play).length.0) → is_listed number (songs_of f w cs ps) ≡ true
      → 1 ≤ length (listed_sound number (songs_of f w cs ps))))
      (omega arith, λ h g. absurd (subst T (sym g) tt))
      (λ c p cs ps o r. (
        omega (arith, r.0),
        λ h g.
            first (eqb c.name.0 number.0) (frames_at f w c.place p.length) (songs_of f w cs ps)
            (sound-there c p r.0 (h 0 (omega arith))) (r.1 (λ i k. h (suc i) (omega arith))) g,
      ))
      cs ps at e).1
    where
      first : (b : Bool) (v : List ℕ) (xs : List Song) → 1 ≤ length v
          → (is_listed number xs ≡ true → 1 ≤ length (listed_sound number xs))
          → (b || is_listed number xs) ≡ true → 1 ≤ length (cond b v (listed_sound number xs))
      first true v xs i k j = i
      first false v xs i k j = k j

-- ---- so it is on a side
module _ {m : Record} {w : List ℕ} (k : Standing m w) where
  entry-some : (i : ℕ) → i < length (play_list m) → 1 ≤ (get_or (play_list m) i no_play).length.0
  unfolding play_list plays_rule all_playable playable plays_from
  entry-some i h =
      let n : ℕ = m.playlist.count in
      let p : Play = get_or m.playlist.list i no_play in
      let g : i < n = omega (arith, length-take n m.playlist.list) in
      let r = (and_both (leb n 64) (all_playable m.cues m.frames m.playlist.list n) k.rules.plays).1 in
      let e =
      every-at (λ j. playable m.cues m.frames (get_or m.playlist.list j no_play)) 0 n i r (omega arith) (omega arith) in
      let x : Bool = leb 1 p.length.0 in
      let y : Bool = leb ((cue_place m.cues p.name).0 + p.length.0) m.frames.0 in
      let q = (and_both (is_cue m.cues p.name) (x && y && leb 1 p.times) e).1 in
      rw (get_or-take n m.playlist.list i no_play g) (leb-true 1 p.length.0 (and_both x y (and_both (x && y) (leb 1 p.times) q).0).0)

  pub sound-some : (number : Donation) → is_listed number (songs_held m w) ≡ true → 1 ≤ length (listed_sound number (songs_held m w))
  unfolding songs_held
  sound-some number =
      sound-among m.format w m.frames.0 (taken-align m.format k.rules.format) (sound-long k) number
      (cue_list m) (play_list m) 0 (side-tiled m k.side) entry-some
