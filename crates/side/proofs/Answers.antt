-- What an answer of adding says, both ways: a song is taken exactly where each check is met, and then the new file is written.
-- Assumes nothing.
use mathlib.Core.Path.{◌≡◌, refl, ap}
use mathlib.Core.Bool.{Bool, true, false, cond}
use mathlib.Core.List.{List}
use Prim.Native.Nat.{ℕ, ◌+◌, ◌≤◌, ◌<◌}
use native.Mathlib.Omega.{arith}
use lib.Dec.{ltb, leb}
use borrow.Author.Tests.{ltb-true, leb-true, lt-ltb, le-leb, not-true}
use Rattle.little.specs.Same.{same_bytes}
use Rattle.lists.proofs.Laws.{and_both}
use Rattle.units.specs.declared.BytePlace.{BytePlace}
use Rattle.units.specs.declared.Donation.{Donation}
use Rattle.units.specs.declared.Frames.{Frames}
use Rattle.units.specs.declared.Refusal.TheVariants.{SongEmptyOrDifferent, AlreadyListed}
use Rattle.units.specs.Checks.{Check, decided, and_then, AllMet}
use Rattle.units.proofs.Checks.{all-met}
use Rattle.rules.specs.declared.Record.{Record}
use Rattle.reader.specs.Content.{reading, sound_in, texts_in, file_format, file_frames}
use Rattle.writer.specs.File.{writing, Written}
use Rattle.side.specs.Side.{is_side_file, songs_in, is_listed, listed_sound}
use Rattle.side.specs.Demands.{Sent, answer_to}
use Rattle.side.specs.Adding.{suits, has_place, add_checks, add_verdict, new_record, new_sound, added_by, adding}
use Rattle.units.specs.Refusals.{Verdict}
use Rattle.std.specs.Prelude.{Err, Ok}
use Rattle.rules.specs.Rules.{record_in, reading_verdict, Reading}

-- ---- a song is accepted where its file is taken and each check is met, of two files as they were read
pub verdict-says : (x : Reading) (w : List ℕ) (y : Reading) (v : List ℕ) (number : Donation) (limit : Frames)
    → add_verdict x w y v number limit ≡ Ok tt
    → (reading_verdict y ≡ Ok tt) × AllMet (add_checks x w y v number limit)
unfolding add_verdict
verdict-says x w y v number limit = by (reading_verdict y)
  where
    by : (u : Verdict) → and_then u (decided (add_checks x w y v number limit)) ≡ Ok tt
        → (u ≡ Ok tt) × AllMet (add_checks x w y v number limit)
    by (Ok _) e = (refl, all-met (add_checks x w y v number limit) e)
    by (Err r) e = let z : ◌≡◌ {A = ℕ} 0 1 = cc in absurd (omega arith)

-- fewer than 64 songs, and the frames within the limit
pub place-says : (m : Record) (frames limit : Frames) → has_place m frames limit ≡ true
    → (m.cues.count < 64) × (m.frames.0 + frames.0 ≤ limit.0)
unfolding has_place
place-says m frames limit e =
    let n : ℕ = m.frames.0 + frames.0 in
    let p = and_both (ltb m.cues.count 64) (leb n limit.0) e in
    (ltb-true m.cues.count 64 p.0, leb-true n limit.0 p.1)

-- ---- a song is taken on the side of a file s
pub record Taking (s : List ℕ) (x : Sent) : Type 0 where
  pub taken : reading_verdict (reading x.file) ≡ Ok tt
  pub side : is_side_file s ≡ true
  pub suited : suits (file_format s) (file_format x.file) ≡ true
  pub some : 1 ≤ file_frames x.file
  pub fresh : is_listed x.number (songs_in s) ≡ false
  pub few : (record_in (reading s)).cues.count < 64
  pub within : file_frames s + file_frames x.file ≤ x.limit.0

module _ (s : List ℕ) (x : Sent) where
  abbrev pub checks : List Check
  checks = add_checks (reading s) (sound_in s) (reading x.file) (sound_in x.file) x.number x.limit

  abbrev add_judged : Verdict
  add_judged = add_verdict (reading s) (sound_in s) (reading x.file) (sound_in x.file) x.number x.limit

  pub taking : reading_verdict (reading x.file) ≡ Ok tt → AllMet checks → Taking s x
  unfolding AllMet
  taking a m =
      let p = m.1.1.1 in
      let q = place-says (record_in (reading s)) (record_in (reading x.file)).frames x.limit p.1.1.0 in
      record {
        taken = a;
        side = m.0;
        suited = m.1.0;
        some = leb-true 1 (file_frames x.file) m.1.1.0;
        fresh = not-true (is_listed x.number (songs_in s)) p.1.0;
        few = q.0;
        within = q.1;
      }

  judged-says : add_judged ≡ Ok tt → Taking s x
  judged-says e =
      let k = verdict-says (reading s) (sound_in s) (reading x.file) (sound_in x.file) x.number x.limit e in
      taking k.0 k.1

  judged-taken : Taking s x → add_judged ≡ Ok tt
  unfolding add_verdict decided has_place
  judged-taken k =
      let a = le-leb 1 (file_frames x.file) k.some in
      let b = lt-ltb (record_in (reading s)).cues.count 64 k.few in
      let c = le-leb (file_frames s + file_frames x.file) x.limit.0 k.within in
      simp (k.taken, k.side, k.suited, k.fresh, a, b, c)

  -- ---- with its room
  abbrev pub writes : Written
  writes = writing (new_record s x.file x.number) (texts_in s) (new_sound s x.file) x.room

  pub added-says : (n : BytePlace) → answer_to s x ≡ Ok n → Taking s x × (writes ≡ Ok n)
  unfolding adding
  added-says n e = let p = by add_judged writes e in (judged-says p.0, p.1)
    where
      by : (v : Verdict) (w : Written) → added_by v w ≡ Ok n → (v ≡ Ok tt) × (w ≡ Ok n)
      by (Ok _) (Ok k) h = (refl, cc)
      by (Ok _) (Err r) h = let z : ◌≡◌ {A = ℕ} 0 1 = cc in absurd (omega arith)
      by (Err r) w h = let z : ◌≡◌ {A = ℕ} 0 1 = cc in absurd (omega arith)

  pub taking-added : Taking s x → answer_to s x ≡ writes
  unfolding adding
  taking-added k = ap (λ (v : Verdict). added_by v writes) (judged-taken k)

  -- ---- a song that suits: without frames, or with a number that is listed
  module _ (a : reading_verdict (reading x.file) ≡ Ok tt) (b : is_side_file s ≡ true)
      (c : suits (file_format s) (file_format x.file) ≡ true) where
    pub empty-added : leb 1 (file_frames x.file) ≡ false → answer_to s x ≡ Err SongEmptyOrDifferent
    unfolding adding add_verdict decided
    empty-added f = simp (a, b, c, f)

    pub listed-added : (q : Bool) → leb 1 (file_frames x.file) ≡ true → is_listed x.number (songs_in s) ≡ true
        → same_bytes (listed_sound x.number (songs_in s)) (sound_in x.file) ≡ q
        → answer_to s x ≡ Err (cond q AlreadyListed SongEmptyOrDifferent)
    unfolding adding add_verdict decided
    listed-added true f l e = simp (a, b, c, f, l, e)
    listed-added false f l e = simp (a, b, c, f, l, e)
