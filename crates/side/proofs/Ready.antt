-- A side that is ready for songs takes the first of them, and its new file is ready for the others. Assumes nothing.
use mathlib.Core.Path.{◌≡◌, refl, sym, ap, ◌∙◌, subst}
use mathlib.Core.Bool.{Bool, true, false, ◌||◌}
use mathlib.Core.List.{List, [], ◌∷◌, ◌++◌}
use Prim.Native.Nat.{ℕ}
use native.Mathlib.Omega.{arith}
use lib.Dec.{T, eqb}
use lib.ListN.{length}
use lib.Pow.{are_bytes}
use borrow.Author.Tests.{eqb-false, ne_eqb}
use Rattle.formats.specs.declared.Format.{Format}
use Rattle.writer.specs.File.{size_of}
use Rattle.writer.proofs.Demands.{accepted}
use Rattle.side.specs.Side.{Song, is_side_file, songs_in, is_listed}
use Rattle.side.specs.Adding.{new_record, new_sound, new_file}
use Rattle.side.specs.Demands.{Sent, answer_to, file_with, song_from, titles_size, Grown, Grows, AllSuitable, is_sent, OnceEach, AllFit}
use Rattle.side.proofs.Growing.{songs-count}
use Rattle.side.proofs.Answers.{Taking, taking-added}
use Rattle.side.proofs.Sides.{standing}
use Rattle.side.proofs.Listed.{neither, listed-behind}
use Rattle.side.proofs.Demands.{grows, songs-grown}
use Rattle.side.proofs.Joining.{new-rules, new-right, new-long}
use Rattle.reader.specs.Content.{titles_in, texts_in, file_format, file_frames}
use Rattle.std.specs.Prelude.{Ok}

-- ---- songs that a side s can take, one after the other: the numbers are new to it, and all is within the limits
unfoldable pub NoneListed : List Song → List Sent → Type 0
NoneListed ys [] = Unit {0}
NoneListed ys (x ∷ xs) = (is_listed x.number ys ≡ false) × NoneListed ys xs

pub none_first : (xs : List Sent) → NoneListed [] xs
unfolding NoneListed is_listed
none_first [] = tt
none_first (x ∷ xs) = (refl, none_first xs)

-- one song more, whose number is not among those sent
none-behind : (ys : List Song) (y : Song) (xs : List Sent) → NoneListed ys xs → is_sent y.number xs ≡ false
    → NoneListed (ys ++ (y ∷ [])) xs
unfolding NoneListed is_sent is_listed
none-behind ys y [] h e = tt
none-behind ys y (x ∷ xs) h e =
    let p = neither (eqb x.number.0 y.number.0) (is_sent y.number xs) e in
    let d = eqb-false x.number.0 y.number.0 p.0 in
    let q = ne_eqb y.number.0 x.number.0 (λ z. d (sym z)) in
    (listed-behind x.number ys (y ∷ []) h.0 ∙ ap (λ (b : Bool). b || false) q, none-behind ys y xs h.1 p.1)

pub record Ready (s : List ℕ) (xs : List Sent) : Type 0 where
  pub bytes : T (are_bytes s)
  pub side : is_side_file s ≡ true
  pub suited : AllSuitable (file_format s) xs
  pub once : OnceEach xs
  pub fresh : NoneListed (songs_in s) xs
  pub placed : AllFit (file_format s) (length (songs_in s)) (file_frames s) xs
  pub untitled : titles_in s ≡ []

-- the first is taken
module _ (s : List ℕ) (x : Sent) (xs : List Sent) (k : Ready s (x ∷ xs)) where
  abbrev new : List ℕ
  new = file_with s x

  first_taken : Taking s x
  unfolding AllSuitable NoneListed AllFit
  first_taken =
      let f = k.suited.0 in
      let c = songs-count (standing s k.side) in
      record {
        taken = f.taken;
        side = k.side;
        suited = f.suited;
        some = f.frames;
        fresh = k.fresh.0;
        few = omega (arith, k.placed.0.songs);
        within = k.placed.0.frames;
      }

  pub first-written : answer_to s x ≡ Ok (size_of new)
  unfolding new_file AllFit
  first-written =
      let h = first_taken in
      let l = new-long h in
      let u = ap titles_size k.untitled in
      let p = k.placed.0 in
      taking-added s x h
      ∙ accepted (new_record s x.file x.number) (texts_in s) (new_sound s x.file) x.room (new-rules h) (new-right h)
      (omega (arith, p.size)) (omega (arith, p.lent))

  pub first-grown : Grown s x (size_of new)
  unfolding Grows AllSuitable
  first-grown = grows s x (size_of new) (record { bytes = k.bytes; sent = k.suited.0.bytewise; answer = first-written })

  -- and its file is ready for the others
  pub next-ready : Ready new xs
  unfolding AllSuitable OnceEach NoneListed AllFit
  next-ready =
      let g = first-grown in
      record {
        bytes = g.bytes;
        side = g.side;
        suited = subst (λ (f : Format). AllSuitable f xs) (sym g.format) k.suited.1;
        once = k.once.1;
        fresh =
            subst (λ (ys : List Song). NoneListed ys xs) (sym g.songs)
            (none-behind (songs_in s) (song_from (file_frames s) x) xs k.fresh.1 k.once.0);
        placed = subst (λ (a : Type 0). a) (sym (λ i. AllFit (g.format i) (songs-grown s x g i) (g.frames i) xs)) k.placed.1;
        untitled = g.titles ∙ k.untitled;
      }
