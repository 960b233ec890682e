-- Songs sent one after the other: each is added to the file that the one before made, along the list. Assumes nothing.
use mathlib.Core.Path.{◌≡◌, refl, sym, ap, ◌∙◌, subst}
use mathlib.Core.Bool.{true}
use mathlib.Core.List.{List, [], ◌∷◌, ◌++◌, append_assoc, append-nil}
use Prim.Native.Nat.{ℕ, ◌+◌}
use lib.Dec.{T}
use lib.ListN.{length, take}
use lib.Pow.{are_bytes}
use borrow.Author.Tests.{eqb-true}
use Rattle.units.specs.declared.Donation.{Donation}
use Rattle.rules.specs.declared.Record.{Record}
use Rattle.side.specs.Side.{Song, cue_list, play_list, tiled, songs_held, is_side_file, songs_in, is_listed, listed_sound}
use Rattle.side.specs.Demands.{Sent, answer_to, file_with, song_from, side_after, add_all, in_row, Grown, Grows, AllFit, AllBytewise, Keeps, NoneLost, AllAdded, StillListed, SentAgain, SentTwice}
use Rattle.side.proofs.Songs.{side-tiled}
use Rattle.side.proofs.Growing.{Standing, counts_same, songs-count}
use Rattle.side.proofs.Answers.{added-says}
use Rattle.side.proofs.Sides.{standing, no-titles}
use Rattle.side.proofs.Listed.{listed-before, sound-before}
use Rattle.side.proofs.Demands.{grows, own-listed, told-listed}
use Rattle.side.proofs.Ready.{NoneListed, none_first, Ready, first-written, first-grown, next-ready}
use Rattle.reader.specs.Content.{titles_in, file_format, file_frames}
use Rattle.writer.specs.File.{Written}
use Rattle.std.specs.Prelude.{Err, Ok}

-- ---- the first of a list, by its answer
first-answered : (s : List ℕ) (x : Sent) (xs : List Sent) {a : Written} → answer_to s x ≡ a
    → add_all s (x ∷ xs) ≡ add_all (side_after a s (file_with s x)) xs
unfolding add_all
first-answered s x xs e = ap (λ (a : Written). add_all (side_after a s (file_with s x)) xs) e

-- a number that is listed is refused, so the side stays
listed-stays : (s : List ℕ) (x : Sent) (xs : List Sent) → is_listed x.number (songs_in s) ≡ true → add_all s (x ∷ xs) ≡ add_all s xs
listed-stays s x xs e = by (answer_to s x) refl
  where
    by : (a : Written) → answer_to s x ≡ a → add_all s (x ∷ xs) ≡ add_all s xs
    by (Ok n) h = absurd (subst T (sym e ∙ (added-says s x n h).0.fresh) tt)
    by (Err r) h = first-answered s x xs h

pub sent-twice : SentTwice
unfolding SentTwice Grows
sent-twice s x xs b y = by (answer_to s x) refl
  where
    by : (a : Written) → answer_to s x ≡ a → add_all s (x ∷ x ∷ xs) ≡ add_all s (x ∷ xs)
    by (Err r) e = first-answered s x (x ∷ xs) e
    by (Ok n) e =
        first-answered s x (x ∷ xs) e
        ∙ listed-stays (file_with s x) x xs
        (own-listed (grows s x n (record { bytes = b; sent = y; answer = e })) (added-says s x n e).0.fresh)
        ∙ sym (first-answered s x xs e)

-- ---- whatever is sent
pub none-lost : NoneLost
unfolding NoneLost AllBytewise add_all Grows
none-lost [] s b e y = record { side = e; format = refl; more = []; songs = sym (append-nil (songs_in s)); titles = refl }
none-lost (x ∷ xs) s b e y = by (answer_to s x) refl (λ t c f. none-lost xs t c f y.1)
  where
    by : (a : Written) → answer_to s x ≡ a
        → ((t : List ℕ) → T (are_bytes t) → is_side_file t ≡ true → Keeps t (add_all t xs))
        → Keeps s (add_all (side_after a s (file_with s x)) xs)
    by (Ok n) h next =
        let g : Grown s x n = grows s x n (record { bytes = b; sent = y.0; answer = h }) in
        let k = next (file_with s x) g.bytes g.side in
        let one : List Song = song_from (file_frames s) x ∷ [] in
        record {
          side = k.side;
          format = k.format ∙ g.format;
          more = one ++ k.more;
          songs = k.songs ∙ ap (λ (ys : List Song). ys ++ k.more) g.songs ∙ append_assoc (songs_in s) one k.more;
          titles = k.titles ∙ g.titles;
        }
    by (Err r) h next = next s b e

-- a number that was listed is so still, with the same sound
module _ {s t : List ℕ} (k : Keeps s t) (number : Donation) (i : is_listed number (songs_in s) ≡ true) where
  kept-listed : is_listed number (songs_in t) ≡ true
  kept-listed = ap (is_listed number) k.songs ∙ listed-before number (songs_in s) k.more i

  kept-sound : listed_sound number (songs_in t) ≡ listed_sound number (songs_in s)
  kept-sound = ap (listed_sound number) k.songs ∙ sound-before number (songs_in s) k.more i

pub still-listed : StillListed
unfolding StillListed NoneLost
still-listed s xs y b e i z v c =
    let k : Keeps s (add_all s xs) = none-lost xs s b e z in
    told-listed (add_all s xs) y k.side (kept-listed k y.number i) v c k.format (kept-sound k y.number i)

sent-behind : (xs ys : List Sent) (s : List ℕ) → add_all s (xs ++ ys) ≡ add_all (add_all s xs) ys
unfolding add_all
sent-behind [] ys s = refl
sent-behind (x ∷ xs) ys s = sent-behind xs ys (side_after (answer_to s x) s (file_with s x))

pub sent-again : SentAgain
unfolding SentAgain NoneLost add_all
sent-again s xs y b e i z =
    let k : Keeps s (add_all s xs) = none-lost xs s b e z in
    sent-behind xs (y ∷ []) s ∙ listed-stays (add_all s xs) y [] (kept-listed k y.number i)

-- ---- along the list
record Reached (s t : List ℕ) (xs : List Sent) : Type 0 where
  side : is_side_file t ≡ true
  format : file_format t ≡ file_format s
  songs : songs_in t ≡ songs_in s ++ in_row (file_frames s) xs
  titles : titles_in t ≡ titles_in s

all-reached : (xs : List Sent) (s : List ℕ) → Ready s xs → Reached s (add_all s xs) xs
unfolding add_all in_row
all-reached [] s k = record { side = k.side; format = refl; songs = sym (append-nil (songs_in s)); titles = refl }
all-reached (x ∷ xs) s k =
    let g = first-grown s x xs k in
    let h = all-reached xs (file_with s x) (next-ready s x xs k) in
    let y : Song = song_from (file_frames s) x in
    subst (λ (t : List ℕ). Reached s t (x ∷ xs)) (sym (first-answered s x xs (first-written s x xs k)))
    (record {
      side = h.side;
      format = h.format ∙ g.format;
      songs =
          h.songs
          ∙ (λ i. g.songs i ++ in_row (g.frames i) xs)
          ∙ append_assoc (songs_in s) (y ∷ []) (in_row (file_frames s + file_frames x.file) xs);
      titles = h.titles ∙ g.titles;
    })

-- ---- from an empty side on
empty-frames : {m : Record} {w : List ℕ} → Standing m w → songs_held m w ≡ [] → m.frames.0 ≡ 0
unfolding cue_list play_list tiled
empty-frames {m} {w} k e =
    let n : m.cues.count ≡ 0 = sym (songs-count k) ∙ ap length e in
    let f : ℕ = m.frames.0 in
    let c : cue_list m ≡ [] = ap (λ (i : ℕ). take i m.cues.list) n in
    let p : play_list m ≡ [] = ap (λ (i : ℕ). take i m.playlist.list) (sym (counts_same k) ∙ n) in
    sym (eqb-true 0 f (sym (λ i. tiled (c i) (p i) 0 f) ∙ side-tiled m k.side))

pub all-added : AllAdded
unfolding AllAdded
all-added s xs b e n f o p =
    let z = empty-frames (standing s e) n in
    let c : length (songs_in s) ≡ 0 = ap length n in
    let none = no-titles s e n in
    let h = all-reached xs s (record {
      bytes = b;
      side = e;
      suited = f;
      once = o;
      fresh = subst (λ (ys : List Song). NoneListed ys xs) (sym n) (none_first xs);
      placed = subst (λ (a : Type 0). a) (sym (λ i. AllFit (file_format s) (c i) (z i) xs)) p;
      untitled = none;
    }) in
    record { side = h.side; format = h.format; songs = h.songs ∙ (λ i. n i ++ in_row (z i) xs); titles = h.titles ∙ none }
