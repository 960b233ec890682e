-- A laid file reads back: the walk meets its chunks one by one, and what is left of the file are the chunks that are left.
-- Assumes nothing.
use mathlib.Core.Path.{◌≡◌, refl, sym, ap, ◌∙◌, subst}
use mathlib.Core.Bool.{Bool, true, false, cond}
use mathlib.Core.List.{List, [], ◌∷◌, ◌++◌, append_assoc}
use Prim.Native.Nat.{ℕ, ◌+◌, ◌%◌, ◌≤◌, ◌<◌}
use native.Mathlib.Omega.{arith}
use lib.ListN.{length, drop, length-drop}
use Rattle.units.specs.Refusals.{file_limit}
use Rattle.little.specs.Numbers.{number_at, bytes_of}
use Rattle.little.proofs.Reading.{length-bytes}
use Rattle.codes.specs.Codes.{code_bytes}
use Rattle.codes.proofs.Bytes.{length-code}
use Rattle.codes.proofs.Laws.{stands}
use Rattle.codes.specs.declared.Code.{Code}
use Rattle.codes.specs.declared.Code.TheVariants.{Riff, Wave, Format, Data, Fact, Cue, Playlist, Listing, Titles}
use Rattle.riff.specs.declared.Kind.{Kind}
use Rattle.riff.specs.declared.Kind.TheVariants as kind
use Rattle.riff.specs.declared.Pad.{Pad}
use Rattle.riff.specs.declared.Place.{Place}
use Rattle.riff.specs.declared.Directory.{Directory}
use Rattle.riff.specs.Chunks.{head_verdict, kind_at, pad_after, pad_size, spot_of, is_there, directory, keep_titles, keep, early, wave_list, Spot}
use Rattle.riff.specs.Walk.{nothing_yet, walk_of, part_of}
use Rattle.riff.specs.Laying.{Piece, piece, head_bytes, piece_bytes, body_bytes, riff_bytes, file_bytes, Part, Parts, given, pieces_of}
use Rattle.riff.specs.Demands.{Reads}
use Rattle.riff.proofs.Heading.{head-right}
use Rattle.riff.proofs.Padding.{next_place}
use Rattle.riff.proofs.Placing.{place-whole, step-on}
use Rattle.riff.proofs.Walking.{Rest, walk_begins, walk-on, walk_ends, open-walks}
use Rattle.riff.proofs.Laying.{length-file}
use Rattle.riff.proofs.Found.{behind, number-laid, kind-there, kind-titles, size-there, bytes-there, rest-there, fits-there}
use Rattle.std.specs.Prelude.{None, Ok, Some}

-- ---- the header
module _ (ps : List Piece) where
  abbrev file : List ℕ
  file = file_bytes ps

  abbrev size : ℕ
  size = 4 + length (body_bytes ps)

  in_parts : drop 0 file ≡ code_bytes Riff ++ (bytes_of 4 size ++ (code_bytes Wave ++ body_bytes ps))
  unfolding file_bytes riff_bytes head_bytes
  in_parts =
      append_assoc (code_bytes Riff ++ bytes_of 4 size) (code_bytes Wave) (body_bytes ps)
      ∙ append_assoc (code_bytes Riff) (bytes_of 4 size) (code_bytes Wave ++ body_bytes ps)

  after-riff : drop 4 file ≡ bytes_of 4 size ++ (code_bytes Wave ++ body_bytes ps)
  after-riff = behind file 0 (code_bytes Riff) _ 4 (length-code Riff) in_parts

  after-size : drop 8 file ≡ code_bytes Wave ++ body_bytes ps
  after-size = behind file 4 (bytes_of 4 size) _ 4 (length-bytes 4 size) after-riff

  after-wave : drop 12 file ≡ body_bytes ps
  after-wave = behind file 8 (code_bytes Wave) _ 4 (length-code Wave) after-size

  accepted : length file ≤ file_limit → Ok tt ≡ head_verdict file
  accepted limit =
      let l = length-file ps in
      let n : size ≡ number_at 4 file 4 = sym (number-laid file 4 size _ (omega arith) after-riff) in
      head-right file (omega arith) limit (sym (stands file 0 Riff _ in_parts)) refl (sym (stands file 8 Wave _ after-size)) refl n
      (omega arith)

-- ---- the walk of s stands at a place with the directory d, and the chunks ps are left
record Stand (s : List ℕ) (at : ℕ) (d : Directory) (ps : List Piece) : Type 0 where
  pub rest : Rest s at d
  pub upto : at ≤ length s
  pub left : drop at s ≡ body_bytes ps

stand-begins : (ps : List Piece) → Stand (file_bytes ps) 12 nothing_yet ps
stand-begins ps = record { rest = walk_begins (file_bytes ps) refl; upto = omega (arith, length-file ps); left = after-wave ps }

stand-ends : {s : List ℕ} {at : ℕ} {d : Directory} → Stand s at d [] → Ok d ≡ walk_of s
unfolding body_bytes
stand-ends {s} {at} w = walk_ends w.rest (omega (arith, length-drop at s, ap length w.left))

-- what a chunk is to the walk, wherever in the file it was laid
abbrev Kinded : List ℕ → Code → List ℕ → Kind → Type 0
Kinded s c bytes k =
    (at : ℕ) (rest : List ℕ) → length bytes < 4294967296 → drop at s ≡ piece_bytes (piece c bytes) ++ rest → kind_at s at ≡ k

module _ (s : List ℕ) (limit : length s ≤ file_limit) {R : Type 0} where
  -- the next chunk is met
  stand-on : {at : ℕ} {d : Directory} (c : Code) (k : Kind) (bytes : List ℕ) {ps : List Piece} → Stand s at d (piece c bytes ∷ ps)
      → Kinded s c bytes k → spot_of d k ≡ None → early d k ≡ false → ((p : Place) → wave_list s p k ≡ false)
      → ((p : Place) → part_of s (Some p) [] ≡ bytes → Stand s p.next.0 (keep d p k) ps → R) → R
  unfolding body_bytes
  stand-on {at} {d} c k bytes {ps} w kinded new late plain go =
      let n : ℕ = length bytes in
      let f = fits-there s at c bytes (body_bytes ps) w.left w.upto in
      let b = size-there s at c bytes (body_bytes ps) w.left (omega arith) in
      let j = kinded at (body_bytes ps) (omega arith) w.left in
      let x : Pad = pad_after n (at + 8 + n) (length s) in
      let e : at + 8 + n + pad_size x ≡ at + 8 + n + n % 2 = omega (arith, next_place n (at + 8 + n) (length s) (omega arith)) in
      let p : Place =
      record { kind = k; pad = x; start = record { 0 = at + 8 }; size = record { 0 = n }; next = record { 0 = at + 8 + n + pad_size x } } in
      let a = place-whole s (record { 0 = at }) (omega arith) (omega arith) (sym b) (omega arith) (sym j) refl refl in
      let t = step-on s (record { 0 = at }) d a refl refl (sym (ap is_there new)) refl (sym late) refl (sym (plain p)) refl in
      go p (bytes-there s at c bytes (body_bytes ps) w.left)
      (record {
        rest = walk-on w.rest (omega arith) t refl refl;
        upto = omega arith;
        left = ap (λ (to : ℕ). drop to s) e ∙ rest-there s at c bytes (body_bytes ps) w.left;
      })

  -- the next chunk is met where it is written; the directory then holds its spot
  stand-given : {at : ℕ} (c : Code) (k : Kind) (x : Part) {ps : List Piece} (hold : Spot → Directory)
      → Stand s at (hold None) (given c x ps) → Kinded s c x.bytes k → ((p : Place) → hold (Some p) ≡ keep (hold None) p k)
      → spot_of (hold None) k ≡ None → early (hold None) k ≡ false → ((p : Place) → wave_list s p k ≡ false)
      → ((to : ℕ) (spot : Spot) → ((absent : List ℕ) → part_of s spot absent ≡ cond x.there x.bytes absent) → Stand s to (hold spot) ps → R)
      → R
  unfolding given
  stand-given {at} c k x {ps} hold w kinded kept new late plain = by x.there w
    where
      by : (b : Bool) → Stand s at (hold None) (cond b (piece c x.bytes ∷ ps) ps)
          → ((to : ℕ) (spot : Spot) → ((absent : List ℕ) → part_of s spot absent ≡ cond b x.bytes absent) → Stand s to (hold spot) ps → R)
          → R
      by true v go =
          stand-on c k x.bytes v kinded new late plain
          (λ p e u. go p.next.0 (Some p) (λ absent. e) (subst (λ (d : Directory). Stand s p.next.0 d ps) (sym (kept p)) u))
      by false v go = go at None (λ absent. refl) v

-- ---- the chunks of a WAVE file, in the order of writing; what is laid as a list of titles starts with `adtl`
pub laid-reads : (p : Parts) (body : List ℕ) → p.titles.bytes ≡ code_bytes Titles ++ body
    → length (file_bytes (pieces_of p)) ≤ file_limit → Reads (file_bytes (pieces_of p)) p
unfolding pieces_of keep_titles
laid-reads p body starts limit =
    let s : List ℕ = file_bytes (pieces_of p) in
    stand-on s limit Format kind.Format p.format
    (stand-begins (pieces_of p)) (λ at r h. kind-there s at Format p.format r) refl refl (λ q. refl)
    (λ f ef uf. stand-given s limit Fact kind.Fact p.fact (λ x. directory (Some f) None x None None None false)
    uf (λ at r h. kind-there s at Fact p.fact.bytes r) (λ q. refl) refl refl (λ q. refl)
    (λ a x ex ux. stand-given s limit Cue kind.Cues p.cues (λ y. directory (Some f) None x y None None false)
    ux (λ at r h. kind-there s at Cue p.cues.bytes r) (λ q. refl) refl refl (λ q. refl)
    (λ b y ey uy. stand-given s limit Playlist kind.Plays p.plays (λ z. directory (Some f) None x y z None false)
    uy (λ at r h. kind-there s at Playlist p.plays.bytes r) (λ q. refl) refl refl (λ q. refl)
    (λ c z ez uz. stand-given s limit Listing kind.Titles p.titles (λ l. directory (Some f) None x y z l false)
    uz (λ at r h e. kind-titles s at p.titles.bytes r body e starts h) (λ q. refl) refl refl (λ q. refl)
    (λ i l el ul. stand-on s limit Data kind.Sound p.sound
    ul (λ at r h. kind-there s at Data p.sound r) refl refl (λ q. refl)
    (λ g eg ug.
    record {
      places = directory (Some f) (Some g) x y z l false;
      walked = sym (open-walks s refl (sym (accepted (pieces_of p) limit)) (stand-ends ug));
      format_there = refl;
      sound_there = refl;
      format = ef;
      sound = eg;
      fact = ex;
      cues = ey;
      plays = ez;
      titles = el;
      alone = refl;
    }))))))
