-- Laws of the headers of a block: the check of the predictors, and a channel as its header says. Assumes nothing.
use mathlib.Core.Path.{◌≡◌, ◌∙◌}
use mathlib.Core.Bool.{Bool, true, ◌&&◌}
use mathlib.Core.List.{List, [], ◌∷◌}
use Prim.Native.Nat.{ℕ, zero, suc, ◌+◌, ◌*◌, ◌≤◌, ◌<◌}
use native.Mathlib.Nat.{le_trans}
use native.Mathlib.Omega.{arith}
use lib.Dec.{T, leb, leb→le}
use lib.IntN.{ℤ, pos, nat_abs}
use lib.ListN.{get_or}
use mir.Syntax.{w16, w32}
use mir.Val.{SFits}
use mir.Facts.{to_z-of_z, and_yes}
use borrow.Author.Tests.{leb-true}
use Rattle.formats.specs.Format.{pairs}
use Rattle.codec.specs.Codec.{Decodable}
use Rattle.codec.proofs.Channels.{each-valid}
use Rattle.ms_code.specs.declared.MsState.{MsState}
use Rattle.ms_code.specs.Nibble.{Tame}
use Rattle.samples.specs.Sound.{sample_at}
use Rattle.samples.proofs.Signed.{back, Near, near_fits, fits-near}
use Rattle.samples.proofs.Laws.{widened, wide_is}
use Rattle.ms_block.specs.Block.{predictor_of, coefficient, ms_opened, microsoft}

-- what a valid header promises
pub predictor-at : {c n : ℕ} {s : List ℕ} (ch : ℕ) → Decodable microsoft c n s → ch < c → get_or s ch 0 ≤ 6
unfolding predictor_of
predictor-at {s = s} ch w h = leb-true (get_or s ch 0) 6 (each-valid microsoft s w.valid ch h)

-- ---- the table of pairs: one test that is computed over all of them, and what it says of each
abbrev small : List (List ℤ) → Bool
small [] = true
small (p ∷ ps) = leb (nat_abs (get_or p 0 (pos 0))) 512 && (leb (nat_abs (get_or p 1 (pos 0))) 256 && small ps)

small-first : (p : List ℤ) (ps : List (List ℤ)) → T (small (p ∷ ps))
    → Near (get_or p 0 (pos 0)) 512 × Near (get_or p 1 (pos 0)) 256 × T (small ps)
small-first p ps t =
    let a = and_yes (leb (nat_abs (get_or p 0 (pos 0))) 512) (leb (nat_abs (get_or p 1 (pos 0))) 256 && small ps) t in
    let b = and_yes (leb (nat_abs (get_or p 1 (pos 0))) 256) (small ps) a.1 in (
      record { near = leb→le (nat_abs (get_or p 0 (pos 0))) 512 a.0 },
      record { near = leb→le (nat_abs (get_or p 1 (pos 0))) 256 b.0 },
      b.1,
    )

small_at : (ps : List (List ℤ)) → T (small ps) → (i : ℕ)
    → Near (get_or (get_or ps i []) 0 (pos 0)) 512 × Near (get_or (get_or ps i []) 1 (pos 0)) 256
small_at [] t i = (record { near = omega arith }, record { near = omega arith })
small_at (p ∷ ps) t zero = let q = small-first p ps t in (q.0, q.1)
small_at (p ∷ ps) t (suc i) = small_at ps (small-first p ps t).2 i

abbrev pair_of : ℕ → ℕ → ℤ
pair_of predictor i = get_or (get_or pairs predictor []) i (pos 0)

module _ (predictor : ℕ) where
  near_first : Near (pair_of predictor 0) 512
  near_first = (small_at pairs tt predictor).0

  near-second : Near (pair_of predictor 1) 256
  near-second = (small_at pairs tt predictor).1

  first_fits : SFits w16 (pair_of predictor 0)
  first_fits = near_fits near_first tt

  second_fits : SFits w16 (pair_of predictor 1)
  second_fits = near_fits near-second tt

-- ---- a channel as its header says
abbrev headed : ℕ → ℤ → ℤ → ℤ → MsState
headed predictor d x y =
    record {
      first = back w32 (back w16 (pair_of predictor 0));
      second = back w32 (back w16 (pair_of predictor 1));
      delta = back w32 (back w16 d);
      newer = back w16 x;
      older = back w16 y;
    }

module _ {d : ℤ} (f : SFits w16 d) where
  pub headed-tame : (predictor : ℕ) (x y : ℤ) → Tame (headed predictor d x y)
  headed-tame predictor x y =
      record {
        first = rw (wide_is (first_fits predictor)) (near_first predictor).near;
        second = rw (wide_is (second_fits predictor)) (near-second predictor).near;
        delta = rw (wide_is f) (le_trans (fits-near f).near (omega arith));
      }

  pub headed-is : (c : ℕ) (s : List ℕ) (ch : ℕ) {x y : ℤ} → SFits w16 x → SFits w16 y
      → d ≡ sample_at s (c + 2 * ch) → x ≡ sample_at s (3 * c + 2 * ch) → y ≡ sample_at s (5 * c + 2 * ch)
      → headed (get_or s ch 0) d x y ≡ ms_opened c s ch
  unfolding ms_opened coefficient predictor_of
  headed-is c s ch g h i j k =
      λ q. record {
        first = wide_is (first_fits (get_or s ch 0)) q;
        second = wide_is (second_fits (get_or s ch 0)) q;
        delta = (wide_is f ∙ i) q;
        newer = (to_z-of_z g ∙ j) q;
        older = (to_z-of_z h ∙ k) q;
      }

pub ruleset opening = (widened, headed-is, headed-tame)
