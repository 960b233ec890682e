-- One Microsoft nibble: the prediction, and the channel after it. Assumes nothing.
use Rattle.std.specs.Prelude.{ℕ, ◌≤◌, cond, List, [], ◌∷◌, ltb, ℤ, pos, nat_abs, ◌+ℤ◌, ◌-ℤ◌, ◌*ℤ◌, get_or}
use Rattle.std.specs.Int.Signed.{lt_z, quot_z}
use Rattle.samples.specs.Sound.{hold}
use Rattle.ms_code.specs.declared.MsState.{MsState}

-- A by unsigned nibble
abbrev pub factors : List ℤ
factors =
    pos 230 ∷ pos 230 ∷ pos 230 ∷ pos 230 ∷ pos 307 ∷ pos 409 ∷ pos 512 ∷ pos 614
    ∷ pos 768 ∷ pos 614 ∷ pos 512 ∷ pos 409 ∷ pos 307 ∷ pos 230 ∷ pos 230 ∷ pos 230 ∷ []

-- a nibble as a signed number of four bits
unfoldable pub signed_nibble : ℕ → ℤ
signed_nibble k = cond (ltb k 8) (pos k) (pos k -ℤ pos 16)

-- prediction = (newer x c1 + older x c2) / 256, toward zero; the state's pair is first and second
unfoldable pub predicted : MsState → ℤ
predicted t = quot_z (t.newer *ℤ t.first +ℤ t.older *ℤ t.second) (pos 256)

-- add signed nibble x delta; hold within 16 bits
unfoldable pub sample_after : MsState → ℕ → ℤ
sample_after t k = hold (predicted t +ℤ signed_nibble k *ℤ t.delta)

-- held within 16..2,796,202
unfoldable pub held_delta : ℤ → ℤ
held_delta z = cond (lt_z z (pos 16)) (pos 16) (cond (lt_z (pos 2796202) z) (pos 2796202) z)

-- then delta = delta x A / 256, toward zero, held
unfoldable pub delta_after : ℤ → ℕ → ℤ
delta_after d k = held_delta (quot_z (d *ℤ get_or factors k (pos 0)) (pos 256))

-- a channel after a nibble
unfoldable pub after_nibble : MsState → ℕ → MsState
after_nibble t k =
    record {
      first = t.first;
      second = t.second;
      delta = delta_after t.delta k;
      newer = sample_after t k;
      older = t.newer;
    }

-- a channel whose pair and delta are small enough that all products fit 32 bits
pub record Tame (t : MsState) : Type 0 where
  pub first : nat_abs t.first ≤ 512
  pub second : nat_abs t.second ≤ 256
  pub delta : nat_abs t.delta ≤ 2796202
