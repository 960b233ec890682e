-- What reading promises: one answer with its number in document 01's terms, and one content of the buffer that is lent for texts; and
-- of the sound one part of the lent file, at one place. Assumes nothing.
use Rattle.std.specs.Prelude.{ℕ, ◌+◌, ◌≡◌, List, length}
use Rattle.little.specs.Writing.{holding}
use Rattle.units.specs.Refusals.{verdict_number}
use Rattle.reader.specs.Content.{reading_in, texts_in, sound_in, sound_start}
use Rattle.reader.specs.Demands.{number_within}
use Rattle.rules.specs.Rules.{reading_verdict, Reading}

-- `read`: of a file s, with a lent buffer that held d, the answer r, which is a verdict and a record; and the buffer then holds e
pub record ReadPromise (s d : List ℕ) (r : Reading) (e : List ℕ) : Type 0 where
  pub answer : r ≡ reading_in s (length d)
  pub number : verdict_number (reading_verdict r) ≡ number_within s (length d)
  pub buffer : e ≡ holding (reading_verdict r) (texts_in s) d

unfoldable pub OneReading : Type 0
OneReading =
    (s d : List ℕ) (r r' : Reading) (e e' : List ℕ) → ReadPromise s d r e → ReadPromise s d r' e' → (r ≡ r') × (e ≡ e')

-- `sound_of`: of a file s, lent by a lender from a place on, the bytes w, lent by whom and from where
pub record SoundPromise {A : Type 0} (s : List ℕ) (lender : A) (from : ℕ) (w : List ℕ) (by : A) (at : ℕ) : Type 0 where
  pub part : w ≡ sound_in s
  pub lent : by ≡ lender
  pub place : at ≡ from + sound_start s

unfoldable pub OneSound : Type 1
OneSound =
    (A : Type 0) (s : List ℕ) (lender : A) (from : ℕ) (w w' : List ℕ) (by by' : A) (at at' : ℕ)
    → SoundPromise s lender from w by at → SoundPromise s lender from w' by' at' → (w ≡ w') × (by ≡ by') × (at ≡ at')
