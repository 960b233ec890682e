-- What adding and an empty side promise: one answer, with its number and its value in document 01's terms, and one content of the lent
-- buffer. Assumes nothing.
use Rattle.std.specs.Prelude.{ℕ, ◌≡◌, List, [], length, Ok}
use Rattle.little.specs.Writing.{holding}
use Rattle.units.specs.declared.BytePlace.{BytePlace}
use Rattle.units.specs.declared.Donation.{Donation}
use Rattle.units.specs.declared.Frames.{Frames}
use Rattle.writer.specs.File.{file_of, writing, written_verdict, written_number, Written}
use Rattle.side.specs.Adding.{new_file, adding, empty_side}
use Rattle.side.specs.Demands.{empty_number, add_number}

-- `add`: of a side file s and a song file t, with a lent buffer that held d: the answer r, and the buffer then holds e
pub record AddPromise (s t : List ℕ) (number : Donation) (limit : Frames) (d : List ℕ) (r : Written) (e : List ℕ) : Type 0 where
  pub answer : r ≡ adding s t number limit (length d)
  pub refusal : written_number r ≡ add_number s t number limit (length d)
  pub size : (n : BytePlace) → r ≡ Ok n → n.0 ≡ length (new_file s t number)
  pub buffer : e ≡ holding (written_verdict r) (new_file s t number) d

unfoldable pub OneAdding : Type 0
OneAdding =
    (s t : List ℕ) (number : Donation) (limit : Frames) (d : List ℕ) (r r' : Written) (e e' : List ℕ)
    → AddPromise s t number limit d r e → AddPromise s t number limit d r' e' → (r ≡ r') × (e ≡ e')

-- `empty`: the same of an empty side
pub record EmptyPromise (channels rate : ℕ) (d : List ℕ) (r : Written) (e : List ℕ) : Type 0 where
  pub answer : r ≡ writing (empty_side channels rate) [] [] (length d)
  pub number : written_number r ≡ empty_number channels rate (length d)
  pub size : (n : BytePlace) → r ≡ Ok n → n.0 ≡ length (file_of (empty_side channels rate) [] [])
  pub buffer : e ≡ holding (written_verdict r) (file_of (empty_side channels rate) [] []) d

unfoldable pub OneEmpty : Type 0
OneEmpty =
    (channels rate : ℕ) (d : List ℕ) (r r' : Written) (e e' : List ℕ)
    → EmptyPromise channels rate d r e → EmptyPromise channels rate d r' e' → (r ≡ r') × (e ≡ e')
