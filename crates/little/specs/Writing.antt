-- What a lent buffer holds after a write, for every type of element. Assumes nothing.
use Rattle.std.specs.Prelude.{ℕ, ◌+◌, ◌≡◌, List, ◌++◌, length, take, drop, Err, Ok}
use Rattle.units.specs.Refusals.{Verdict}

-- d with ys written at index at, where d has room for it
unfoldable pub write_at : {A : Type 0} → List A → ℕ → List A → List A
write_at d at ys = take at d ++ ys ++ drop (at + length ys) d

-- d with ys written from its start, where d has room for it: ys, and then what d holds past it
unfoldable pub front : {A : Type 0} → List A → List A → List A
front ys d = ys ++ drop (length ys) d

-- a lent buffer d after an operation that made ys: ys from its start and then what it held; or, where the verdict refuses, all as it was
abbrev pub holding : {A : Type 0} → Verdict → List A → List A → List A
holding (Ok _) ys d = front ys d
holding (Err r) ys d = d

-- e is d with ys written at index at
pub record Put {A : Type 0} (d : List A) (at : ℕ) (ys e : List A) : Type 0 where
  pub same : e ≡ write_at d at ys
