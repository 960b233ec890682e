-- The steps of a file, and the directory that they make. Assumes nothing.
use Rattle.std.specs.Prelude.{ℕ, zero, suc, false, cond, List, [], ◌∷◌, ltb, length, take, drop, Err, None, Ok, Some}
use Rattle.units.specs.declared.BytePlace.{BytePlace}
use Rattle.units.specs.declared.Refusal.{Refusal}
use Rattle.units.specs.declared.Refusal.TheVariants.{ChunkPastTheEnd}
use Rattle.units.specs.Refusals.{number_of, Verdict}
use Rattle.riff.specs.declared.Directory.{Directory}
use Rattle.riff.specs.Chunks.{head_verdict, chunk_at, directory, keep, Spot, Step, Walked}

abbrev pub nothing_yet : Directory
nothing_yet = directory None None None None None None false

-- a step, and the steps after it; a refusal is the last
abbrev pub step_then : (BytePlace → Directory → List Step) → Directory → Step → List Step
step_then next d (Ok p) = Ok p ∷ next p.next (keep d p p.kind)
step_then next d (Err r) = Err r ∷ []

-- the steps from a place to the end of the file, n at most
unfoldable pub steps_from : ℕ → List ℕ → BytePlace → Directory → List Step
steps_from zero s at d = []
steps_from (suc n) s at d = cond (ltb at.0 (length s)) (step_then (steps_from n s) d (chunk_at s at d)) []

-- the steps of a file, from byte 12; each passes a byte at least, so that there are not more than bytes
unfoldable pub steps_of : List ℕ → List Step
steps_of s = steps_from (length s) s (record { 0 = 12 }) nothing_yet

-- the directory that steps make
unfoldable pub gather : Directory → List Step → Walked
gather d [] = Ok d
gather d (Ok p ∷ l) = gather (keep d p p.kind) l
gather d (Err r ∷ l) = Err r

unfoldable pub walk_of : List ℕ → Walked
walk_of s = gather nothing_yet (steps_of s)

-- a file's directory: 1, 2, 3; then the walk
abbrev pub after_head : Verdict → Walked → Walked
after_head (Ok _) w = w
after_head (Err r) w = Err r

-- the number of a walk: that of its last step, and 0 where it is whole
abbrev pub walked_number : Walked → ℕ
walked_number (Ok d) = 0
walked_number (Err r) = number_of r

unfoldable pub directory_of : List ℕ → Walked
directory_of s = after_head (head_verdict s) (walk_of s)

-- the data of a chunk; where it is missing, what is read in its place
abbrev pub part_of : List ℕ → Spot → List ℕ → List ℕ
part_of s (Some p) absent = take p.size.0 (drop p.start.0 s)
part_of s None absent = absent

-- one of two values: of a chunk that is there, or of what is read in its place
unfoldable pub by_spot : {A : Type 0} → Spot → A → A → A
by_spot (Some p) there absent = there
by_spot None there absent = absent

-- where a chunk's data start
abbrev pub start_of : Spot → ℕ
start_of (Some p) = p.start.0
start_of None = 0

-- the refusal that a step is; a chunk is none, and any would do
abbrev pub refusal_of : Step → Refusal
refusal_of (Ok p) = ChunkPastTheEnd
refusal_of (Err r) = r
