-- What reading a spelling answers, and what writing a text into a buffer answers and leaves.
use Rattle.std.specs.Prelude.{ℕ, cond, List, ◌++◌, length, drop, Some, None, Ok, Err, Option, Result, nat_lt}
use Rattle.keys.specs.declared.denial.Denial.{Denial}
use Rattle.keys.specs.declared.denial.Denial.TheVariants.{Layout, NoRoom}

-- an answer by what it means: what was given by its meaning, as a key by its value, and a denial as it is
abbrev pub meant : {K V : Type 0} → (K → V) → Result K Denial → Result V Denial
meant value (Ok k) = Ok (value k)
meant value (Err d) = Err d

-- a spelling with a value is read as it, and one without breaks the layout
abbrev pub read_as : {V : Type 0} → Option V → Result V Denial
read_as (Some v) = Ok v
read_as None = Err Layout

-- a text fills the front of a buffer, its length is given, and the rest stays; in too short a buffer nothing is written
abbrev pub written : List ℕ → List ℕ → Result ℕ Denial × List ℕ
written text buffer = cond (nat_lt (length buffer) (length text)) (Err NoRoom, buffer) (Ok (length text), text ++ drop (length text) buffer)
