-- What printing a text into a buffer answers and leaves.
use Rattle.std.specs.Prelude.{ℕ, ◌<◌, ◌≤◌, cond, List, ◌++◌, length, drop, Ok, Err, Result, nat_lt}
use Rattle.keys.specs.declared.denial.Denial.{Denial}
use Rattle.keys.specs.declared.denial.Denial.TheVariants.{NoRoom}

-- the shortest buffer that is printed into
abbrev pub room : ℕ
room = 128

-- a text fills the front of a buffer, its length is given, and the rest stays; in a buffer without the room nothing is written, even
-- where the text would fit
abbrev pub printed : List ℕ → List ℕ → Result ℕ Denial × List ℕ
printed text buffer = cond (nat_lt (length buffer) room) (Err NoRoom, buffer) (Ok (length text), text ++ drop (length text) buffer)

-- no text is longer than the room, and none is denied where a buffer of so many bytes has it
abbrev pub Short : ℕ → Result ℕ Denial → Type 0
Short bytes (Ok n) = n ≤ room
Short bytes (Err denial) = bytes < room
