-- What a cursor tells of a log: the bytes that are left, and how many records were passed.
use Rattle.std.specs.Prelude.{ℕ, List}
use Rattle.logs.specs.declared.framing.Cursor.{Cursor}

-- the bytes that a cursor has left
abbrev pub left_of : Cursor → List ℕ
left_of cursor = cursor.rest.now

-- how many records a cursor has passed
abbrev pub passed_of : Cursor → ℕ
passed_of cursor = cursor.passed
