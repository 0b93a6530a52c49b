-- What lines are made of.
use Rattle.std.specs.Prelude.{ℕ, List, [], ◌∷◌, ◌++◌}

-- a word, one space (byte 32), a value, and a last byte
unfoldable pub item : List ℕ → List ℕ → ℕ → List ℕ
item word value last = word ++ 32 ∷ [] ++ value ++ last ∷ []

-- a line: a word, one space, a value, and byte 10
abbrev pub line : List ℕ → List ℕ → List ℕ
line word value = item word value 10
