-- Codes: two bytes, the higher first.
use Rattle.std.specs.Prelude.{ℕ, ◌+◌, ◌*◌, ◌/◌, ◌%◌, List, [], ◌∷◌, Some, None, Option}

-- the two bytes of a number
abbrev pub code_spelling : ℕ → List ℕ
code_spelling n = n / 256 ∷ n % 256 ∷ []

-- the number of a spelling of exactly two bytes
abbrev pub code_read : List ℕ → Option ℕ
code_read [] = None
code_read (high ∷ []) = None
code_read (high ∷ low ∷ []) = Some (high * 256 + low)
code_read (high ∷ low ∷ more ∷ rest) = None
