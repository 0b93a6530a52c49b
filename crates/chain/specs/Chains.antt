-- What a chain of cells means.
use Rattle.std.specs.Prelude.{◌≡◌, ℕ, List, map, length, nat_eq}
use Rattle.lines.specs.Places.{Different, limit_for}
use Rattle.chain.specs.declared.Cell.{Cell}
use Rattle.chain.specs.Ways.{way, picked}

-- what the cells hold, and where they point
abbrev pub keys_in : {K : Type 0} → List (Cell K) → List K
keys_in cells = map (λ c. c.key) cells

abbrev pub nexts_in : {K : Type 0} → List (Cell K) → List ℕ
nexts_in cells = map (λ c. c.next) cells

-- how many cells a chain uses, which is its limit
abbrev pub room : {K : Type 0} → List (Cell K) → ℕ
room cells = limit_for (length cells)

-- the keys of the way's first cells
abbrev pub chained : {K : Type 0} → List (Cell K) → ℕ → ℕ → List K
chained cells head count = picked (keys_in cells) (way (nexts_in cells) head count)

-- one way runs through as many cells as the chain uses, and meets none twice
pub record Whole {K : Type 0} (cells : List (Cell K)) (head : ℕ) : Type 0 where
  pub runs : length (way (nexts_in cells) head (room cells)) ≡ room cells
  pub apart : Different nat_eq (way (nexts_in cells) head (room cells))
