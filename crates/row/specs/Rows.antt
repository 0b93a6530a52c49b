-- What a row means, by its cells and its count.
use Rattle.std.specs.Prelude.{ℕ, List, length, take}
use Rattle.lines.specs.Places.{limit_for}
use Rattle.row.specs.declared.Row.{Row}

-- the keys, in order: the first cells, as many as the count says
abbrev pub row_keys : {K : Type 0} {kind : _} {same : _} → Row K kind same → List K
row_keys row = take row.count row.cells.now

-- the most keys that a row over a list of cells takes
abbrev pub limit_over : {K : Type 0} → List K → ℕ
limit_over cells = limit_for (length cells)

abbrev pub row_limit : {K : Type 0} {kind : _} {same : _} → Row K kind same → ℕ
row_limit row = limit_over row.cells.now
