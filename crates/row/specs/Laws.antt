-- What holds of each row: its implementation of the laws cites it, at its cells and its count.
use Rattle.std.specs.Prelude.{ℕ, ◌≤◌, List, length, take}
use Rattle.std.proofs.Common.{arith}
use Rattle.std.proofs.lemmas.List.{length-take-le}
use Rattle.row.specs.Rows.{limit_over}

-- the keys are no more than the limit
pub keys-within : {K : Type 0} (cells : List K) (count : ℕ) → count ≤ limit_over cells → length (take count cells) ≤ limit_over cells
keys-within cells count h = omega (arith, length-take-le count cells (omega arith))

-- and the limit is no more than 256
pub limit-bounded : {K : Type 0} (cells : List K) → limit_over cells ≤ 256
limit-bounded cells = omega arith
