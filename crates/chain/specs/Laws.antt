-- What holds of each chain: its implementation of the laws cites it.
use Rattle.std.specs.Prelude.{◌≡◌, ℕ, ◌≤◌, List, length}
use Rattle.std.proofs.Common.{arith}
use Rattle.chain.specs.declared.Cell.{Cell}
use Rattle.chain.specs.Chains.{room, chained}

-- the keys are no more than the limit
pub keys-within : {K : Type 0} (cells : List (Cell K)) (head count : ℕ) → length (chained cells head count) ≡ count → count ≤ room cells → length (chained cells head count) ≤ room cells
keys-within cells head count counted within = omega arith

-- and the limit is no more than 256
pub room-bounded : {K : Type 0} (cells : List (Cell K)) → room cells ≤ 256
room-bounded cells = omega arith
