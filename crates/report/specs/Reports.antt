-- The report of a ledger.
use Rattle.std.specs.Prelude.{ℕ, ◌+◌, ◌-◌, ◌*◌, List, ◌++◌, Some, None, codes, decimal, Option}
use Rattle.reckoning.specs.Floor.{floor_of}
use Rattle.reckoning.specs.Reckoning.{Sums}
use Rattle.report.specs.Lines.{line}

-- twice the rival cost, plus the paid exchanges, less the free exchanges and the requests
abbrev pub twice_of : Sums → ℕ
twice_of s = 2 * s.rival + s.paid - s.free - s.requests

-- the best cost, or the word for none
abbrev pub best_of : Option ℕ → List ℕ
best_of (Some cost) = decimal cost
best_of None = codes "none"

-- eight lines: the ledger's five numbers, the two that are made of them, and the best cost that is handed in
abbrev pub report_text : Sums → Option ℕ → List ℕ
report_text s best =
    line (codes "requests") (decimal s.requests)
    ++ line (codes "house") (decimal s.house)
    ++ line (codes "rival") (decimal s.rival)
    ++ line (codes "paid") (decimal s.paid)
    ++ line (codes "free") (decimal s.free)
    ++ line (codes "twice") (decimal (twice_of s))
    ++ line (codes "floor") (decimal (floor_of s))
    ++ line (codes "best") (best_of best)
