-- A report fits 128 bytes.
use Rattle.std.proofs.Common.{◌≡◌, ℕ, ◌^◌, ◌<◌, ◌≤◌, length, IfSome, Some, None, Option, arith}
use Rattle.std.proofs.lemmas.Fmt.{length-decimal-le}
use Rattle.std.proofs.lemmas.List.{length-append}
use Rattle.reckoning.specs.Floor.{floor_of}
use Rattle.bench.specs.Benches.{sums_of}
use Rattle.bench.specs.declared.ledger.Ledger.{Ledger}
use Rattle.keys.specs.declared.denial.Denial.{Denial}
use Rattle.keys.specs.Denials.{number_of}
use Rattle.logs.specs.declared.fault.Fault.{Fault}
use Rattle.logs.specs.declared.fault.Log.{Log}
use Rattle.report.specs.Faults.{word_of, fault_text}
use Rattle.report.specs.Reports.{twice_of, best_of, report_text}
use Rattle.report.proofs.Items.{length_item}

-- a best cost has at most ten digits, and the word for none is shorter
best-short : (best : Option ℕ) → IfSome best (λ cost. cost < 2 ^ 32) → length (best_of best) ≤ 10
best-short (Some cost) h = length-decimal-le 10 cost (omega arith) (omega arith) (omega arith)
best-short None h = omega arith

-- a ledger's bounds leave room for every number's digits
pub report-fits : (ledger : Ledger) (best : Option ℕ) → IfSome best (λ cost. cost < 2 ^ 32) → length (report_text (sums_of ledger) best) ≤ 128
report-fits ledger best cost =
    let s = sums_of ledger in
    let requests = length-decimal-le 7 s.requests (omega arith) (omega arith) (omega arith) in
    let house = length-decimal-le 9 s.house (omega arith) (omega arith) (omega arith) in
    let rival = length-decimal-le 9 s.rival (omega arith) (omega arith) (omega arith) in
    let paid = length-decimal-le 7 s.paid (omega arith) (omega arith) (omega arith) in
    let free = length-decimal-le 9 s.free (omega arith) (omega arith) (omega arith) in
    let twice = length-decimal-le 9 (twice_of s) (omega arith) (omega arith) (omega arith) in
    let floor = length-decimal-le 9 (floor_of s) (omega arith) (omega arith) (omega arith) in
    let best = best-short best cost in
    simp (length-append, length_item) (omega arith)

-- a denial's number has two digits
number-small : (denial : Denial) → number_of denial < 100
number-small denial = grind arith

-- and a log's word has four letters
word-short : (log : Log) → length (word_of log) ≡ 4
word-short log = grind arith

-- and so does a fault line
pub fault-fits : (fault : Fault) → fault.at < 2 ^ 64 → length (fault_text fault) ≤ 128
fault-fits fault at =
    let number = length-decimal-le 2 (number_of fault.denial) (omega arith) (number-small fault.denial) (omega (arith, number-small fault.denial)) in
    let word = word-short fault.log in
    let record_number = length-decimal-le 20 fault.at (omega arith) (omega arith) (omega arith) in
    simp (length-append, length_item) (omega arith)
