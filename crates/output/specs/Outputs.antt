-- What is printed for a page log and a plan log.
use Rattle.std.specs.Prelude.{ℕ, Bool, cond, ◌&&◌, List, length, Ok, Err, Option, Result, ◌==◌, nat_eq, nat_lt, slice_index}
use Rattle.std.specs.Str.{bytes_eq}
use Rattle.keys.specs.declared.denial.Denial.TheVariants.{TooLong}
use Rattle.keys.specs.Codes.{code_read}
use Rattle.keys.specs.Names.{name_read}
use Rattle.reckoning.specs.Reckoning.{Sums, Limits}
use Rattle.logs.specs.declared.fault.Log.TheVariants.{Page, Plan}
use Rattle.logs.specs.declared.fault.Fault.{Fault}
use Rattle.acceptance.specs.Scripts.{fault_on}
use Rattle.acceptance.specs.Judgement.{judged}
use Rattle.judge.specs.Verdicts.{outcome}
use Rattle.report.specs.Reports.{report_text}
use Rattle.report.specs.Faults.{fault_text}

-- two rows of 256 cells
abbrev pub two_rows : Limits
two_rows = record { house = 256; rival = 256 }

-- the answer on two such rows for a kind of key, by how its values are told apart, its readings and its letter
abbrev pub answer_for : {V : Type 0} → (V → V → Bool) → (List ℕ → Option V) → ℕ → List ℕ → List ℕ → Result Sums Fault
answer_for equal reading letter page plan = (outcome (judged equal reading letter two_rows page plan)).0

-- the kind of key is the one that byte 1 names, and codes where it names none
abbrev pub of_names : List ℕ → Bool
of_names page = nat_lt 1 (length page) && slice_index page 1 == 78

abbrev pub answer : List ℕ → List ℕ → Result Sums Fault
answer page plan = cond (of_names page) (answer_for bytes_eq name_read 78 page plan) (answer_for nat_eq code_read 67 page plan)

-- no log may have more than 8,192 bytes; the page is looked at first
abbrev pub too_long : List ℕ → Bool
too_long log = nat_lt 8192 (length log)

abbrev pub sized_answer : List ℕ → List ℕ → Result Sums Fault
sized_answer page plan =
    cond (too_long page) (Err (fault_on Page 0 TooLong)) (cond (too_long plan) (Err (fault_on Plan 0 TooLong)) (answer page plan))

-- the report or the fault line
abbrev pub text_for : Option ℕ → Result Sums Fault → List ℕ
text_for best (Ok sums) = report_text sums best
text_for best (Err fault) = fault_text fault

abbrev pub output_text : List ℕ → List ℕ → Option ℕ → List ℕ
output_text page plan best = text_for best (sized_answer page plan)
