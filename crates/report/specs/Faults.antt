-- The fault line.
use Rattle.std.specs.Prelude.{ℕ, List, ◌++◌, codes, decimal}
use Rattle.keys.specs.Denials.{number_of}
use Rattle.logs.specs.declared.fault.Fault.{Fault}
use Rattle.logs.specs.declared.fault.Log.{Log}
use Rattle.logs.specs.declared.fault.Log.TheVariants.{Page, Plan}
use Rattle.report.specs.Lines.{item, line}

-- the word of a log
abbrev pub word_of : Log → List ℕ
word_of Page = codes "page"
word_of Plan = codes "plan"

-- one line: the number of the denial and, behind a space, the log's word and the number of the record
abbrev pub fault_text : Fault → List ℕ
fault_text f = item (codes "fault") (decimal (number_of f.denial)) 32 ++ line (word_of f.log) (decimal f.at)
