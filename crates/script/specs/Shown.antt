-- What is printed of an outcome.
use Rattle.std.specs.Prelude.{ℕ, List, ◌++◌, Ok, Err, Result, codes, decimal}
use Rattle.keys.specs.Denials.{number_of}
use Rattle.script.specs.declared.outcome.Refusal.{Refusal}
use Rattle.script.specs.declared.outcome.Refusal.TheVariants.{Denied, NoCall, Unfit}

abbrev pub refusal_text : Refusal → List ℕ
refusal_text (Denied denial) = codes " denied " ++ decimal (number_of denial)
refusal_text NoCall = codes ": not a call"
refusal_text Unfit = codes ": does not fit the standing"

abbrev pub outcome_text : Result (Unit {0}) Refusal → List ℕ
outcome_text (Ok done) = codes " ok"
outcome_text (Err refusal) = refusal_text refusal
