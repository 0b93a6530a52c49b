-- What the judge gives: the numbers of a bench on which two logs are played, or the first fault, and the lines then.
use Rattle.std.specs.Prelude.{ℕ, Bool, cond, List, [], ◌∷◌, Some, None, Ok, Err, Option, Result, ◌==◌}
use Rattle.keys.specs.Denials.{number_of}
use Rattle.keys.specs.declared.denial.Denial.{Denial}
use Rattle.keys.specs.declared.denial.Denial.TheVariants.{BadGoal}
use Rattle.reckoning.specs.Reckoning.{State, Limits, Call, load, start, lookup, add, remove, exchange, close, empty, step}
use Rattle.logs.specs.declared.fault.Log.{Log}
use Rattle.logs.specs.declared.fault.Log.TheVariants.{Page, Plan}
use Rattle.logs.specs.declared.fault.Fault.{Fault}
use Rattle.acceptance.specs.Scripts.{Spelled, Script, fault_on, script_of}

-- a bad goal is the plan's fault, and anything else that a request is denied for the page's
abbrev pub goal_log : Denial → Log
goal_log denial = cond (number_of denial == number_of BadGoal) Plan Page

-- the log that a denied call is held against: exchanges and goals are the plan's
abbrev pub log_of : {V : Type 0} → Call V → Denial → Log
log_of (load v) denial = Page
log_of start denial = Page
log_of (lookup v goal) denial = goal_log denial
log_of (add v goal) denial = goal_log denial
log_of (remove v) denial = Page
log_of (exchange place) denial = Plan
log_of close denial = Page

-- of two record numbers, the one in a log
abbrev pub number_in : Log → ℕ → ℕ → ℕ
number_in Page page plan = page
number_in Plan page plan = plan

-- the fault of a denied call
abbrev pub blamed : {V : Type 0} → Spelled V → Denial → Fault
blamed spelled denial = fault_on (log_of spelled.call denial) (number_in (log_of spelled.call denial) spelled.page spelled.plan) denial

-- what is said at the end of a script
abbrev pub lastly : Option Fault → Result (Unit {0}) Fault
lastly None = Ok tt
lastly (Some fault) = Err fault

-- a call's answer: where it was done it goes on, and where it was denied it stops there
abbrev pub settling : {V : Type 0} → Spelled V → Result (Unit {0}) Denial × State V → (State V → Result (Unit {0}) Fault × State V) → Result (Unit {0}) Fault × State V
settling spelled (Ok done, s) onward = onward s
settling spelled (Err denial, s) onward = (Err (blamed spelled denial), s)

module _ {V : Type 0} (equal : V → V → Bool) where
  -- calls are made from a bench on, up to the first denial or the script's end; the answer, and the bench then
  abbrev pub played_from : Limits → State V → List (Spelled V) → Option Fault → Result (Unit {0}) Fault × State V
  played_from limits s [] fault = (lastly fault, s)
  played_from limits s (spelled ∷ calls) fault = settling spelled (step equal limits spelled.call s) (λ after. played_from limits after calls fault)

  abbrev pub played : Limits → State V → Script V → Result (Unit {0}) Fault × State V
  played limits s script = played_from limits s script.calls script.fault

  -- two logs are judged on a bench of two empty lines
  abbrev pub judged : (List ℕ → Option V) → ℕ → Limits → List ℕ → List ℕ → Result (Unit {0}) Fault × State V
  judged reading letter limits page plan = played limits empty (script_of reading letter page plan)
