-- What the judge promises of two lines and two logs.
use Rattle.std.specs.Prelude.{◌≡◌, ℕ, ◌≤◌, true, false, cond, List, Ok, Err, Result}
use Rattle.keys.specs.declared.denial.Denial.TheVariants.{NotEmpty}
use Rattle.keys.specs.declared.key.Key.{Ghosts as KeyMeaning}
use Rattle.lines.specs.declared.Line.{Ghosts as LineMeaning}
use Rattle.reckoning.specs.Reckoning.{Sums, State, Limits, cost_of}
use Rattle.reckoning.specs.Twice.{Twice}
use Rattle.reckoning.specs.Floor.{floor_of, NoneBelow}
use Rattle.bench.specs.Benches.{sums_of, both_empty, values_of, limits_of}
use Rattle.bench.specs.declared.ledger.Ledger.{Ledger}
use Rattle.logs.specs.declared.fault.Log.TheVariants.{Page}
use Rattle.logs.specs.declared.fault.Fault.{Fault}
use Rattle.acceptance.specs.Scripts.{fault_on}
use Rattle.acceptance.specs.Judgement.{judged}
use Rattle.acceptance.specs.Accepted.{Accepted, AcceptedAt, whole_calls}

-- an answer by its ledger's numbers
abbrev pub numbers_of : Result Ledger Fault → Result Sums Fault
numbers_of (Ok ledger) = Ok (sums_of ledger)
numbers_of (Err fault) = Err fault

-- what comes of a bench: its numbers where there was no fault, and both orders
abbrev pub outcome : {V : Type 0} → Result (Unit {0}) Fault × State V → Result Sums Fault × (List V × List V)
outcome (Ok done, s) = (Ok s.sums, (s.house, s.rival))
outcome (Err fault, s) = (Err fault, (s.house, s.rival))

module _ {K : Type 0} (key : KeyMeaning K) where
  -- a plan is accepted for a page of this kind of key on two empty lines of these limits, with these numbers
  abbrev pub AcceptedOn : Limits → List ℕ → List ℕ → Sums → Type 0
  AcceptedOn limits page plan sums = Accepted key.equal key.reading key.LETTER limits page plan sums

module _ {K H R : Type 0} (key : KeyMeaning K) (house : LineMeaning H K) (rival : LineMeaning R K) where
  -- The judge's answer, and both orders then, by key values. On lines of which one holds a key nothing is done, and that is said of the page as a whole.
  abbrev pub verdict : H → R → List ℕ → List ℕ → Result Sums Fault × (List key.Value × List key.Value)
  verdict h r page plan =
      cond (both_empty (house.keys h) (rival.keys r))
      (outcome (judged key.equal key.reading key.LETTER (limits_of key house rival h r) page plan))
      (Err (fault_on Page 0 NotEmpty), (values_of key (house.keys h), values_of key (rival.keys r)))

  -- two logs were judged on the lines h and r, which were left as h' and r'
  pub record Judged (page plan : List ℕ) (h : H) (r : R) (answer : Result Ledger Fault) (h' : H) (r' : R) : Type 0 where
    pub limits : limits_of key house rival h' r' ≡ limits_of key house rival h r
    -- the answer and the orders are the definition's
    pub gives : verdict h r page plan ≡ (numbers_of answer, (values_of key (house.keys h'), values_of key (rival.keys r')))
    -- lines of which one held a key hold the very keys that they held
    pub untouched : both_empty (house.keys h) (rival.keys r) ≡ false → (house.keys h' ≡ house.keys h) × (rival.keys r' ≡ rival.keys r)
    -- on empty lines a ledger is given exactly where the plan is accepted, and has its numbers and its cost
    pub accepts : both_empty (house.keys h) (rival.keys r) ≡ true → (sums : Sums) → AcceptedOn key (limits_of key house rival h r) page plan sums → numbers_of answer ≡ Ok sums
    pub accepted : (ledger : Ledger) → answer ≡ Ok ledger → AcceptedOn key (limits_of key house rival h r) page plan (sums_of ledger)
    pub costs : (ledger : Ledger) → answer ≡ Ok ledger
        → AcceptedAt key.equal key.reading key.LETTER (limits_of key house rival h r) page plan (cost_of (sums_of ledger))
    -- every accepted plan keeps the twice bound, on whatever two empty lines,
    pub bounded : (limits : Limits) (sums : Sums) → AcceptedOn key limits page plan sums → Twice sums
    -- no plan that is accepted for the page, on whatever two empty lines, costs less than its floor,
    pub floored : (limits limits' : Limits) (plan' : List ℕ) (sums sums' : Sums) → AcceptedOn key limits page plan sums → AcceptedOn key limits' page plan' sums' → floor_of sums ≤ cost_of sums'
    -- and neither does any run that is granted the same loads and requests
    pub none_below : (limits : Limits) (sums : Sums) (plays : AcceptedOn key limits page plan sums) → NoneBelow key.equal limits (whole_calls plays.firsts plays.turns) sums
