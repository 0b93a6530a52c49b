-- What a bench means: the orders of its two lines, by key values, and its ledger's numbers; and what its calls promise.
use Rattle.std.specs.Prelude.{◌≡◌, Bool, cond, ◌&&◌, List, [], map, length, Ok, Err, Result, ◌==◌}
use Rattle.keys.specs.declared.denial.Denial.{Denial}
use Rattle.keys.specs.declared.denial.Denial.TheVariants.{NotEmpty}
use Rattle.keys.specs.declared.key.Key.{Ghosts as KeyMeaning}
use Rattle.lines.specs.declared.Line.{Ghosts as LineMeaning}
use Rattle.reckoning.specs.Reckoning.{Sums, State, Limits, Call, reckoned}
use Rattle.reckoning.specs.Twice.{Made}
use Rattle.bench.specs.declared.ledger.Ledger.{Ledger}

-- the five numbers of a ledger
abbrev pub sums_of : Ledger → Sums
sums_of l = record { requests = l.requests; house = l.house; rival = l.rival; paid = l.paid; free = l.free }

-- no key stands in either line
abbrev pub both_empty : {K : Type 0} → List K → List K → Bool
both_empty house rival = length house == 0 && length rival == 0

module _ {K : Type 0} (key : KeyMeaning K) where
  -- what keys mean
  abbrev pub values_of : List K → List key.Value
  values_of ks = map key.value ks

module _ {K H R : Type 0} (key : KeyMeaning K) (house : LineMeaning H K) (rival : LineMeaning R K) where
  abbrev pub limits_of : H → R → Limits
  limits_of h r = record { house = house.limit h; rival = rival.limit r }

  abbrev pub bench_of : H → R → Ledger → State key.Value
  bench_of h r ledger = record { house = values_of key (house.keys h); rival = values_of key (rival.keys r); sums = sums_of ledger }

  -- opening is denied where a key stands in either line; else it gives the bench on which no call was made yet
  abbrev pub opened : H → R → Result (State key.Value) Denial
  opened h r = cond (both_empty (house.keys h) (rival.keys r)) (Ok (reckoned key.equal (limits_of h r) [])) (Err NotEmpty)

  -- a call of a bench on the lines h and r left the lines h' and r': with their limits, and in the orders, with the numbers and the answer
  -- that the reckoning gives; and where it was denied, with the very keys that they held
  pub record Called (call : Call key.Value) (h : H) (r : R) (ledger : Ledger) (answer : Result (Unit {0}) Denial) (h' : H) (r' : R) (ledger' : Ledger) : Type 0 where
    pub limits : limits_of h' r' ≡ limits_of h r
    pub made : Made key.equal (limits_of h r) call (bench_of h r ledger) answer (bench_of h' r' ledger')
    pub kept : (denial : Denial) → answer ≡ Err denial → (house.keys h' ≡ house.keys h) × (rival.keys r' ≡ rival.keys r)
