-- The reckoning of a bench: what a list of calls does to two orders of key values and five numbers, from the lines' limits alone.
use Rattle.std.specs.Prelude.{ℕ, suc, ◌+◌, ◌-◌, Bool, cond, not, ◌||◌, List, [], ◌∷◌, ◌++◌, length, Some, None, Ok, Err, Option, Result, ◌==◌}
use Rattle.keys.specs.declared.denial.Denial.{Denial}
use Rattle.keys.specs.declared.denial.Denial.TheVariants.{Unmatched, OutOfRange, Present, Full, Absent, Exhausted, BadGoal}
use Rattle.lines.specs.Orders.{is_place, may_exchange, exchanged, taken_out, brought_forward}
use Rattle.lines.specs.Places.{stands, walk}

-- The house moves each looked up or added key to the front. The rival moves it to a goal, a place that its caller names;
-- the exchanges on that way are free, and any other exchange of two neighbours of the rival is paid.

-- the five numbers of a ledger: requests, the cost of the house and of the rival, the rival's paid and free exchanges
pub record Sums : Type 0 where
  pub requests : ℕ
  pub house : ℕ
  pub rival : ℕ
  pub paid : ℕ
  pub free : ℕ

-- what a rival's way of serving costs: its cost and its paid exchanges
abbrev pub cost_of : Sums → ℕ
cost_of s = s.rival + s.paid

-- a bench: the order of each side, from the front, and the numbers
pub record State (V : Type 0) : Type 0 where
  pub house : List V
  pub rival : List V
  pub sums : Sums

-- the most keys that each side takes
pub record Limits : Type 0 where
  pub house : ℕ
  pub rival : ℕ

-- the calls of a bench after its opening, with the value of their key, the rival's goal or a place in the rival line. A list of
-- them may have any order here; the types of the standings hold a caller to loads, start, requests and exchanges, close
pub data Call (V : Type 0) : Type 0 where
  load : (key : V) → Call V
  start : Call V
  lookup : (key : V) (goal : ℕ) → Call V
  add : (key : V) (goal : ℕ) → Call V
  remove : (key : V) → Call V
  exchange : (place : ℕ) → Call V
  close : Call V

abbrev pub zeros : Sums
zeros = record { requests = 0; house = 0; rival = 0; paid = 0; free = 0 }

-- the most requests that a ledger counts, and the most paid exchanges
abbrev pub most : ℕ
most = 1000000

-- a request: each side pays its key's place, the rival makes some free exchanges
abbrev pub served : ℕ → ℕ → ℕ → Sums → Sums
served house_place rival_place moved s = record {
  requests = s.requests + 1;
  house = s.house + house_place;
  rival = s.rival + rival_place;
  paid = s.paid;
  free = s.free + moved;
}

-- a paid exchange
abbrev pub paid_for : Sums → Sums
paid_for s = record { requests = s.requests; house = s.house; rival = s.rival; paid = s.paid + 1; free = s.free }

-- the denial of the first check that fails, in their order
abbrev pub first_failed : List (Bool × Denial) → Option Denial
first_failed [] = None
first_failed (check ∷ checks) = cond check.0 (Some check.1) (first_failed checks)

-- a call with no failed check is done; any other is denied, and changes nothing
abbrev pub decided : {S : Type 0} → Option Denial → S → S → Result (Unit {0}) Denial × S
decided None after before = (Ok tt, after)
decided (Some denial) after before = (Err denial, before)

-- a goal that is not from 1 to the place
abbrev pub outside : ℕ → ℕ → Bool
outside goal place = not (is_place goal place)

-- two lines of no keys, and nothing counted
abbrev pub empty : {V : Type 0} → State V
empty = record { house = []; rival = []; sums = zeros }

-- one of the lines has as many keys as its limit
abbrev pub full : {V : Type 0} → Limits → State V → Bool
full limits s = length s.house == limits.house || length s.rival == limits.rival

module _ {V : Type 0} (equal : V → V → Bool) where
  -- the lines' counts differ, or the key stands in just one line
  abbrev pub unmatched : V → List V → List V → Bool
  unmatched v house rival =
      not (length house == length rival)
      || cond (stands equal v house) (not (stands equal v rival)) (stands equal v rival)

  -- the checks of each call, as what fails and the denial that it brings
  abbrev pub checks : Limits → Call V → State V → List (Bool × Denial)
  checks limits (load v) s =
      (unmatched v s.house s.rival, Unmatched)
      ∷ (stands equal v s.house, Present)
      ∷ (full limits s, Full)
      ∷ []
  checks limits start s = []
  checks limits (lookup v goal) s =
      ((s.sums.requests == most), Exhausted)
      ∷ (unmatched v s.house s.rival, Unmatched)
      ∷ (not (stands equal v s.house), Absent)
      ∷ (outside goal (walk equal v s.rival), BadGoal)
      ∷ []
  checks limits (add v goal) s =
      ((s.sums.requests == most), Exhausted)
      ∷ (unmatched v s.house s.rival, Unmatched)
      ∷ (stands equal v s.house, Present)
      ∷ (full limits s, Full)
      ∷ (outside goal (suc (length s.rival)), BadGoal)
      ∷ []
  checks limits (remove v) s =
      ((s.sums.requests == most), Exhausted)
      ∷ (unmatched v s.house s.rival, Unmatched)
      ∷ (not (stands equal v s.house), Absent)
      ∷ []
  checks limits (exchange place) s =
      ((s.sums.paid == most), Exhausted)
      ∷ (not (may_exchange place (length s.rival)), OutOfRange)
      ∷ []
  checks limits close s = []

  -- what each call does where no check fails
  abbrev pub done : Call V → State V → State V
  done (load v) s = record { house = s.house ++ v ∷ []; rival = s.rival ++ v ∷ []; sums = s.sums }
  done start s = s
  done (lookup v goal) s = record {
    house = brought_forward (walk equal v s.house) 1 s.house;
    rival = brought_forward (walk equal v s.rival) goal s.rival;
    sums = served (walk equal v s.house) (walk equal v s.rival) (walk equal v s.rival - goal) s.sums;
  }
  done (add v goal) s = record {
    house = brought_forward (suc (length s.house)) 1 (s.house ++ v ∷ []);
    rival = brought_forward (suc (length s.rival)) goal (s.rival ++ v ∷ []);
    sums = served (suc (length s.house)) (suc (length s.rival)) (suc (length s.rival) - goal) s.sums;
  }
  done (remove v) s = record {
    house = taken_out (walk equal v s.house) s.house;
    rival = taken_out (walk equal v s.rival) s.rival;
    sums = served (walk equal v s.house) (walk equal v s.rival) 0 s.sums;
  }
  done (exchange place) s = record { house = s.house; rival = exchanged place s.rival; sums = paid_for s.sums }
  done close s = s

  -- a call: its answer, and the bench after it
  abbrev pub step : Limits → Call V → State V → Result (Unit {0}) Denial × State V
  step limits call s = decided (first_failed (checks limits call s)) (done call s) s

  -- a list of calls, from a bench
  abbrev pub reckoned_from : Limits → State V → List (Call V) → State V
  reckoned_from limits s [] = s
  reckoned_from limits s (call ∷ calls) = reckoned_from limits (step limits call s).1 calls

  -- a list of calls, from the opening on
  abbrev pub reckoned : Limits → List (Call V) → State V
  reckoned limits calls = reckoned_from limits empty calls
