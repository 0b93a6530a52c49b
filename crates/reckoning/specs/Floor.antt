-- The floor: what every rival that serves the same loads and requests must cost at least, by the house's numbers alone.
use Rattle.std.specs.Prelude.{◌≡◌, ℕ, ◌+◌, ◌/◌, ◌≤◌, Bool, List, [], ◌∷◌, ◌++◌, Ok, Err, Result}
use Rattle.keys.specs.declared.denial.Denial.{Denial}
use Rattle.reckoning.specs.Reckoning.{Sums, State, Limits, Call, load, start, lookup, add, remove, exchange, close, step, reckoned, empty, cost_of}

-- half of the house cost and the requests together, rounded up
abbrev pub floor_of : Sums → ℕ
floor_of s = (s.house + s.requests + 1) / 2

-- a load or a request without the way in which the rival serves it: there is no goal in it
pub data Demand (V : Type 0) : Type 0 where
  load_of : (key : V) → Demand V
  lookup_of : (key : V) → Demand V
  add_of : (key : V) → Demand V
  remove_of : (key : V) → Demand V

-- what a call demands: nothing if it is the start, an exchange or the close
abbrev pub demanded : {V : Type 0} → Call V → List (Demand V)
demanded (load v) = load_of v ∷ []
demanded start = []
demanded (lookup v goal) = lookup_of v ∷ []
demanded (add v goal) = add_of v ∷ []
demanded (remove v) = remove_of v ∷ []
demanded (exchange place) = []
demanded close = []

-- a call that is denied leaves nothing
abbrev pub unless_denied : {V : Type 0} → Result (Unit {0}) Denial → List (Demand V) → List (Demand V)
unless_denied (Ok done) demands = demands
unless_denied (Err denial) demands = []

module _ {V : Type 0} (equal : V → V → Bool) where
  -- the loads and requests of a list of calls that were not denied, in their order, from a bench
  abbrev pub granted_from : Limits → State V → List (Call V) → List (Demand V)
  granted_from limits s [] = []
  granted_from limits s (call ∷ calls) =
      unless_denied (step equal limits call s).0 (demanded call) ++ granted_from limits (step equal limits call s).1 calls

  -- the same from the opening on
  abbrev pub granted : Limits → List (Call V) → List (Demand V)
  granted limits calls = granted_from limits empty calls

  -- no rival that is granted the same loads and requests as these calls costs less than the floor of these numbers, whatever its goals,
  -- its exchanges, its denied calls and the limits of its lines
  abbrev pub NoneBelow : Limits → List (Call V) → Sums → Type 0
  NoneBelow limits calls sums =
      (limits' : Limits) (calls' : List (Call V)) → granted limits calls ≡ granted limits' calls'
      → floor_of sums ≤ cost_of (reckoned equal limits' calls').sums

-- the law: after every list of calls from the opening on, denied ones among them
abbrev pub FloorLaw : (V : Type 0) → (V → V → Bool) → Type 0
FloorLaw V equal = (limits : Limits) (calls : List (Call V)) → NoneBelow equal limits calls (reckoned equal limits calls).sums
