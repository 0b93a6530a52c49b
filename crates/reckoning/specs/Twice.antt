-- The twice bound, and what a caller learns of each call of a bench.
use Rattle.std.specs.Prelude.{◌≡◌, ℕ, ◌+◌, ◌*◌, ◌≤◌, Bool, List, [], ◌∷◌, ◌++◌, Result}
use Rattle.keys.specs.declared.denial.Denial.{Denial}
use Rattle.reckoning.specs.Reckoning.{Sums, State, Limits, Call, step, reckoned}

-- the two sides of the bound
abbrev pub house_side : Sums → ℕ
house_side s = s.house + s.free + s.requests

abbrev pub rival_side : Sums → ℕ
rival_side s = 2 * s.rival + s.paid

-- house cost, free exchanges and requests are together at most twice the rival cost plus the paid exchanges
abbrev pub Twice : Sums → Type 0
Twice s = house_side s ≤ rival_side s

-- the law: after every list of calls from the opening on, denied ones among them
abbrev pub TwiceLaw : (V : Type 0) → (V → V → Bool) → Type 0
TwiceLaw V equal = (limits : Limits) (calls : List (Call V)) → Twice (reckoned equal limits calls).sums

-- a call was made: its answer and the bench after it are the reckoning's; and if the bench had known no other calls than some list, it has now known these and this one, and keeps the twice bound
pub record Made {V : Type 0} (equal : V → V → Bool) (limits : Limits) (call : Call V) (before : State V) (answer : Result (Unit {0}) Denial) (after : State V) : Type 0 where
  pub reckons : step equal limits call before ≡ (answer, after)
  pub history : (calls : List (Call V)) → before ≡ reckoned equal limits calls → after ≡ reckoned equal limits (calls ++ call ∷ [])
  pub bounded : (calls : List (Call V)) → before ≡ reckoned equal limits calls → Twice after.sums
