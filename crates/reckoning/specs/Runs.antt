-- Worked runs: what the definitions give for small benches of numbered keys.
use Rattle.std.specs.Prelude.{◌≡◌, ℕ, List, [], ◌∷◌, ◌++◌, map, Some, None, Ok, Err, Option, Result, nat_eq}
use Rattle.keys.specs.Denials.{number_of}
use Rattle.keys.specs.declared.denial.Denial.{Denial}
use Rattle.reckoning.specs.Reckoning.{Sums, State, Limits, Call, load, start, lookup, add, remove, exchange, step, reckoned}
use Rattle.reckoning.specs.Twice.{house_side, rival_side}

-- two lines of one limit
abbrev pub both : ℕ → Limits
both limit = record { house = limit; rival = limit }

-- a bench that loads a first order, starts, and gets some calls
abbrev pub run : ℕ → List ℕ → List (Call ℕ) → State ℕ
run limit first calls = reckoned nat_eq (both limit) (map load first ++ start ∷ calls)

-- the numbers by their letters: house, rival, paid (X), free, requests (N)
abbrev pub sums : ℕ → ℕ → ℕ → ℕ → ℕ → Sums
sums h r x f n = record { requests = n; house = h; rival = r; paid = x; free = f }

-- the number of a denial
abbrev pub refusal : Result (Unit {0}) Denial → Option ℕ
refusal (Ok done) = None
refusal (Err denial) = Some (number_of denial)

-- one call more, after a first order was loaded, is denied with a number and changes nothing
pub record Denied (limit : ℕ) (first : List ℕ) (call : Call ℕ) (number : ℕ) : Type 0 where
  pub answer : refusal (step nat_eq (both limit) call (run limit first [])).0 ≡ Some number
  pub unchanged : (step nat_eq (both limit) call (run limit first [])).1 ≡ run limit first []

abbrev pub a : ℕ
a = 1

abbrev pub b : ℕ
b = 2

pub record WorkedRuns : Type 0 where
  pub addition : (run 256 [] (add a 1 ∷ [])).sums ≡ sums 1 1 0 0 1
  pub addition_bound : (house_side (sums 1 1 0 0 1) ≡ 2) × (rival_side (sums 1 1 0 0 1) ≡ 2)
  pub paid_ahead : (run 256 (a ∷ b ∷ []) (exchange 1 ∷ lookup b 1 ∷ [])).sums ≡ sums 2 1 1 0 1
  pub paid_ahead_bound : (house_side (sums 2 1 1 0 1) ≡ 3) × (rival_side (sums 2 1 1 0 1) ≡ 3)
  pub removal : (run 256 (a ∷ b ∷ []) (remove b ∷ [])).sums ≡ sums 2 2 0 0 1
  pub full_line : (goal : ℕ) → Denied 1 (a ∷ []) (add b goal) 5
  pub room_again : (run 1 (a ∷ []) (remove a ∷ add b 1 ∷ [])).sums ≡ sums 2 2 0 0 2
  pub goal_zero : Denied 256 (a ∷ b ∷ []) (lookup b 0) 8
  pub goal_past_place : Denied 256 (a ∷ b ∷ []) (lookup b 3) 8
  pub exchange_at_last : Denied 256 (a ∷ b ∷ []) (exchange 2) 3
