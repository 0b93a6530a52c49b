-- Plan logs: moves, each with a place.
use Rattle.std.specs.Prelude.{ℕ, cond, List, [], ◌∷◌, Some, None, Ok, Err, Option, Result, ◌==◌}
use Rattle.keys.specs.declared.denial.Denial.{Denial}
use Rattle.keys.specs.declared.denial.Denial.TheVariants.{Layout}
use Rattle.logs.specs.Framing.{two_bytes}
use Rattle.logs.specs.Records.{with, records_from}
use Rattle.logs.specs.declared.plans.Move.{Move}
use Rattle.logs.specs.declared.plans.Move.TheVariants.{Exchange, Goal}

-- X is an exchange, and G a goal
abbrev pub move_by : ℕ → ℕ → Result Move Denial
move_by letter place = cond (letter == 88) (Ok (Exchange place)) (cond (letter == 71) (Ok (Goal place)) (Err Layout))

-- a record's bytes are exactly three: a letter, and a place of two bytes
abbrev pub plan_move : List ℕ → Result Move Denial
plan_move [] = Err Layout
plan_move (letter ∷ []) = Err Layout
plan_move (letter ∷ high ∷ []) = Err Layout
plan_move (letter ∷ high ∷ low ∷ []) = move_by letter (two_bytes high low)
plan_move (letter ∷ high ∷ low ∷ more ∷ rest) = Err Layout

-- no move changes the rule for the next
abbrev pub unchanged : Unit {0} → Move → Unit {0}
unchanged s m = s

-- the moves that the bytes behind a plan log's header spell, up to the end or the first fault
abbrev pub plan_moves : List ℕ → List Move × Option Denial
plan_moves = records_from (λ _. plan_move) unchanged tt

-- the moves by what is read next, and those behind it
abbrev pub plan_by : Result (Option Move) Denial → List Move × Option Denial → List Move × Option Denial
plan_by (Ok None) behind = ([], None)
plan_by (Ok (Some m)) behind = with m behind
plan_by (Err d) behind = ([], Some d)
