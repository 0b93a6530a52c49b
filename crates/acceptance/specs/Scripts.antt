-- What a page log and a plan log spell together: the calls of a bench, up to the end of both or to a fault of the logs themselves.
use Rattle.std.specs.Prelude.{ℕ, suc, Bool, true, cond, List, [], ◌∷◌, Some, None, Ok, Err, Option, Result, ◌==◌}
use Rattle.keys.specs.declared.denial.Denial.{Denial}
use Rattle.keys.specs.declared.denial.Denial.TheVariants.{Layout, Misfit}
use Rattle.reckoning.specs.Reckoning.{Call, load, start, lookup, add, remove, exchange, close}
use Rattle.logs.specs.declared.fault.Log.{Log}
use Rattle.logs.specs.declared.fault.Log.TheVariants.{Page, Plan}
use Rattle.logs.specs.declared.fault.Fault.{Fault}
use Rattle.logs.specs.declared.plans.Move.{Move}
use Rattle.logs.specs.declared.plans.Move.TheVariants.{Exchange, Goal}
use Rattle.logs.specs.Framing.{versioned, lettered_in}
use Rattle.logs.specs.Items.{Asked, Item, first, request, page_items}
use Rattle.logs.specs.Items.{lookup as looks_up, add as adds, remove as removes}
use Rattle.logs.specs.Plans.{plan_moves}

-- a call, and the numbers of the page's and the plan's record that it is read from, or 0; start and close are read from none
pub record Spelled (V : Type 0) : Type 0 where
  pub call : Call V
  pub page : ℕ
  pub plan : ℕ

-- calls, and the fault of the logs behind them, or none
pub record Script (V : Type 0) : Type 0 where
  pub calls : List (Spelled V)
  pub fault : Option Fault

abbrev pub fault_on : Log → ℕ → Denial → Fault
fault_on log at denial = record { denial = denial; log = log; at = at }

module _ {V : Type 0} where
  -- no call more, but a fault
  abbrev pub faulty : Log → ℕ → Denial → Script V
  faulty log at denial = record { calls = []; fault = Some (fault_on log at denial) }

  -- a call, and those behind it
  abbrev pub calling : Call V → ℕ → ℕ → Script V → Script V
  calling call page plan rest = record { calls = record { call = call; page = page; plan = plan } ∷ rest.calls; fault = rest.fault }

  -- the call of a request with its goal; a removal has none,
  abbrev pub request_call : Asked V → ℕ → Call V
  request_call (looks_up v) goal = lookup v goal
  request_call (adds v) goal = add v goal
  request_call (removes v) goal = remove v

  -- so that 0 has to stand for it
  abbrev pub goal_fits : Asked V → ℕ → Bool
  goal_fits (looks_up v) goal = true
  goal_fits (adds v) goal = true
  goal_fits (removes v) goal = goal == 0

  -- a request with its goal; a goal that does not fit is the plan's misfit
  abbrev pub requesting : Asked V → ℕ → ℕ → ℕ → Script V → Script V
  requesting asked goal page plan rest = cond (goal_fits asked goal) (calling (request_call asked goal) page plan rest) (faulty Plan plan Misfit)

  -- a request takes moves of the plan, of which `read` were read: exchanges, up to its goal. A plan that ends before misfits.
  abbrev pub asking : Asked V → ℕ → (ℕ → List Move → Option Denial → Script V) → ℕ → List Move → Option Denial → Script V
  asking asked page onward read [] None = faulty Plan (suc read) Misfit
  asking asked page onward read [] (Some denial) = faulty Plan (suc read) denial
  asking asked page onward read (Exchange place ∷ moves) fault = calling (exchange place) page (suc read) (asking asked page onward (suc read) moves fault)
  asking asked page onward read (Goal goal ∷ moves) fault = requesting asked goal page (suc read) (onward (suc read) moves fault)

  -- where the page has ended, the plan has to end too; then the bench is closed
  abbrev pub ending : ℕ → List Move → Option Denial → Script V
  ending read [] None = calling close 0 0 (record { calls = []; fault = None })
  ending read [] (Some denial) = faulty Plan (suc read) Misfit
  ending read (move ∷ moves) fault = faulty Plan (suc read) Misfit

  -- requests up to the page's end or fault, behind so many passed records; no first key may follow one
  abbrev pub serving : ℕ → List (Item V) → Option Denial → ℕ → List Move → Option Denial → Script V
  serving passed [] None read moves fault = ending read moves fault
  serving passed [] (Some denial) read moves fault = faulty Page (suc passed) denial
  serving passed (first v ∷ entries) broken read moves fault = faulty Page (suc passed) Layout
  serving passed (request asked ∷ entries) broken read moves fault = asking asked (suc passed) (serving (suc passed) entries broken) read moves fault

  -- first keys are loaded, and then the bench is started
  abbrev pub loading : ℕ → List (Item V) → Option Denial → List Move → Option Denial → Script V
  loading passed [] None moves fault = calling start 0 0 (ending 0 moves fault)
  loading passed [] (Some denial) moves fault = faulty Page (suc passed) denial
  loading passed (first v ∷ entries) broken moves fault = calling (load v) (suc passed) 0 (loading (suc passed) entries broken moves fault)
  loading passed (request asked ∷ entries) broken moves fault = calling start 0 0 (serving passed (request asked ∷ entries) broken 0 moves fault)

  -- the headers come first: the page's, then the plan's
  abbrev pub headed : (List ℕ → Option V) → Result (List ℕ) Denial → Result (List ℕ) Denial → Script V
  headed reading (Err denial) plan = faulty Page 0 denial
  headed reading (Ok page) (Err denial) = faulty Plan 0 denial
  headed reading (Ok page) (Ok plan) = loading 0 (page_items reading page).0 (page_items reading page).1 (plan_moves plan).0 (plan_moves plan).1

  -- the script of two logs, for a kind of key by its readings and its letter
  abbrev pub script_of : (List ℕ → Option V) → ℕ → List ℕ → List ℕ → Script V
  script_of reading letter page plan = headed reading (lettered_in letter (versioned page)) (versioned plan)
