-- What the judge's inner functions promise: how denials become faults, what is left of the logs, and how a bench goes on from there.
-- Only contracts of inner functions cite these.
use Rattle.std.specs.Prelude.{◌≡◌, ℕ, ◌+◌, ◌<◌, ◌≤◌, cond, List, [], length, Some, None, Ok, Err, Option, Result, ◌==◌}
use Rattle.keys.specs.declared.denial.Denial.{Denial}
use Rattle.keys.specs.declared.denial.Denial.TheVariants.{Misfit}
use Rattle.keys.specs.declared.key.Key.{Ghosts as KeyMeaning}
use Rattle.lines.specs.declared.Line.{Ghosts as LineMeaning}
use Rattle.reckoning.specs.Reckoning.{start}
use Rattle.bench.specs.Benches.{limits_of, bench_of}
use Rattle.bench.specs.declared.ledger.Ledger.{Ledger}
use Rattle.logs.specs.declared.fault.Log.{Log}
use Rattle.logs.specs.declared.fault.Log.TheVariants.{Page, Plan}
use Rattle.logs.specs.declared.fault.Fault.{Fault}
use Rattle.logs.specs.declared.pages.PageReader.{PageReader}
use Rattle.logs.specs.declared.plans.PlanReader.{PlanReader}
use Rattle.logs.specs.declared.plans.Move.{Move}
use Rattle.logs.specs.Framing.{read_next, gained}
use Rattle.logs.specs.Cursors.{left_of, passed_of}
use Rattle.logs.specs.Records.{with}
use Rattle.logs.specs.Items.{Asked, Item, lookup, add, remove, first, request, page_items_from}
use Rattle.logs.specs.Plans.{plan_move, plan_moves}
use Rattle.logs.specs.declared.pages.Request.{Request as ReadRequest}
use Rattle.logs.specs.declared.pages.Request.TheVariants.{Lookup, Add, Remove}
use Rattle.logs.specs.declared.pages.PageRecord.{PageRecord as ReadRecord}
use Rattle.logs.specs.declared.pages.PageRecord.TheVariants.{First, Request}
use Rattle.acceptance.specs.Scripts.{Script, fault_on, calling, requesting, asking, ending, serving, loading}
use Rattle.acceptance.specs.Judgement.{goal_log, number_in, played}

-- an answer, with its denial held against a record
abbrev pub said_of : {T : Type 0} → Log → ℕ → Result T Denial → Result T Fault
said_of log at (Ok x) = Ok x
said_of log at (Err denial) = Err (fault_on log at denial)

-- a request's answer
abbrev pub said_of_request : ℕ → ℕ → Result (Unit {0}) Denial → Result (Unit {0}) Fault
said_of_request page plan (Ok done) = Ok done
said_of_request page plan (Err denial) = Err (fault_on (goal_log denial) (number_in (goal_log denial) page plan) denial)

-- the move that a plan gives next; where it has ended, the goal is missing
abbrev pub taken_move : ℕ → Result (Option Move) Denial → Result Move Fault
taken_move at (Ok None) = Err (fault_on Plan at Misfit)
taken_move at (Ok (Some move)) = Ok move
taken_move at (Err denial) = Err (fault_on Plan at denial)

-- where the page has ended, no byte may be left of the plan
abbrev pub left_over : ℕ → List ℕ → Result (Unit {0}) Fault
left_over at bytes = cond (length bytes == 0) (Ok tt) (Err (fault_on Plan at Misfit))

-- what a reader has still to give
unfoldable pub plan_left : PlanReader → List Move × Option Denial
plan_left plan = plan_moves (left_of plan.cursor)

module _ {K : Type 0} (key : KeyMeaning K) where
  unfoldable pub page_left : PageReader → List (Item key.Value) × Option Denial
  page_left page = page_items_from key.reading page.requested (left_of page.cursor)

  -- records by the values of their keys
  abbrev pub asked_of : ReadRequest K → Asked key.Value
  asked_of (Lookup k) = lookup (key.value k)
  asked_of (Add k) = add (key.value k)
  asked_of (Remove k) = remove (key.value k)

  abbrev pub item_of : ReadRecord K → Item key.Value
  item_of (First k) = first (key.value k)
  item_of (Request asked) = request (asked_of asked)

  -- what was left of a page, by what was read next and what is left behind it
  abbrev pub read_by : Result (Option (ReadRecord K)) Denial → List (Item key.Value) × Option Denial → List (Item key.Value) × Option Denial
  read_by (Ok None) behind = ([], None)
  read_by (Ok (Some entry)) behind = with (item_of entry) behind
  read_by (Err denial) behind = ([], Some denial)

-- a record that was read is counted, and fewer bytes are left
abbrev pub Advanced : {T : Type 0} → Result (Option T) Denial → PageReader → PageReader → Type 0
Advanced (Ok None) page page' = length (left_of page'.cursor) ≤ length (left_of page.cursor)
Advanced (Ok (Some x)) page page' = (passed_of page'.cursor ≡ passed_of page.cursor + 1) × (length (left_of page'.cursor) < length (left_of page.cursor))
Advanced (Err denial) page page' = Unit {0}

-- the script goes on where a step was done, and stops where it was not
abbrev pub resuming : {V T : Type 0} → Result T Fault → (T → Script V) → Script V
resuming (Ok x) onward = onward x
resuming (Err fault) onward = record { calls = []; fault = Some fault }

module _ {V : Type 0} where
  -- the script of a request whose moves a reader of the plan has still to give, and of one whose goal was read
  abbrev pub asking_from : Asked V → ℕ → (ℕ → List Move → Option Denial → Script V) → PlanReader → Script V
  asking_from asked page onward plan = asking asked page onward (passed_of plan.cursor) (plan_left plan).0 (plan_left plan).1

  abbrev pub going_from : (ℕ → List Move → Option Denial → Script V) → PlanReader → Script V
  going_from onward plan = onward (passed_of plan.cursor) (plan_left plan).0 (plan_left plan).1

  -- the script from a request that was read, or from the page's end where none was
  abbrev pub awaiting : Option (Asked V) → ℕ → List (Item V) × Option Denial → ℕ → List Move × Option Denial → Script V
  awaiting None passed page read plan = ending read plan.0 plan.1
  awaiting (Some asked) passed page read plan = asking asked passed (serving passed page.0 page.1) read plan.0 plan.1

-- a reader of a plan was asked for its next move, and this was made of its answer
pub record Taken (result : Result Move Fault) (plan plan' : PlanReader) : Type 0 where
  pub answer : Result (Option Move) Denial
  pub read : read_next plan_move (left_of plan.cursor) ≡ (answer, left_of plan'.cursor)
  pub passed : passed_of plan'.cursor ≡ passed_of plan.cursor + gained answer
  pub takes : result ≡ taken_move (passed_of plan.cursor + 1) answer

module _ {K : Type 0} (key : KeyMeaning K) where
  -- a request that was read, by the value of its key
  abbrev pub next_of : Option (ReadRequest K) → Option (Asked key.Value)
  next_of None = None
  next_of (Some asked) = Some (asked_of key asked)

  -- the script from where a reader of the page stands: while it is loaded, while it is served, and behind a request that was read
  abbrev pub loading_from : PageReader → List Move × Option Denial → Script key.Value
  loading_from page plan = loading (passed_of page.cursor) (page_left key page).0 (page_left key page).1 plan.0 plan.1

  abbrev pub serving_from : PageReader → ℕ → List Move × Option Denial → Script key.Value
  serving_from page read plan = serving (passed_of page.cursor) (page_left key page).0 (page_left key page).1 read plan.0 plan.1

  abbrev pub awaiting_from : Option (ReadRequest K) → PageReader → ℕ → List Move × Option Denial → Script key.Value
  awaiting_from next page read plan = awaiting (next_of next) (passed_of page.cursor) (page_left key page) read plan

  -- a reader of a page was asked for its next record, and this was made of its answer
  pub record EntryTaken (result : Result (Option (ReadRecord K)) Fault) (page page' : PageReader) : Type 0 where
    pub answer : Result (Option (ReadRecord K)) Denial
    pub read : page_left key page ≡ read_by key answer (page_left key page')
    pub advanced : Advanced answer page page'
    pub takes : result ≡ said_of Page (passed_of page.cursor + 1) answer

  -- a page was read on: whatever the plan, its next request or its end comes next
  pub record ReadOn (result : Result (Option (ReadRequest K)) Fault) (page page' : PageReader) : Type 0 where
    pub onward : (read : ℕ) (plan : List Move × Option Denial) → serving_from page read plan ≡ resuming result (λ next. awaiting_from next page' read plan)
    pub fewer : (asked : ReadRequest K) → result ≡ Ok (Some asked) → length (left_of page'.cursor) < length (left_of page.cursor)
    pub ends : result ≡ Ok None → length (left_of page'.cursor) ≤ length (left_of page.cursor)

module _ {K H R : Type 0} (key : KeyMeaning K) (house : LineMeaning H K) (rival : LineMeaning R K) where
  -- playing a script on a bench comes down to playing another on the bench that was left: lines with their limits
  pub record Continues (h : H) (r : R) (ledger : Ledger) (script : Script key.Value) (h' : H) (r' : R) (ledger' : Ledger) (script' : Script key.Value) : Type 0 where
    pub limits : limits_of key house rival h' r' ≡ limits_of key house rival h r
    pub onward :
        played key.equal (limits_of key house rival h r) (bench_of key house rival h r ledger) script
        ≡ played key.equal (limits_of key house rival h r) (bench_of key house rival h' r' ledger') script'

  -- whatever was to be asked for with the plan's next moves, exchanges were played up to its goal
  abbrev pub UpToGoal : H → R → Ledger → PlanReader → Result ℕ Fault → R → Ledger → PlanReader → Type 0
  UpToGoal h r ledger plan result r' ledger' plan' =
      (asked : Asked key.Value) (page : ℕ) (onward : ℕ → List Move → Option Denial → Script key.Value)
      → Continues h r ledger (asking_from asked page onward plan) h r' ledger'
      (resuming result (λ goal. requesting asked goal page (passed_of plan'.cursor) (going_from onward plan')))

  -- a request was served: whatever was to come behind it comes next
  abbrev pub Serves : Asked key.Value → ℕ → H → R → Ledger → PlanReader → Result (Unit {0}) Fault → H → R → Ledger → PlanReader → Type 0
  Serves asked page h r ledger plan result h' r' ledger' plan' =
      (onward : ℕ → List Move → Option Denial → Script key.Value)
      → Continues h r ledger (asking_from asked page onward plan) h' r' ledger' (resuming result (λ _. going_from onward plan'))

  -- the first keys were loaded, whatever the plan: then the bench is to be started and the request that was read, if any, to be served
  abbrev pub Loads : H → R → Ledger → PageReader → Result (Option (ReadRequest K)) Fault → H → R → Ledger → PageReader → Type 0
  Loads h r ledger page result h' r' ledger' page' =
      (plan : List Move × Option Denial)
      → Continues h r ledger (loading_from key page plan) h' r' ledger' (resuming result (λ next. calling start 0 0 (awaiting_from key next page' 0 plan)))

  -- all requests were served: then the plan has to end
  abbrev pub ServesAll : Option (ReadRequest K) → H → R → Ledger → PageReader → PlanReader → Result (Unit {0}) Fault → H → R → Ledger → PlanReader → Type 0
  ServesAll next h r ledger page plan result h' r' ledger' plan' =
      Continues h r ledger (awaiting_from key next page (passed_of plan.cursor) (plan_left plan)) h' r' ledger' (resuming result (λ _. going_from ending plan'))

  -- two logs were played to the end or to the first fault; where they were played to the end, this is the ledger
  pub record PlayedOut (h : H) (r : R) (ledger : Ledger) (page : PageReader) (plan : PlanReader) (answer : Result Ledger Fault) (h' : H) (r' : R) : Type 0 where
    pub ledger' : Ledger
    pub continues : Continues h r ledger (loading_from key page (plan_left plan)) h' r' ledger' (resuming answer (λ _. record { calls = []; fault = None }))
    pub gives : (given : Ledger) → answer ≡ Ok given → given ≡ ledger'
