-- A request's moves, one at a time, as a reader of the plan gives them.
use Rattle.std.proofs.Common.{◌≡◌, ℕ, suc, ◌+◌, List, Some, None, Ok, Err, Option, Result, sym, ap, ◌∙◌, add-one, arith}
use Rattle.keys.specs.declared.denial.Denial.{Denial}
use Rattle.keys.specs.declared.denial.Denial.TheVariants.{Misfit}
use Rattle.keys.specs.declared.key.Key.{Ghosts as KeyMeaning}
use Rattle.lines.specs.declared.Line.{Ghosts as LineMeaning}
use Rattle.reckoning.specs.Reckoning.{exchange}
use Rattle.bench.specs.Benches.{Called}
use Rattle.bench.specs.declared.ledger.Ledger.{Ledger}
use Rattle.logs.specs.declared.fault.Log.TheVariants.{Plan}
use Rattle.logs.specs.declared.fault.Fault.{Fault}
use Rattle.logs.specs.declared.plans.PlanReader.{PlanReader}
use Rattle.logs.specs.declared.plans.Move.{Move}
use Rattle.logs.specs.declared.plans.Move.TheVariants.{Exchange, Goal}
use Rattle.logs.specs.Framing.{gained}
use Rattle.logs.specs.Cursors.{passed_of}
use Rattle.logs.specs.Items.{Asked}
use Rattle.logs.specs.Plans.{plan_by}
use Rattle.acceptance.specs.Scripts.{Script, faulty, calling, requesting, asking}
use Rattle.turns.specs.Onward.{said_of, taken_move, plan_left, resuming, asking_from, Taken, Continues}
use Rattle.turns.proofs.Reading.{plan-read}
use Rattle.turns.proofs.Going.{held-exchange, called_on, stays, goes_on}

module _ {V : Type 0} where
  -- the script of a request from a move of its plan on, of which `read` moves were read
  abbrev pub moving : Asked V → ℕ → (ℕ → List Move → Option Denial → Script V) → Move → ℕ → List Move × Option Denial → Script V
  moving asked page onward (Exchange place) read plan = calling (exchange place) page read (asking asked page onward read plan.0 plan.1)
  moving asked page onward (Goal goal) read plan = requesting asked goal page read (onward read plan.0 plan.1)

module _ {V : Type 0} (asked : Asked V) (page : ℕ) (onward : ℕ → List Move → Option Denial → Script V) where
  asking-next : (left' : List Move × Option Denial) (answer : Result (Option Move) Denial) (read read' : ℕ) → read' ≡ read + gained answer
      → asking asked page onward read (plan_by answer left').0 (plan_by answer left').1 ≡ resuming (taken_move (read + 1) answer) (λ move. moving asked page onward move read' left')
  asking-next left' (Ok None) read read' e = ap (λ n. faulty Plan n Misfit) (sym (add-one read))
  asking-next left' (Ok (Some (Exchange place))) read read' e = let same : suc read ≡ read' = omega arith in ap (λ n. moving asked page onward (Exchange place) n left') same
  asking-next left' (Ok (Some (Goal goal))) read read' e = let same : suc read ≡ read' = omega arith in ap (λ n. moving asked page onward (Goal goal) n left') same
  asking-next left' (Err denial) read read' e = ap (λ n. faulty Plan n denial) (sym (add-one read))

  pub move_taken : (plan plan' : PlanReader) {result next : Result Move Fault} → Taken result plan plan' → result ≡ next
      → asking_from asked page onward plan ≡ resuming next (λ move. moving asked page onward move (passed_of plan'.cursor) (plan_left plan'))
  move_taken plan plan' t was =
      ap (λ (left : List Move × Option Denial). asking asked page onward (passed_of plan.cursor) left.0 left.1) (plan-read plan plan' t.answer t.read)
      ∙ asking-next (plan_left plan') t.answer (passed_of plan.cursor) (passed_of plan'.cursor) t.passed
      ∙ ap (λ taken. resuming taken (λ move. moving asked page onward move (passed_of plan'.cursor) (plan_left plan'))) (sym t.takes ∙ was)

-- an exchange that the plan gave was made
pub exchange-made : {K H R : Type 0} (key : KeyMeaning K) (house : LineMeaning H K) (rival : LineMeaning R K) (h : H) (r r' : R) (ledger ledger' : Ledger) (plan plan' : PlanReader) {taken : Result Move Fault} (place : ℕ)
    (answer : Result (Unit {0}) Denial) {at : ℕ} {said next : Result (Unit {0}) Fault}
    → Taken taken plan plan' → taken ≡ Ok (Exchange place) → Called key house rival (exchange place) h r ledger answer h r' ledger' → at ≡ passed_of plan'.cursor → said ≡ said_of Plan at answer → said ≡ next
    → (asked : Asked key.Value) (page : ℕ) (onward : ℕ → List Move → Option Denial → Script key.Value)
    → Continues key house rival h r ledger (asking_from asked page onward plan) h r' ledger' (resuming next (λ _. asking_from asked page onward plan'))
exchange-made key house rival h r r' ledger ledger' plan plan' place answer t e called n s was asked page onward =
    let read = passed_of plan'.cursor in
    goes_on key house rival (stays key house rival h r ledger _ _ (move_taken asked page onward plan plan' t e))
    (called_on key house rival (exchange place) page read h r ledger answer h r' ledger' called (sym was ∙ s ∙ ap (λ n. said_of Plan n answer) n ∙ held-exchange key.Value place page read answer) (asking_from asked page onward plan'))

module _ {K H R : Type 0} (key : KeyMeaning K) (house : LineMeaning H K) (rival : LineMeaning R K) where
  -- whatever was to be asked for with the plan's next moves, some exchanges were played, and more moves are to come
  abbrev pub Exchanging : H → R → Ledger → PlanReader → R → Ledger → PlanReader → Type 0
  Exchanging h r ledger plan r' ledger' plan' =
      (asked : Asked key.Value) (page : ℕ) (onward : ℕ → List Move → Option Denial → Script key.Value)
      → Continues key house rival h r ledger (asking_from asked page onward plan) h r' ledger' (asking_from asked page onward plan')
