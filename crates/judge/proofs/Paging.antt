-- A page's records, one at a time, as its reader gives them.
use Rattle.std.proofs.Common.{◌≡◌, ℕ, suc, ◌+◌, List, Some, None, Ok, Err, Option, Result, sym, refl, ap, ◌∙◌, add-one, arith}
use Rattle.keys.specs.declared.denial.Denial.{Denial}
use Rattle.keys.specs.declared.key.Key.{Ghosts as KeyMeaning}
use Rattle.lines.specs.declared.Line.{Ghosts as LineMeaning}
use Rattle.reckoning.specs.Reckoning.{load, start}
use Rattle.bench.specs.Benches.{Called}
use Rattle.bench.specs.declared.ledger.Ledger.{Ledger}
use Rattle.logs.specs.declared.fault.Log.TheVariants.{Page}
use Rattle.logs.specs.declared.fault.Fault.{Fault}
use Rattle.logs.specs.declared.pages.PageReader.{PageReader}
use Rattle.logs.specs.declared.plans.Move.{Move}
use Rattle.logs.specs.Cursors.{passed_of}
use Rattle.logs.specs.Items.{Item}
use Rattle.logs.specs.declared.pages.PageRecord.{PageRecord as ReadRecord}
use Rattle.logs.specs.declared.pages.PageRecord.TheVariants.{First, Request}
use Rattle.acceptance.specs.Scripts.{Script, faulty, calling, loading}
use Rattle.turns.specs.Onward.{said_of, page_left, asked_of, read_by, Advanced, resuming, awaiting, loading_from, awaiting_from, EntryTaken, Continues}
use Rattle.turns.proofs.Going.{held-load, called_on, stays, goes_on}

module _ {K : Type 0} (key : KeyMeaning K) where
  -- the script from an entry that was read while the page is loaded
  abbrev pub entering_from : Option (ReadRecord K) → PageReader → List Move × Option Denial → Script key.Value
  entering_from None page plan = calling start 0 0 (awaiting_from key None page 0 plan)
  entering_from (Some (First k)) page plan = calling (load (key.value k)) (passed_of page.cursor) 0 (loading_from key page plan)
  entering_from (Some (Request asked)) page plan = calling start 0 0 (awaiting_from key (Some asked) page 0 plan)

  module _ (page page' : PageReader) where
    entered : (plan : List Move × Option Denial) (answer : Result (Option (ReadRecord K)) Denial) → Advanced answer page page'
        → (let left = read_by key answer (page_left key page') in loading (passed_of page.cursor) left.0 left.1 plan.0 plan.1)
        ≡ resuming (said_of Page (passed_of page.cursor + 1) answer) (λ next. entering_from next page' plan)
    entered plan (Ok None) a = refl
    entered plan (Ok (Some (First k))) a =
        let next : suc (passed_of page.cursor) ≡ passed_of page'.cursor = omega arith in
        ap (λ n. calling (load (key.value k)) n 0 (loading n (page_left key page').0 (page_left key page').1 plan.0 plan.1)) next
    entered plan (Ok (Some (Request asked))) a =
        let next : suc (passed_of page.cursor) ≡ passed_of page'.cursor = omega arith in
        ap (λ n. calling start 0 0 (awaiting (Some (asked_of key asked)) n (page_left key page') 0 plan)) next
    entered plan (Err denial) a = ap (λ n. faulty Page n denial) (sym (add-one (passed_of page.cursor)))

    pub entry-loaded : {result next : Result (Option (ReadRecord K)) Fault} → EntryTaken key result page page' → result ≡ next → (plan : List Move × Option Denial)
        → loading_from key page plan ≡ resuming next (λ next. entering_from next page' plan)
    entry-loaded taken was plan =
        ap (λ (left : List (Item key.Value) × Option Denial). loading (passed_of page.cursor) left.0 left.1 plan.0 plan.1) taken.read
        ∙ entered plan taken.answer taken.advanced
        ∙ ap (λ said. resuming said (λ next. entering_from next page' plan)) (sym taken.takes ∙ was)

-- a first key that the page gave was loaded
pub load-made : {K H R : Type 0} (key : KeyMeaning K) (house : LineMeaning H K) (rival : LineMeaning R K) (h h' : H) (r r' : R) (ledger ledger' : Ledger) (page page' : PageReader) {at : ℕ} (k : K)
    (answer : Result (Unit {0}) Denial) {said next : Result (Unit {0}) Fault}
    → ((plan : List Move × Option Denial) → loading_from key page plan ≡ entering_from key (Some (First k)) page' plan)
    → Called key house rival (load (key.value k)) h r ledger answer h' r' ledger' → at ≡ passed_of page'.cursor → said ≡ said_of Page at answer → said ≡ next
    → (plan : List Move × Option Denial) → Continues key house rival h r ledger (loading_from key page plan) h' r' ledger' (resuming next (λ _. loading_from key page' plan))
load-made key house rival h h' r r' ledger ledger' page page' k answer entered called n s was plan =
    let at = passed_of page'.cursor in
    goes_on key house rival (stays key house rival h r ledger _ _ (entered plan))
    (called_on key house rival (load (key.value k)) at 0 h r ledger answer h' r' ledger' called (sym was ∙ s ∙ ap (λ n. said_of Page n answer) n ∙ held-load (key.value k) at 0 answer) (loading_from key page' plan))
