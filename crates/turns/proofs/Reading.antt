-- What is left of a log, by what a reader gave.
use Rattle.std.proofs.Common.{◌≡◌, ℕ, List, Some, None, Ok, Option, Result, sym, refl, ap, ◌∙◌}
use denote.Ref.{Bor}
use Rattle.keys.specs.Spelling.{read_as}
use Rattle.keys.specs.declared.denial.Denial.{Denial}
use Rattle.keys.specs.declared.key.Key.{Ghosts as KeyMeaning}
use Rattle.logs.specs.declared.pages.PageReader.{PageReader}
use Rattle.logs.specs.declared.pages.PageRecord.{PageRecord}
use Rattle.logs.specs.declared.pages.PageRecord.TheVariants.{First, Request as Asked}
use Rattle.logs.specs.declared.pages.Request.TheVariants.{Lookup, Add, Remove}
use Rattle.logs.specs.declared.plans.PlanReader.{PlanReader}
use Rattle.logs.specs.declared.plans.Move.{Move}
use Rattle.logs.specs.Framing.{read_next, valued}
use Rattle.logs.specs.Cursors.{left_of}
use Rattle.logs.specs.Records.{with}
use Rattle.logs.specs.Pages.{entry_of, record_with, page_entry, requested_by}
use Rattle.logs.specs.Plans.{plan_move}
use Rattle.logs.specs.Items.{Item, item, valued_with, page_by}
use Rattle.logs.specs.Plans.{plan_by}
use Rattle.logs.proofs.Whole.{page-next, plan-next}
use Rattle.turns.specs.Onward.{plan_left, page_left, item_of}

pub plan-read : (plan plan' : PlanReader) (answer : Result (Option Move) Denial)
    → read_next plan_move (left_of plan.cursor) ≡ (answer, left_of plan'.cursor) → plan_left plan ≡ plan_by answer (plan_left plan')
unfolding plan_left
plan-read plan plan' answer e = plan-next (left_of plan.cursor) (left_of plan'.cursor) answer e

module _ {K : Type 0} (key : KeyMeaning K) where
  pub page-read : (page page' : PageReader) {answer next : Result (Option (PageRecord (Bor (List ℕ)))) Denial}
      → read_next (page_entry key.reading page.requested) (left_of page.cursor) ≡ (valued entry_of answer, left_of page'.cursor)
      → page'.requested ≡ requested_by page.requested (valued entry_of answer) → answer ≡ next
      → page_left key page ≡ page_by key.reading (valued entry_of next) (page_left key page')
  unfolding page_left
  page-read page page' {answer} {next} e r was =
      page-next key.reading page.requested page'.requested (left_of page.cursor) (left_of page'.cursor) (valued entry_of answer) e r
      ∙ ap (λ a. page_by key.reading (valued entry_of a) (page_left key page')) was

  item-with : (given : PageRecord (Bor (List ℕ))) (k : K) → item_of key (record_with given k) ≡ item (entry_of given).asks (key.value k)
  item-with (First s) k = refl
  item-with (Asked (Lookup s)) k = refl
  item-with (Asked (Add s)) k = refl
  item-with (Asked (Remove s)) k = refl

  -- a record whose spelling has a value
  pub valued-ok : (given : PageRecord (Bor (List ℕ))) (o : Option key.Value) (k : K) (behind : List (Item key.Value) × Option Denial)
      → Ok (key.value k) ≡ read_as o → valued_with (entry_of given) o behind ≡ with (item_of key (record_with given k)) behind
  valued-ok given (Some v) k behind e =
      let same : v ≡ key.value k = cc in
      ap (λ v. with (item (entry_of given).asks v) behind) same ∙ ap (λ i. with i behind) (sym (item-with given k))
  valued-ok given None k behind e = let z : ⊥ = cc in absurd z
