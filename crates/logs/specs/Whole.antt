-- Whole logs are what their readers give, one record after another, up to the end or the first fault.
use Rattle.std.specs.Prelude.{◌≡◌, ℕ, Bool, List, Option, Result}
use Rattle.keys.specs.declared.denial.Denial.{Denial}
use Rattle.logs.specs.declared.plans.Move.{Move}
use Rattle.logs.specs.Framing.{read_next}
use Rattle.logs.specs.Pages.{Entry, page_entry, requested_by}
use Rattle.logs.specs.Items.{page_items_from, page_by}
use Rattle.logs.specs.Plans.{plan_move, plan_moves, plan_by}

-- the records that bytes spell are the one that is read next and then those of the bytes left
pub record OneByOne {V : Type 0} (reading : List ℕ → Option V) : Type 0 where
  pub pages : (requested : Bool) (bytes left : List ℕ) (answer : Result (Option Entry) Denial)
      → read_next (page_entry reading requested) bytes ≡ (answer, left)
      → page_items_from reading requested bytes ≡ page_by reading answer (page_items_from reading (requested_by requested answer) left)
  pub plans : (bytes left : List ℕ) (answer : Result (Option Move) Denial) → read_next plan_move bytes ≡ (answer, left)
      → plan_moves bytes ≡ plan_by answer (plan_moves left)
