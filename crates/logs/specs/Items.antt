-- Page logs by the values of their keys.
use Rattle.std.specs.Prelude.{ℕ, Bool, false, List, [], ◌∷◌, Some, None, Ok, Err, Option, Result}
use Rattle.keys.specs.declared.denial.Denial.{Denial}
use Rattle.keys.specs.declared.denial.Denial.TheVariants.{Layout}
use Rattle.logs.specs.Records.{with}
use Rattle.logs.specs.Pages.{Asks, Entry, first as begins, lookup as looks_up, add as adds, remove as removes, page_records_from}

-- a request of a page, by the value of its key
pub data Asked (V : Type 0) : Type 0 where
  lookup : (key : V) → Asked V
  add : (key : V) → Asked V
  remove : (key : V) → Asked V

-- a page record by the value of its key: a first key or a request
pub data Item (V : Type 0) : Type 0 where
  first : (key : V) → Item V
  request : (asked : Asked V) → Item V

-- what a page record asks for, with the value of its key
abbrev pub item : {V : Type 0} → Asks → V → Item V
item begins v = first v
item looks_up v = request (lookup v)
item adds v = request (add v)
item removes v = request (remove v)

-- a record by the value of its key, and those behind it; a spelling without a value breaks the layout
abbrev pub valued_with : {V : Type 0} → Entry → Option V → List (Item V) × Option Denial → List (Item V) × Option Denial
valued_with e (Some v) behind = with (item e.asks v) behind
valued_with e None behind = ([], Some Layout)

abbrev pub valued_entries : {V : Type 0} → (List ℕ → Option V) → List Entry → Option Denial → List (Item V) × Option Denial
valued_entries reading [] fault = ([], fault)
valued_entries reading (e ∷ es) fault = valued_with e (reading e.spelling) (valued_entries reading es fault)

-- the records that the bytes behind a page log's header spell, by the values of their keys, up to the end or the first fault; a request
-- may have been read before
abbrev pub page_items_from : {V : Type 0} → (List ℕ → Option V) → Bool → List ℕ → List (Item V) × Option Denial
page_items_from reading requested bytes = valued_entries reading (page_records_from reading requested bytes).0 (page_records_from reading requested bytes).1

abbrev pub page_items : {V : Type 0} → (List ℕ → Option V) → List ℕ → List (Item V) × Option Denial
page_items reading = page_items_from reading false

-- the records by what is read next, and those behind it
abbrev pub page_by : {V : Type 0} → (List ℕ → Option V) → Result (Option Entry) Denial → List (Item V) × Option Denial → List (Item V) × Option Denial
page_by reading (Ok None) behind = ([], None)
page_by reading (Ok (Some e)) behind = valued_with e (reading e.spelling) behind
page_by reading (Err d) behind = ([], Some d)
