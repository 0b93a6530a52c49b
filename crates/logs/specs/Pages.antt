-- Page logs: first keys, then requests, each with its key's spelling.
use Rattle.std.specs.Prelude.{ℕ, Bool, true, false, cond, not, ◌&&◌, ◌||◌, List, [], ◌∷◌, is_some, Some, None, Ok, Err, Option, Result, ◌==◌}
use denote.Ref.{Bor}
use Rattle.keys.specs.declared.denial.Denial.{Denial}
use Rattle.keys.specs.declared.denial.Denial.TheVariants.{Layout}
use Rattle.logs.specs.Records.{records_from}
use Rattle.logs.specs.declared.pages.Request.{Request}
use Rattle.logs.specs.declared.pages.Request.TheVariants.{Lookup, Add, Remove}
use Rattle.logs.specs.declared.pages.PageRecord.{PageRecord}
use Rattle.logs.specs.declared.pages.PageRecord.TheVariants.{First, Request as Asked}

-- what a page record asks for
pub data Asks : Type 0 where
  first : Asks
  lookup : Asks
  add : Asks
  remove : Asks

-- a page record: what it asks for, and the spelling of its key
pub record Entry : Type 0 where
  pub asks : Asks
  pub spelling : List ℕ

abbrev pub entry : Asks → List ℕ → Entry
entry asks spelling = record { asks = asks; spelling = spelling }

-- the same request and the same record, of another key
abbrev pub request_with : {T U : Type 0} → Request T → U → Request U
request_with (Lookup k) other = Lookup other
request_with (Add k) other = Add other
request_with (Remove k) other = Remove other

abbrev pub record_with : {T U : Type 0} → PageRecord T → U → PageRecord U
record_with (First k) other = First other
record_with (Asked r) other = Asked (request_with r other)

-- the value of a page record
abbrev pub request_of : Request (Bor (List ℕ)) → Entry
request_of (Lookup s) = entry lookup s.now
request_of (Add s) = entry add s.now
request_of (Remove s) = entry remove s.now

abbrev pub entry_of : PageRecord (Bor (List ℕ)) → Entry
entry_of (First s) = entry first s.now
entry_of (Asked r) = request_of r

-- F, L, A and R ask for something, where F does not follow a request
abbrev pub asked : Bool → ℕ → Option Asks
asked requested letter =
    cond (letter == 70 && not requested) (Some first)
    (cond (letter == 76) (Some lookup) (cond (letter == 65) (Some add) (cond (letter == 82) (Some remove) None)))

abbrev pub entry_as : Option Asks → List ℕ → Result Entry Denial
entry_as (Some asks) spelling = Ok (entry asks spelling)
entry_as None spelling = Err Layout

-- the kind of key has to have a value for the spelling
abbrev pub spelled_entry : {V : Type 0} → (List ℕ → Option V) → Bool → ℕ → List ℕ → Result Entry Denial
spelled_entry reading requested letter spelling =
    cond (is_some (reading spelling)) (entry_as (asked requested letter) spelling) (Err Layout)

-- a record's bytes: a letter and a spelling
abbrev pub page_entry : {V : Type 0} → (List ℕ → Option V) → Bool → List ℕ → Result Entry Denial
page_entry reading requested [] = Err Layout
page_entry reading requested (letter ∷ spelling) = spelled_entry reading requested letter spelling

-- all but a first key are requests
abbrev pub is_request : Entry → Bool
is_request e = elim e.asks [ first ↦ false | lookup ↦ true | add ↦ true | remove ↦ true ]

-- whether a request was read, once an entry is
abbrev pub now_requested : Bool → Entry → Bool
now_requested requested e = requested || is_request e

-- and once an answer is given
abbrev pub requested_by : Bool → Result (Option Entry) Denial → Bool
requested_by requested (Ok None) = requested
requested_by requested (Ok (Some e)) = now_requested requested e
requested_by requested (Err d) = requested

-- the records that the bytes behind a page log's header spell, up to the end or the first fault
abbrev pub page_records_from : {V : Type 0} → (List ℕ → Option V) → Bool → List ℕ → List Entry × Option Denial
page_records_from reading = records_from (page_entry reading) now_requested

abbrev pub page_records : {V : Type 0} → (List ℕ → Option V) → List ℕ → List Entry × Option Denial
page_records reading = page_records_from reading false
