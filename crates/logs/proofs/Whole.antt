-- The records of a log, one at a time: the one that is read next, and then those of the bytes left.
use Rattle.std.proofs.Common.{◌≡◌, ℕ, zero, suc, ◌<◌, ◌≤◌, Bool, ltb, List, [], ◌∷◌, length, take, drop, Some, None, Ok, Err, Option, Result, sym, refl, ap, ◌∙◌, subst, arith, length-drop}
use Rattle.std.proofs.lemmas.Bool.{cond_both}
use Rattle.keys.specs.declared.denial.Denial.{Denial}
use Rattle.logs.specs.declared.plans.Move.{Move}
use Rattle.logs.specs.Framing.{two_bytes, passed_by, read_in, read_next}
use Rattle.logs.specs.Records.{with, followed, at_most, records_from}
use Rattle.logs.specs.Pages.{Entry, page_entry, now_requested, requested_by, page_records_from}
use Rattle.logs.specs.Items.{valued_entries, page_items_from, page_by}
use Rattle.logs.specs.Plans.{plan_move, unchanged, plan_moves, plan_by}

-- fewer bytes than n are left behind a record that is given
abbrev Less : {R : Type 0} → ℕ → Result (Option R) Denial × List ℕ → Type 0
Less n (Ok None, left) = Unit {0}
Less n (Ok (Some r), left) = length left < n
Less n (Err d, left) = Unit {0}

less-passed : {R : Type 0} (bytes left : List ℕ) → length left < length bytes → (r : Result R Denial) → Less (length bytes) (passed_by bytes left r)
less-passed bytes left h (Ok r) = h
less-passed bytes left h (Err d) = tt

less-read : {R : Type 0} (rule : List ℕ → Result R Denial) (bytes : List ℕ) → Less (length bytes) (read_next rule bytes)
less-read rule [] = tt
less-read rule (high ∷ []) = tt
less-read rule (high ∷ low ∷ rest) =
    let bytes = high ∷ low ∷ rest in
    let size = two_bytes high low in
    cond_both (ltb (length rest) size) _ _ (λ next. Less (length bytes) (read_in rule bytes next)) (λ _. tt)
    (λ _. less-passed bytes (drop size rest) (simp length-drop (omega arith)) (rule (take size rest)))

-- where two ways to read on agree on fewer bytes, they agree behind an answer
same-followed : {S R : Type 0} (after : S → R → S) (n : ℕ) (F G : S → List ℕ → List R × Option Denial) → ((state : S) (left : List ℕ) → length left < n → F state left ≡ G state left) → (state : S) (answer : Result (Option R) Denial × List ℕ) → Less n answer → followed after F state answer ≡ followed after G state answer
same-followed after n F G same state (Ok None, left) h = refl
same-followed after n F G same state (Ok (Some r), left) h = ap (with r) (same (after state r) left h)
same-followed after n F G same state (Err d, left) h = refl

module _ {S R : Type 0} (rule : S → List ℕ → Result R Denial) (after : S → R → S) where
  -- a bound on the records that is at least the number of bytes does not matter
  enough : (m n : ℕ) (state : S) (bytes : List ℕ) → length bytes ≤ m → length bytes ≤ n → at_most rule after m state bytes ≡ at_most rule after n state bytes
  enough zero zero state bytes p q = refl
  enough zero (suc n) state [] p q = refl
  enough zero (suc n) state (b ∷ bytes) p q = absurd (omega arith)
  enough (suc m) zero state [] p q = refl
  enough (suc m) zero state (b ∷ bytes) p q = absurd (omega arith)
  enough (suc m) (suc n) state bytes p q =
      same-followed after (length bytes) (at_most rule after m) (at_most rule after n)
      (λ next left h. enough m n next left (omega arith) (omega arith))
      state (read_next (rule state) bytes) (less-read (rule state) bytes)

  pub records-next : (state : S) (bytes : List ℕ) → records_from rule after state bytes ≡ followed after (records_from rule after) state (read_next (rule state) bytes)
  records-next state [] = refl
  records-next state (b ∷ bytes) =
      same-followed after (length (b ∷ bytes)) (at_most rule after (length bytes)) (records_from rule after)
      (λ next left h. enough (length bytes) (length left) next left (omega arith) (omega arith))
      state (read_next (rule state) (b ∷ bytes)) (less-read (rule state) (b ∷ bytes))

-- a record that was read is passed: fewer bytes are left
pub read-fewer : {R : Type 0} (rule : List ℕ → Result R Denial) (bytes left : List ℕ) (r : R) → read_next rule bytes ≡ (Ok (Some r), left) → length left < length bytes
read-fewer rule bytes left r e = subst (Less (length bytes)) e (less-read rule bytes)

-- for page logs
pub page-records-next : {V : Type 0} (reading : List ℕ → Option V) (requested : Bool) (bytes : List ℕ) → page_records_from reading requested bytes ≡ followed now_requested (page_records_from reading) requested (read_next (page_entry reading requested) bytes)
page-records-next reading = records-next (page_entry reading) now_requested

valued_by : {V : Type 0} (reading : List ℕ → Option V) (requested : Bool) (left : List ℕ) (answer : Result (Option Entry) Denial)
    → (let found = followed now_requested (page_records_from reading) requested (answer, left) in valued_entries reading found.0 found.1)
    ≡ page_by reading answer (page_items_from reading (requested_by requested answer) left)
valued_by reading requested left (Ok None) = refl
valued_by reading requested left (Ok (Some e)) = refl
valued_by reading requested left (Err d) = refl

pub page-next : {V : Type 0} (reading : List ℕ → Option V) (requested requested' : Bool) (bytes left : List ℕ) (answer : Result (Option Entry) Denial)
    → read_next (page_entry reading requested) bytes ≡ (answer, left) → requested' ≡ requested_by requested answer
    → page_items_from reading requested bytes ≡ page_by reading answer (page_items_from reading requested' left)
page-next reading requested requested' bytes left answer e r =
    let found = page-records-next reading requested bytes ∙ ap (followed now_requested (page_records_from reading) requested) e in
    ap (λ (es : List Entry × Option Denial). valued_entries reading es.0 es.1) found
    ∙ valued_by reading requested left answer
    ∙ ap (λ b. page_by reading answer (page_items_from reading b left)) (sym r)

-- and for plan logs
pub plan-moves-next : (bytes : List ℕ) → plan_moves bytes ≡ followed unchanged (λ _. plan_moves) tt (read_next plan_move bytes)
plan-moves-next = records-next (λ _. plan_move) unchanged tt

followed-by : (left : List ℕ) (answer : Result (Option Move) Denial) → followed unchanged (λ _. plan_moves) tt (answer, left) ≡ plan_by answer (plan_moves left)
followed-by left (Ok None) = refl
followed-by left (Ok (Some m)) = refl
followed-by left (Err d) = refl

pub plan-next : (bytes left : List ℕ) (answer : Result (Option Move) Denial) → read_next plan_move bytes ≡ (answer, left) → plan_moves bytes ≡ plan_by answer (plan_moves left)
plan-next bytes left answer e = plan-moves-next bytes ∙ ap (followed unchanged (λ _. plan_moves) tt) e ∙ followed-by left answer

-- where a byte is left, a plan has a move or a fault
abbrev GoesOn : {R : Type 0} → Result (Option R) Denial × List ℕ → Type 0
GoesOn (Ok None, left) = ⊥
GoesOn (Ok (Some r), left) = Unit {0}
GoesOn (Err d, left) = Unit {0}

goes-passed : {R : Type 0} (bytes left : List ℕ) (r : Result R Denial) → GoesOn (passed_by bytes left r)
goes-passed bytes left (Ok r) = tt
goes-passed bytes left (Err d) = tt

goes_on : {R : Type 0} (rule : List ℕ → Result R Denial) (b : ℕ) (bytes : List ℕ) → GoesOn (read_next rule (b ∷ bytes))
goes_on rule high [] = tt
goes_on rule high (low ∷ rest) =
    let bytes = high ∷ low ∷ rest in
    let size = two_bytes high low in
    cond_both (ltb (length rest) size) _ _ (λ next. GoesOn (read_in rule bytes next)) (λ _. tt)
    (λ _. goes-passed bytes (drop size rest) (rule (take size rest)))

abbrev Some-left : List Move × Option Denial → Type 0
Some-left ([], None) = ⊥
Some-left ([], Some d) = Unit {0}
Some-left (m ∷ ms, fault) = Unit {0}

some-followed : (answer : Result (Option Move) Denial × List ℕ) → GoesOn answer → Some-left (followed unchanged (λ _. plan_moves) tt answer)
some-followed (Ok None, left) h = h
some-followed (Ok (Some m), left) h = tt
some-followed (Err d, left) h = tt

pub plan-left : (bytes : List ℕ) → plan_moves bytes ≡ ([], None) → length bytes ≡ 0
plan-left [] e = refl
plan-left (b ∷ bytes) e =
    let found = plan-moves-next (b ∷ bytes) in
    absurd (subst Some-left (sym found ∙ e) (some-followed (read_next plan_move (b ∷ bytes)) (goes_on plan_move b bytes)))
