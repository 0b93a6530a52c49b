-- All records of a log, where the rule for a record may depend on those before it.
use Rattle.std.specs.Prelude.{ℕ, zero, suc, List, [], ◌∷◌, length, Some, None, Ok, Err, Option, Result}
use Rattle.keys.specs.declared.denial.Denial.{Denial}
use Rattle.logs.specs.Framing.{read_next}

-- a record, and those behind it
abbrev pub with : {R : Type 0} → R → List R × Option Denial → List R × Option Denial
with r behind = (r ∷ behind.0, behind.1)

-- the records of an answer and, where it gives one, of what is read on in the bytes left, from the state after it
abbrev pub followed : {S R : Type 0} → (S → R → S) → (S → List ℕ → List R × Option Denial) → S → Result (Option R) Denial × List ℕ → List R × Option Denial
followed after onward state (Ok None, left) = ([], None)
followed after onward state (Ok (Some r), left) = with r (onward (after state r) left)
followed after onward state (Err d, left) = ([], Some d)

module _ {S R : Type 0} (rule : S → List ℕ → Result R Denial) (after : S → R → S) where
  -- the records, at most so many, up to the end or the first fault
  abbrev pub at_most : ℕ → S → List ℕ → List R × Option Denial
  at_most zero state bytes = ([], None)
  at_most (suc n) state bytes = followed after (at_most n) state (read_next (rule state) bytes)

  -- all records from a state on, of which there are no more than bytes
  abbrev pub records_from : S → List ℕ → List R × Option Denial
  records_from state bytes = at_most (length bytes) state bytes
