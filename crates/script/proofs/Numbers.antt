-- Telling decimal numbers byte by byte.
use Rattle.std.proofs.Common.{ℕ, ◌<◌, true, false, Bool, length, List, refl, arith, Decides}
use Rattle.std.specs.Bool.{MatchBool}
use Rattle.std.specs.List.{AllWithin, HoldsAt}
use Rattle.std.specs.Int.{IsInRange}
use Rattle.std.specs.Str.Parse.{IsNumeral}
use Rattle.std.proofs.lemmas.Str.Parse.{numerals_by_value, tells_by_index, digit_at}

-- a test of each byte tells numerals
pub numeral_told : (word : List ℕ) (r : Bool) → 0 < length word → MatchBool r (AllWithin (IsInRange 48 57) word 0 (length word)) ((k : ℕ) × (k < length word) × HoldsAt (λ x. ¬ (IsInRange 48 57 x)) word k) → Decides r (IsNumeral 10 word)
numeral_told word true some h = (λ _. (some, (numerals_by_value _ tells_by_index).to word (λ k l. h k 0 (omega arith) l)), λ _. refl)
numeral_told word false some h = (λ e. cc, λ numeral. absurd (h.2 0 (digit_at word h.0 numeral.1 h.1)))
