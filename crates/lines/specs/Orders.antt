-- What the calls of a line do to a list. Places count from 1, and outside a call's range the list stays as it is.
use Rattle.std.specs.Prelude.{ℕ, zero, suc, Bool, true, false, ◌&&◌, List, [], ◌∷◌, ◌++◌, take, drop, Ok, Err, Result, nat_le, nat_lt}
use Rattle.keys.specs.declared.denial.Denial.{Denial}
use Rattle.keys.specs.declared.denial.Denial.TheVariants.{OutOfRange}

-- done, or denied since a place is outside the call's range
abbrev pub allowed : Bool → Result (Unit {0}) Denial
allowed true = Ok tt
allowed false = Err OutOfRange

-- the key at a place
abbrev pub key_at : {X : Type 0} → ℕ → List X → Result X Denial
key_at zero xs = Err OutOfRange
key_at (suc n) [] = Err OutOfRange
key_at (suc zero) (x ∷ xs) = Ok x
key_at (suc (suc n)) (x ∷ xs) = key_at (suc n) xs

-- whether a place is one of n: from 1 to n
abbrev pub is_place : ℕ → ℕ → Bool
is_place place n = nat_le 1 place && nat_le place n

-- the list closed up behind a place
abbrev pub taken_out : {X : Type 0} → ℕ → List X → List X
taken_out zero xs = xs
taken_out (suc n) [] = []
taken_out (suc zero) (x ∷ xs) = xs
taken_out (suc (suc n)) (x ∷ xs) = x ∷ taken_out (suc n) xs

-- two neighbours of a list of n can be exchanged at place 1 to n - 1, the place of the first
abbrev pub may_exchange : ℕ → ℕ → Bool
may_exchange place n = nat_le 1 place && nat_lt place n

-- the keys at a place and at the next one have changed places
abbrev pub exchanged : {X : Type 0} → ℕ → List X → List X
exchanged zero xs = xs
exchanged (suc n) [] = []
exchanged (suc zero) (x ∷ []) = x ∷ []
exchanged (suc zero) (x ∷ y ∷ xs) = y ∷ x ∷ xs
exchanged (suc (suc n)) (x ∷ xs) = x ∷ exchanged (suc n) xs

-- a key of a list of n can be brought forward from any of its places to an earlier one, or stay
abbrev pub may_bring_forward : ℕ → ℕ → ℕ → Bool
may_bring_forward from to n = nat_le 1 to && nat_le to from && nat_le from n

-- the key at place `from` stands at place `to`, and all others have kept their order
abbrev pub brought_forward : {X : Type 0} → ℕ → ℕ → List X → List X
brought_forward zero to xs = xs
brought_forward (suc p) zero xs = xs
brought_forward (suc p) (suc zero) xs = take 1 (drop p xs) ++ taken_out (suc p) xs
brought_forward (suc p) (suc (suc q)) [] = []
brought_forward (suc p) (suc (suc q)) (x ∷ xs) = x ∷ brought_forward p (suc q) xs
