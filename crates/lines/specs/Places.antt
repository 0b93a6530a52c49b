-- Where a value stands in a list of values, by a test that tells values apart.
use Rattle.std.specs.Prelude.{ℕ, suc, ◌+◌, ◌≤◌, min, Bool, false, cond, ◌||◌, List, [], ◌∷◌, ◌++◌, map, length, Some, None, Ok, Err, Option, Result, ◌==◌}
use Rattle.keys.specs.declared.denial.Denial.{Denial}
use Rattle.keys.specs.declared.denial.Denial.TheVariants.{Present, Full}

-- whether v stands in the list
abbrev pub stands : {V : Type 0} → (V → V → Bool) → V → List V → Bool
stands equal v [] = false
stands equal v (x ∷ xs) = equal v x || stands equal v xs

-- how many entries are read in a walk from the front that ends at v; the list's end, read where v is missing, counts as one
abbrev pub walk : {V : Type 0} → (V → V → Bool) → V → List V → ℕ
walk equal v [] = 1
walk equal v (x ∷ xs) = cond (equal v x) 1 (suc (walk equal v xs))

-- the place of v, or none
abbrev pub place_of : {V : Type 0} → (V → V → Bool) → V → List V → Option ℕ
place_of equal v xs = cond (stands equal v xs) (Some (walk equal v xs)) None

-- how often v stands in the list
abbrev pub occurrences : {V : Type 0} → (V → V → Bool) → V → List V → ℕ
occurrences equal v [] = 0
occurrences equal v (x ∷ xs) = cond (equal v x) 1 0 + occurrences equal v xs

-- no value stands in the list twice
abbrev pub Different : {V : Type 0} → (V → V → Bool) → List V → Type 0
Different {V} equal xs = (v : V) → occurrences equal v xs ≤ 1

-- appending a key to a list of keys: denied if its value stands there, then if the list is full; else the key is last
abbrev pub appended : {K V : Type 0} → (V → V → Bool) → (K → V) → ℕ → K → List K → Result (Unit {0}) Denial × List K
appended equal value limit k xs =
    cond (stands equal (value k) (map value xs)) (Err Present, xs)
    (cond (length xs == limit) (Err Full, xs) (Ok tt, xs ++ k ∷ []))

-- the most keys that a line over a number of cells takes: as many as there are cells, but no more than 256
abbrev pub limit_for : ℕ → ℕ
limit_for cells = min 256 cells
