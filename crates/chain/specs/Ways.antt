-- Ways through numbered entries, of which each tells the number of the next. `way` and `picked` say what a chain means;
-- `beyond`, `redirected` and `moved_back` only serve contracts inside the crate.
use Rattle.std.specs.Prelude.{ℕ, zero, suc, List, [], ◌∷◌, ◌++◌, take, drop, slice_index, slice_set}

-- the numbers met in a walk of n entries from `at`; where there is no such entry, the walk ends early
abbrev pub way : List ℕ → ℕ → ℕ → List ℕ
way nexts at zero = []
way nexts at (suc n) = elim (drop at nexts) [ [] ↦ [] | next ∷ rest ↦ at ∷ way nexts next n ]

-- the number that follows a walk of n entries from `at`
abbrev pub beyond : List ℕ → ℕ → ℕ → ℕ
beyond nexts at zero = at
beyond nexts at (suc n) = beyond nexts (slice_index nexts at) n

-- what stands in the entries of these numbers
abbrev pub picked : {X : Type 0} → List X → List ℕ → List X
picked xs [] = []
picked xs (w ∷ ws) = take 1 (drop w xs) ++ picked xs ws

-- the nexts and the head, once the way from `head` goes on to `to` after n entries
abbrev pub redirected : List ℕ → ℕ → ℕ → ℕ → List ℕ × ℕ
redirected nexts head zero to = (nexts, to)
redirected nexts head (suc n) to = (slice_set nexts (beyond nexts head n) to, head)

-- the entry at a place has passed the n entries behind it
abbrev pub moved_back : {X : Type 0} → ℕ → ℕ → List X → List X
moved_back zero n xs = xs
moved_back (suc p) n [] = []
moved_back (suc zero) n (x ∷ xs) = take n xs ++ x ∷ drop n xs
moved_back (suc (suc p)) n (x ∷ xs) = x ∷ moved_back (suc p) n xs
