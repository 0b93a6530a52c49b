-- A search along a way.
use Rattle.std.proofs.Common.{◌≡◌, ℕ, suc, ◌+◌, ◌<◌, Bool, true, false, cond, List, [], ◌∷◌, ◌++◌, map, length, get_or, take, drop, is_some, Some, None, sym, refl, ap, ◌∙◌, subst, arith, drop-cons}
use Rattle.std.proofs.lemmas.List.{get_or-map}
use Rattle.lines.specs.Places.{stands, walk, place_of}
use Rattle.chain.specs.declared.Cell.{Cell}
use Rattle.chain.specs.Ways.{beyond, picked}
use Rattle.chain.specs.Chains.{keys_in, nexts_in, chained}
use Rattle.chain.proofs.Segments.{Runs, way_step}
use Rattle.chain.proofs.Cells.{length-keys, length-nexts, read_next, walk-there, walk-on}

-- n entries were passed, none of them v
abbrev pub Passed : {V : Type 0} → (V → V → Bool) → V → List V → List V → ℕ → Type 0
Passed equal v all rest n = (stands equal v all ≡ stands equal v rest) × (walk equal v all ≡ n + walk equal v rest)

module _ {V : Type 0} (equal : V → V → Bool) (v : V) (all : List V) where
  pub passed-more : (x : V) (xs : List V) (n : ℕ) → equal v x ≡ false → Passed equal v all (x ∷ xs) n → Passed equal v all xs (n + 1)
  passed-more x xs n e h = (grind arith, grind arith)

  pub passed-found : (x : V) (xs : List V) (n : ℕ) → equal v x ≡ true → Passed equal v all (x ∷ xs) n → Some (n + 1) ≡ place_of equal v all
  passed-found x xs n e h = grind arith

  pub passed-all : (n : ℕ) → Passed equal v all [] n → None ≡ place_of equal v all
  passed-all n h = grind arith

-- the first cell of a way
module _ {K : Type 0} (cells : List (Cell K)) (here : ℕ) (cell : Cell K) (read : cell ≡ get_or cells here cell) (there : here < length cells) where
  pub read-key : take 1 (drop here (keys_in cells)) ≡ cell.key ∷ []
  read-key =
      let l : here < length (keys_in cells) = omega (arith, length-keys cells) in
      let e : get_or (keys_in cells) here cell.key ≡ cell.key = get_or-map (λ c. c.key) cells here cell cell.key there ∙ sym (ap (λ c. c.key) read) in
      rw (drop-cons (keys_in cells) here cell.key l, e)

  pub chained-step : (n : ℕ) → chained cells here (suc n) ≡ cell.key ∷ chained cells cell.next n
  chained-step n =
      let l : here < length (nexts_in cells) = omega (arith, length-nexts cells) in
      ap (picked (keys_in cells)) (way_step (nexts_in cells) here n l) ∙ ap (λ ks. ks ++ chained cells (get_or (nexts_in cells) here 0) n) read-key ∙ ap (λ i. cell.key ∷ chained cells i n) (sym (read_next cells here cell read there))

-- a search has come to a cell
module _ {K V : Type 0} (equal : V → V → Bool) (value : K → V) (v : V) (all : List V) (cells : List (Cell K)) (here r n k : ℕ) (cell : Cell K) (some : r ≡ suc n) (read : cell ≡ get_or cells here cell) (left : Runs (nexts_in cells) here r × Passed equal v all (map value (chained cells here r)) k) where
  begins : Passed equal v all (value cell.key ∷ map value (chained cells cell.next n)) k
  begins =
      let P : List K → Type 0 = λ ks. Passed equal v all (map value ks) k in
      let there : here < length cells = walk-there cells here r n some left.0 in
      subst P (ap (chained cells here) some ∙ chained-step cells here cell read there n) left.1

  pub found_here : equal v (value cell.key) ≡ true → Some (k + 1) ≡ place_of equal v all
  found_here e = passed-found equal v all (value cell.key) (map value (chained cells cell.next n)) k e begins

  pub passed_here : equal v (value cell.key) ≡ false → Runs (nexts_in cells) cell.next n × Passed equal v all (map value (chained cells cell.next n)) (k + 1)
  passed_here e = ((walk-on cells here r n (beyond (nexts_in cells) here r) cell.next some (read_next cells here cell read (walk-there cells here r n some left.0)) (left.0, refl)).0, passed-more equal v all (value cell.key) (map value (chained cells cell.next n)) k e begins)

-- a key that has no place
pub missing : {V : Type 0} (equal : V → V → Bool) (v : V) (xs : List V) → place_of equal v xs ≡ None → stands equal v xs ≡ false
missing equal v xs e = at (stands equal v xs) refl
  where
    at : (b : Bool) → stands equal v xs ≡ b → b ≡ false
    at true t = let some : Some (walk equal v xs) ≡ None = sym (ap (λ b. cond b (Some (walk equal v xs)) None) t) ∙ e in ap is_some some
    at false t = refl
