-- Bringing an entry forward: where it changes nothing, its length, and one exchange more.
use Rattle.std.proofs.Common.{◌≡◌, ℕ, zero, suc, ◌<◌, ◌≤◌, true, false, List, [], ◌∷◌, ◌++◌, map, length, take, drop, refl, ap, inl, inr, arith}
use Rattle.std.proofs.lemmas.List.{drop_all, map-append, take-map, drop-map}
use Rattle.std.proofs.lemmas.Bool.{cases_lt}
use Rattle.std.proofs.lemmas.Bool.Decides.{nat_tests}
use Rattle.lines.specs.Orders.{taken_out, exchanged, may_bring_forward, brought_forward}
use Rattle.lines.proofs.Kept.{map-taken_out}

-- the range of the call, as a test and as orders
pub forward-range : (from to n : ℕ) → may_bring_forward from to n ≡ true → (1 ≤ to) × (to ≤ from) × (from ≤ n)
forward-range from to n e = (grind (arith, nat_tests), grind (arith, nat_tests), grind (arith, nat_tests))

forward-range-not : (from to n : ℕ) → may_bring_forward from to n ≡ false → 1 ≤ to → to ≤ from → from ≤ n → ⊥
forward-range-not from to n e a b c = grind (arith, nat_tests)

module _ {X : Type 0} where
  pub length_exchanged : (p : ℕ) (xs : List X) → length (exchanged p xs) ≡ length xs
  length_exchanged zero xs = refl
  length_exchanged (suc p) [] = refl
  length_exchanged (suc zero) (x ∷ []) = refl
  length_exchanged (suc zero) (x ∷ y ∷ xs) = refl
  length_exchanged (suc (suc p)) (x ∷ xs) = ap suc (length_exchanged (suc p) xs)

  pub taken_out-past : (p : ℕ) (xs : List X) → length xs < p → taken_out p xs ≡ xs
  taken_out-past zero xs h = refl
  taken_out-past (suc p) [] h = refl
  taken_out-past (suc zero) (x ∷ xs) h = absurd (omega arith)
  taken_out-past (suc (suc p)) (x ∷ xs) h = ap (λ ys. x ∷ ys) (taken_out-past (suc p) xs (omega arith))

  forward-outside : (p q : ℕ) (xs : List X) → (1 ≤ q → q ≤ p → p ≤ length xs → ⊥) → brought_forward p q xs ≡ xs
  forward-outside zero q xs h = refl
  forward-outside (suc p) zero xs h = refl
  forward-outside (suc p) (suc zero) xs h =
      elim (cases_lt (length xs) (suc p)) [
        | inl l ↦ rw (drop_all p xs (omega arith)) (taken_out-past (suc p) xs l)
        | inr l ↦ absurd (h (omega arith) (omega arith) l)
      ]
  forward-outside (suc p) (suc (suc q)) [] h = refl
  forward-outside (suc p) (suc (suc q)) (x ∷ xs) h = ap (λ ys. x ∷ ys) (forward-outside p (suc q) xs (λ a b d. h (omega arith) (omega arith) (omega arith)))

  pub forward-denied : (p q : ℕ) (xs : List X) → may_bring_forward p q (length xs) ≡ false → brought_forward p q xs ≡ xs
  forward-denied p q xs e = forward-outside p q xs (forward-range-not p q (length xs) e)

  -- an entry that is brought to where it stands
  pub forward-stays : (p : ℕ) (xs : List X) → p ≤ length xs → brought_forward p p xs ≡ xs
  forward-stays zero xs h = refl
  forward-stays (suc zero) [] h = refl
  forward-stays (suc zero) (x ∷ xs) h = refl
  forward-stays (suc (suc p)) [] h = refl
  forward-stays (suc (suc p)) (x ∷ xs) h = ap (λ ys. x ∷ ys) (forward-stays (suc p) xs (omega arith))

  -- the entry at a place changes places with one that stands before it
  front-step : (p : ℕ) (x : X) (xs rest : List X) → p < length xs → exchanged 1 (x ∷ (take 1 (drop p xs) ++ rest)) ≡ take 1 (drop p xs) ++ (x ∷ rest)
  front-step p x [] rest h = absurd (omega arith)
  front-step zero x (y ∷ xs) rest h = refl
  front-step (suc p) x (y ∷ xs) rest h = front-step p x xs rest (omega arith)

  pub forward-step : (p q : ℕ) (xs : List X) → 1 ≤ q → q < p → p ≤ length xs → exchanged q (brought_forward p (suc q) xs) ≡ brought_forward p q xs
  forward-step p zero xs l h n = absurd (omega arith)
  forward-step zero (suc q) xs l h n = absurd (omega arith)
  forward-step (suc p) (suc q) [] l h n = absurd (omega arith)
  forward-step (suc zero) (suc q) (x ∷ xs) l h n = absurd (omega arith)
  forward-step (suc (suc p)) (suc zero) (x ∷ xs) l h n = front-step p x xs (taken_out (suc p) xs) (omega arith)
  forward-step (suc (suc p)) (suc (suc q)) (x ∷ xs) l h n = ap (λ ys. x ∷ ys) (forward-step (suc p) (suc q) xs (omega arith) (omega arith) (omega arith))

-- the keys' values after a key was brought forward
module _ {K V : Type 0} (value : K → V) where
  pub map-forward : (p q : ℕ) (xs : List K) → map value (brought_forward p q xs) ≡ brought_forward p q (map value xs)
  map-forward zero q xs = refl
  map-forward (suc p) zero xs = refl
  map-forward (suc p) (suc zero) xs = rw (map-append, map-taken_out value (suc p) xs, drop-map value p xs, take-map value 1 (drop p xs)) refl
  map-forward (suc p) (suc (suc q)) [] = refl
  map-forward (suc p) (suc (suc q)) (x ∷ xs) = ap (λ ys. value x ∷ ys) (map-forward p (suc q) xs)
