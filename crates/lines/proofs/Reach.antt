-- What the calls of a line do within their range, and that they do nothing outside it.
use Rattle.std.proofs.Common.{◌≡◌, ℕ, zero, suc, ◌<◌, ◌≤◌, List, [], ◌∷◌, length, get_or, Ok, Err, refl, ap, inl, inr, arith}
use Rattle.std.proofs.lemmas.Bool.{cases_lt}
use Rattle.keys.specs.declared.denial.Denial.TheVariants.{OutOfRange}
use Rattle.lines.specs.Orders.{key_at, taken_out, exchanged}
use Rattle.lines.proofs.Forward.{taken_out-past}

module _ {X : Type 0} where
  pub key_at-outside : (p : ℕ) (xs : List X) → (1 ≤ p → p ≤ length xs → ⊥) → key_at p xs ≡ Err OutOfRange
  key_at-outside zero xs h = refl
  key_at-outside (suc p) [] h = refl
  key_at-outside (suc zero) (x ∷ xs) h = absurd (h (omega arith) (omega arith))
  key_at-outside (suc (suc p)) (x ∷ xs) h = key_at-outside (suc p) xs (λ a b. h (omega arith) (omega arith))

  pub key_at-within : (p : ℕ) (xs : List X) (d : X) → p < length xs → key_at (suc p) xs ≡ Ok (get_or xs p d)
  key_at-within p [] d h = absurd (omega arith)
  key_at-within zero (x ∷ xs) d h = refl
  key_at-within (suc p) (x ∷ xs) d h = key_at-within p xs d (omega arith)

  pub taken_out-outside : (p : ℕ) (xs : List X) → (1 ≤ p → p ≤ length xs → ⊥) → taken_out p xs ≡ xs
  taken_out-outside zero xs h = refl
  taken_out-outside (suc p) xs h = elim (cases_lt (length xs) (suc p)) [ inl l ↦ taken_out-past (suc p) xs l | inr l ↦ absurd (h (omega arith) l) ]

  pub length-taken_out : (p : ℕ) (xs : List X) → 1 ≤ p → p ≤ length xs → suc (length (taken_out p xs)) ≡ length xs
  length-taken_out zero xs l h = absurd (omega arith)
  length-taken_out (suc p) [] l h = absurd (omega arith)
  length-taken_out (suc zero) (x ∷ xs) l h = refl
  length-taken_out (suc (suc p)) (x ∷ xs) l h = ap suc (length-taken_out (suc p) xs (omega arith) (omega arith))

  pub exchanged-outside : (p : ℕ) (xs : List X) → (1 ≤ p → p < length xs → ⊥) → exchanged p xs ≡ xs
  exchanged-outside zero xs h = refl
  exchanged-outside (suc p) [] h = refl
  exchanged-outside (suc zero) (x ∷ []) h = refl
  exchanged-outside (suc zero) (x ∷ y ∷ xs) h = absurd (h (omega arith) (omega arith))
  exchanged-outside (suc (suc p)) (x ∷ xs) h = ap (λ ys. x ∷ ys) (exchanged-outside (suc p) xs (λ a b. h (omega arith) (omega arith)))
