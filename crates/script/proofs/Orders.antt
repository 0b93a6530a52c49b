-- Taking the keys of a line one by one.
use Rattle.std.proofs.Common.{◌≡◌, ℕ, zero, suc, ◌-◌, ◌≤◌, true, List, [], ◌∷◌, ◌++◌, length, take, is_ok, Ok, sym, refl, ap, ◌∙◌, arith}
use Rattle.lines.specs.Orders.{key_at}

module _ {X : Type 0} where
  -- there is a key at each place
  pub key_at-ok : (place : ℕ) (xs : List X) → 1 ≤ place → place ≤ length xs → is_ok (key_at place xs) ≡ true
  key_at-ok zero xs from to = absurd (omega arith)
  key_at-ok (suc n) [] from to = absurd (omega arith)
  key_at-ok (suc zero) (x ∷ xs) from to = refl
  key_at-ok (suc (suc n)) (x ∷ xs) from to = key_at-ok (suc n) xs (omega arith) (omega arith)

  key-next : (n : ℕ) (xs : List X) (x : X) → key_at (suc n) xs ≡ Ok x → take (suc n) xs ≡ take n xs ++ x ∷ []
  key-next n [] x e = let z : ◌≡◌ {A = ℕ} 0 1 = cc in absurd (omega arith)
  key-next zero (y ∷ xs) x e = cc
  key-next (suc n) (y ∷ xs) x e = ap (λ ys. y ∷ ys) (key-next n xs x e)

  -- the key at a place goes behind the keys before it
  pub key_behind : (place : ℕ) (xs front : List X) (x : X) → 1 ≤ place → front ≡ take (place - 1) xs → key_at place xs ≡ Ok x → front ++ x ∷ [] ≡ take place xs
  key_behind zero xs front x from before e = absurd (omega arith)
  key_behind (suc n) xs front x from before e = ap (λ ys. ys ++ x ∷ []) (before ∙ ap (λ m. take m xs) (omega arith)) ∙ sym (key-next n xs x e)
