-- What the calls of a line keep: keys that differ still differ when one is taken out, two are exchanged, or a new one is put last.
use Rattle.std.proofs.Common.{◌≡◌, ℕ, zero, suc, ◌+◌, ◌≤◌, Bool, true, false, List, [], ◌∷◌, ◌++◌, map, Decides, refl, ap, arith}
use Rattle.std.proofs.lemmas.List.{map_push}
use Rattle.lines.specs.Orders.{taken_out, exchanged}
use Rattle.lines.specs.Places.{stands, occurrences, Different}

-- the keys' values after a call are what the call makes of the values
module _ {K V : Type 0} (value : K → V) where
  pub map-taken_out : (p : ℕ) (xs : List K) → map value (taken_out p xs) ≡ taken_out p (map value xs)
  map-taken_out zero xs = refl
  map-taken_out (suc p) [] = refl
  map-taken_out (suc zero) (x ∷ xs) = refl
  map-taken_out (suc (suc p)) (x ∷ xs) = ap (λ ys. value x ∷ ys) (map-taken_out (suc p) xs)

  pub map-exchanged : (p : ℕ) (xs : List K) → map value (exchanged p xs) ≡ exchanged p (map value xs)
  map-exchanged zero xs = refl
  map-exchanged (suc p) [] = refl
  map-exchanged (suc zero) (x ∷ []) = refl
  map-exchanged (suc zero) (x ∷ y ∷ xs) = refl
  map-exchanged (suc (suc p)) (x ∷ xs) = ap (λ ys. value x ∷ ys) (map-exchanged (suc p) xs)

module _ {V : Type 0} (equal : V → V → Bool) where
  pub occurrences-taken_out : (v : V) (p : ℕ) (xs : List V) → occurrences equal v (taken_out p xs) ≤ occurrences equal v xs
  occurrences-taken_out v zero xs = omega arith
  occurrences-taken_out v (suc p) [] = omega arith
  occurrences-taken_out v (suc zero) (x ∷ xs) = omega arith
  occurrences-taken_out v (suc (suc p)) (x ∷ xs) = omega (arith, occurrences-taken_out v (suc p) xs)

  pub occurrences-exchanged : (v : V) (p : ℕ) (xs : List V) → occurrences equal v (exchanged p xs) ≡ occurrences equal v xs
  occurrences-exchanged v zero xs = refl
  occurrences-exchanged v (suc p) [] = refl
  occurrences-exchanged v (suc zero) (x ∷ []) = refl
  occurrences-exchanged v (suc zero) (x ∷ y ∷ xs) = omega arith
  occurrences-exchanged v (suc (suc p)) (x ∷ xs) = omega (arith, occurrences-exchanged v (suc p) xs)

  pub occurrences-append : (v : V) (xs ys : List V) → occurrences equal v (xs ++ ys) ≡ occurrences equal v xs + occurrences equal v ys
  occurrences-append v [] ys = omega arith
  occurrences-append v (x ∷ xs) ys = omega (arith, occurrences-append v xs ys)

  -- a value that does not stand in the list occurs in it never, and one that stands in it at least once
  pub occurrences-missing : (v : V) (xs : List V) → stands equal v xs ≡ false → occurrences equal v xs ≡ 0
  occurrences-missing v [] h = refl
  occurrences-missing v (x ∷ xs) h = grind (arith, occurrences-missing v xs)

  pub occurrences-standing : (v : V) (xs : List V) → stands equal v xs ≡ true → 1 ≤ occurrences equal v xs
  occurrences-standing v [] h = grind arith
  occurrences-standing v (x ∷ xs) h = grind (arith, occurrences-standing v xs)

  -- values that differ, and a new one at the end
  pub different-push : ((v w : V) → Decides (equal v w) (v ≡ w)) → (xs : List V) (v : V) → Different equal xs → stands equal v xs ≡ false → Different equal (xs ++ v ∷ [])
  different-push decides xs v d h w = grind (arith, occurrences-append w xs (v ∷ []), occurrences-missing v xs h, d w, decides w v)

-- the calls on lists of keys
module _ {K V : Type 0} (equal : V → V → Bool) (value : K → V) where
  pub different-taken_out : (p : ℕ) (xs : List K) → Different equal (map value xs) → Different equal (map value (taken_out p xs))
  different-taken_out p xs d v = rw (map-taken_out value p xs) (omega (arith, occurrences-taken_out equal v p (map value xs), d v))

  pub different-exchanged : (p : ℕ) (xs : List K) → Different equal (map value xs) → Different equal (map value (exchanged p xs))
  different-exchanged p xs d v = rw (map-exchanged value p xs) (omega (arith, occurrences-exchanged equal v p (map value xs), d v))

  pub different-appended : ((v w : V) → Decides (equal v w) (v ≡ w)) → (xs : List K) (k : K) → Different equal (map value xs) → stands equal (value k) (map value xs) ≡ false → Different equal (map value (xs ++ k ∷ []))
  different-appended decides xs k d h v = rw (map_push value xs k) (different-push equal decides (map value xs) (value k) d h v)
