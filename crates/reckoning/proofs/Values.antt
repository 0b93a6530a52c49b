-- Values in lists: what stands before one, the list without one, and the list with one put in.
use Rattle.std.proofs.Common.{◌≡◌, ℕ, zero, suc, pred, ◌+◌, ◌≤◌, Bool, true, false, cond, List, [], ◌∷◌, ◌++◌, length, take, drop, Decides, sym, refl, ap, inl, inr, arith}
use Rattle.std.proofs.lemmas.Bool.{cases_Bool, false≢true}
use Rattle.lines.specs.Orders.{taken_out, brought_forward}
use Rattle.lines.specs.Places.{stands, walk, occurrences}
use Rattle.lines.proofs.Kept.{occurrences-missing}

module _ {V : Type 0} (equal : V → V → Bool) where
  -- how many entries stand before v; all of them where v is missing
  abbrev pub before : V → List V → ℕ
  before v [] = 0
  before v (x ∷ xs) = cond (equal v x) 0 (suc (before v xs))

  abbrev pub without : V → List V → List V
  without v [] = []
  without v (x ∷ xs) = cond (equal v x) xs (x ∷ without v xs)

  -- one where w is v
  abbrev pub hit : V → V → ℕ
  hit w v = cond (equal w v) 1 0

module _ {V : Type 0} where
  abbrev pub put_at : V → ℕ → List V → List V
  put_at v zero xs = v ∷ xs
  put_at v (suc n) [] = v ∷ []
  put_at v (suc n) (x ∷ xs) = x ∷ put_at v n xs

  taken_out-last : (v : V) (xs : List V) → taken_out (suc (length xs)) (xs ++ v ∷ []) ≡ xs
  taken_out-last v [] = refl
  taken_out-last v (x ∷ xs) = ap (λ ys. x ∷ ys) (taken_out-last v xs)

  drop-last : (v : V) (xs : List V) → take 1 (drop (length xs) (xs ++ v ∷ [])) ≡ v ∷ []
  drop-last v [] = refl
  drop-last v (x ∷ xs) = drop-last v xs

  forward-end : (v : V) (g : ℕ) (xs : List V) → g ≤ length xs → brought_forward (suc (length xs)) (suc g) (xs ++ v ∷ []) ≡ put_at v g xs
  forward-end v zero [] h = refl
  forward-end v zero (x ∷ xs) h = rw (drop-last v xs, taken_out-last v xs) refl
  forward-end v (suc g) [] h = absurd (omega arith)
  forward-end v (suc g) (x ∷ xs) h = ap (λ ys. x ∷ ys) (forward-end v g xs (omega arith))

  -- an appended entry, brought forward
  pub forward-last : (v : V) (goal : ℕ) (xs : List V) → 1 ≤ goal → goal ≤ suc (length xs) → brought_forward (suc (length xs)) goal (xs ++ v ∷ []) ≡ put_at v (pred goal) xs
  forward-last v zero xs l h = absurd (omega arith)
  forward-last v (suc g) xs l h = forward-end v g xs (omega arith)

module _ {V : Type 0} (equal : V → V → Bool) (decides : (v w : V) → Decides (equal v w) (v ≡ w)) where
  pub walk_before : (v : V) (xs : List V) → walk equal v xs ≡ suc (before equal v xs)
  walk_before v [] = refl
  walk_before v (x ∷ xs) = elim (equal v x) as (λ b. cond b 1 (suc (walk equal v xs)) ≡ suc (cond b 0 (suc (before equal v xs)))) [ true ↦ refl | false ↦ ap suc (walk_before v xs) ]

  -- a value that stands in a list stands within it
  pub walk-within : (v : V) (xs : List V) → stands equal v xs ≡ true → walk equal v xs ≤ length xs
  walk-within v [] s = absurd (false≢true s)
  walk-within v (x ∷ xs) s =
      elim (cases_Bool (equal v x)) [ inl e ↦ rw e (omega arith) | inr e ↦ rw e (omega (arith, walk-within v xs (rw e at s))) ]

  taken_out-before : (v : V) (xs : List V) → taken_out (suc (before equal v xs)) xs ≡ without equal v xs
  taken_out-before v [] = refl
  taken_out-before v (x ∷ xs) = elim (equal v x) as (λ b. taken_out (suc (cond b 0 (suc (before equal v xs)))) (x ∷ xs) ≡ cond b xs (x ∷ without equal v xs)) [ true ↦ refl | false ↦ ap (λ ys. x ∷ ys) (taken_out-before v xs) ]

  drop-before : (v : V) (xs : List V) → stands equal v xs ≡ true → take 1 (drop (before equal v xs) xs) ≡ v ∷ []
  drop-before v [] s = absurd (false≢true s)
  drop-before v (x ∷ xs) s =
      elim (cases_Bool (equal v x)) [
        | inl e ↦ rw e (ap (λ y. y ∷ []) (sym ((decides v x).0 e)))
        | inr e ↦ rw e (drop-before v xs (rw e at s))
      ]

  forward-before : (v : V) (g : ℕ) (xs : List V) → stands equal v xs ≡ true → g ≤ before equal v xs → brought_forward (suc (before equal v xs)) (suc g) xs ≡ put_at v g (without equal v xs)
  forward-before v g [] s h = absurd (false≢true s)
  forward-before v zero (x ∷ xs) s h =
      elim (cases_Bool (equal v x)) [
        | inl e ↦ rw e (ap (λ y. y ∷ xs) (sym ((decides v x).0 e)))
        | inr e ↦ rw e (rw (drop-before v xs (rw e at s), taken_out-before v xs) refl)
      ]
  forward-before v (suc g) (x ∷ xs) s h =
      elim (cases_Bool (equal v x)) [
        | inl e ↦ absurd (omega (arith, rw e at h))
        | inr e ↦ rw e (ap (λ ys. x ∷ ys) (forward-before v g xs (rw e at s) (omega (arith, rw e at h))))
      ]

  pub taken_out-walk : (v : V) (xs : List V) → taken_out (walk equal v xs) xs ≡ without equal v xs
  taken_out-walk v xs = rw (walk_before v xs) (taken_out-before v xs)

  -- an entry brought forward is taken out and put in
  pub forward-walk : (v : V) (goal : ℕ) (xs : List V) → stands equal v xs ≡ true → 1 ≤ goal → goal ≤ walk equal v xs → brought_forward (walk equal v xs) goal xs ≡ put_at v (pred goal) (without equal v xs)
  forward-walk v zero xs s l h = absurd (omega arith)
  forward-walk v (suc g) xs s l h = rw (walk_before v xs) (forward-before v g xs s (omega (arith, walk_before v xs)))

  pub occurrences-without : (w v : V) (xs : List V) → stands equal v xs ≡ true → occurrences equal w (without equal v xs) + hit equal w v ≡ occurrences equal w xs
  occurrences-without w v [] s = absurd (false≢true s)
  occurrences-without w v (x ∷ xs) s =
      elim (cases_Bool (equal v x)) [
        | inl e ↦ rw e (let h : hit equal w v ≡ hit equal w x = ap (hit equal w) ((decides v x).0 e) in omega arith)
        | inr e ↦ rw e (omega (arith, occurrences-without w v xs (rw e at s)))
      ]

  pub occurrences-put_at : (w v : V) (n : ℕ) (xs : List V) → occurrences equal w (put_at v n xs) ≡ hit equal w v + occurrences equal w xs
  occurrences-put_at w v zero xs = refl
  occurrences-put_at w v (suc n) [] = refl
  occurrences-put_at w v (suc n) (x ∷ xs) = omega (arith, occurrences-put_at w v n xs)

  pub occurrences-push : (w v : V) (xs : List V) → occurrences equal w (xs ++ v ∷ []) ≡ hit equal w v + occurrences equal w xs
  occurrences-push w v [] = refl
  occurrences-push w v (x ∷ xs) = omega (arith, occurrences-push w v xs)

  pub hit_same : (v : V) → hit equal v v ≡ 1
  hit_same v = rw ((decides v v).1 refl) refl

  pub stands-since : (v : V) (xs : List V) → 1 ≤ occurrences equal v xs → stands equal v xs ≡ true
  stands-since v xs h = elim (cases_Bool (stands equal v xs)) [ inl e ↦ e | inr e ↦ absurd (omega (arith, occurrences-missing equal v xs e)) ]
