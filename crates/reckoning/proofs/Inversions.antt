-- Inversions between two orders of the same values: how they change as a value is taken out, put in or appended, and by an exchange.
use Rattle.std.proofs.Common.{◌≡◌, ℕ, zero, suc, ◌+◌, ◌≤◌, Bool, true, false, ◌⊎◌, List, [], ◌∷◌, ◌++◌, Decides, sym, refl, ap, ◌∙◌, inl, inr, arith}
use Rattle.std.proofs.lemmas.Bool.{cases_Bool, false≢true, true≢false}
use Rattle.lines.specs.Orders.{exchanged}
use Rattle.lines.specs.Places.{stands, occurrences}
use Rattle.lines.proofs.Kept.{occurrences-standing}
use Rattle.reckoning.proofs.Values.{before, without, put_at, occurrences-without, hit_same, stands-since}

module _ {V : Type 0} (equal : V → V → Bool) where
  -- the pairs that stand in opposite order in two lists of the same values
  abbrev pub inversions : List V → List V → ℕ
  inversions [] ys = 0
  inversions (x ∷ xs) ys = before equal x ys + inversions xs (without equal x ys)

  abbrev pub SameValues : List V → List V → Type 0
  SameValues xs ys = (v : V) → occurrences equal v xs ≡ occurrences equal v ys

module _ {V : Type 0} (equal : V → V → Bool) (decides : (v w : V) → Decides (equal v w) (v ≡ w)) where
  differ : (v w x : V) → equal v x ≡ true → equal w x ≡ true → equal v w ≡ true
  differ v w x e f = (decides v w).1 ((decides v x).0 e ∙ sym ((decides w x).0 f))

  without-comm : (v w : V) (xs : List V) → without equal v (without equal w xs) ≡ without equal w (without equal v xs)
  without-comm v w [] = refl
  without-comm v w (x ∷ xs) =
      elim (cases_Bool (equal v x)) [
        | inl e ↦ elim (cases_Bool (equal w x)) [
          | inl f ↦ rw (e, f) (ap (λ u. without equal u xs) ((decides v w).0 (differ v w x e f)))
          | inr f ↦ rw (e, f) (rw e refl)
        ]
        | inr e ↦ elim (cases_Bool (equal w x)) [
          | inl f ↦ rw (e, f) refl
          | inr f ↦ rw (e, f) (rw e (ap (λ ys. x ∷ ys) (without-comm v w xs)))
        ]
      ]

  -- of two values one stands before the other
  before-both : (v w : V) (xs : List V) → equal v w ≡ false → stands equal v xs ≡ true → stands equal w xs ≡ true
      → before equal v xs + before equal w xs ≡ suc (before equal v (without equal w xs) + before equal w (without equal v xs))
  before-both v w [] n s t = absurd (false≢true s)
  before-both v w (x ∷ xs) n s t =
      elim (cases_Bool (equal v x)) [
        | inl e ↦ elim (cases_Bool (equal w x)) [
          | inl f ↦ absurd (true≢false (sym (differ v w x e f) ∙ n))
          | inr f ↦ rw (e, f) (rw e (omega arith))
        ]
        | inr e ↦ elim (cases_Bool (equal w x)) [
          | inl f ↦ rw (e, f) (omega arith)
          | inr f ↦ rw (e, f) (rw e (omega (arith, before-both v w xs n (rw e at s) (rw f at t))))
        ]
      ]

  -- the first value of one list stands in the other, and the rest are the values without it
  first-stands : (x : V) (xs ys : List V) → SameValues equal (x ∷ xs) ys → stands equal x ys ≡ true
  first-stands x xs ys same = stands-since equal decides x ys (omega (arith, same x, hit_same equal decides x))

  same-tail : (x : V) (xs ys : List V) → SameValues equal (x ∷ xs) ys → SameValues equal xs (without equal x ys)
  same-tail x xs ys same w = omega (arith, same w, occurrences-without equal decides w x ys (first-stands x xs ys same))

  -- taking v out of both lowers the inversions by what stood before it in the first, less what stood before it in the second
  pub inversions-without : (v : V) (xs ys : List V) → SameValues equal xs ys → stands equal v xs ≡ true
      → inversions equal (without equal v xs) (without equal v ys) + before equal v xs ≤ inversions equal xs ys + before equal v ys
  inversions-without v [] ys same s = absurd (false≢true s)
  inversions-without v (x ∷ xs) ys same s =
      elim (cases_Bool (equal v x)) [
        | inl e ↦ rw e (omega (arith, ap (λ u. inversions equal xs (without equal u ys)) ((decides v x).0 e)))
        | inr e ↦
            let both = before-both v x ys e (stands-since equal decides v ys (omega (arith, same v, occurrences-standing equal v (x ∷ xs) s))) (first-stands x xs ys same) in
            let rest = inversions-without v xs (without equal x ys) (same-tail x xs ys same) (rw e at s) in
            rw e (omega (arith, both, rest, ap (inversions equal (without equal v xs)) (without-comm x v ys)))
      ]

  -- v put in where it is missing
  before-put_at : (v : V) (n : ℕ) (ys : List V) → before equal v (put_at v n ys) ≤ n
  before-put_at v zero ys = rw ((decides v v).1 refl) (omega arith)
  before-put_at v (suc n) [] = rw ((decides v v).1 refl) (omega arith)
  before-put_at v (suc n) (y ∷ ys) =
      elim (cases_Bool (equal v y)) [ inl e ↦ rw e (omega arith) | inr e ↦ rw e (omega (arith, before-put_at v n ys)) ]

  without-put_at : (v : V) (n : ℕ) (ys : List V) → occurrences equal v ys ≡ 0 → without equal v (put_at v n ys) ≡ ys
  without-put_at v zero ys h = rw ((decides v v).1 refl) refl
  without-put_at v (suc n) [] h = rw ((decides v v).1 refl) refl
  without-put_at v (suc n) (y ∷ ys) h =
      elim (cases_Bool (equal v y)) [
        | inl e ↦ absurd (omega (arith, rw e at h))
        | inr e ↦ rw e (ap (λ zs. y ∷ zs) (without-put_at v n ys (omega (arith, rw e at h))))
      ]

  -- v put first in one list and behind n entries of the other
  pub inversions-put : (v : V) (n : ℕ) (xs ys : List V) → occurrences equal v ys ≡ 0
      → inversions equal (v ∷ xs) (put_at v n ys) ≤ inversions equal xs ys + n
  inversions-put v n xs ys h = rw (without-put_at v n ys h) (omega (arith, before-put_at v n ys))

  -- v appended to both
  before-push : (x v : V) (ys : List V) → stands equal x ys ≡ true → before equal x (ys ++ v ∷ []) ≡ before equal x ys
  before-push x v [] s = absurd (false≢true s)
  before-push x v (y ∷ ys) s =
      elim (cases_Bool (equal x y)) [ inl e ↦ rw e refl | inr e ↦ rw e (ap suc (before-push x v ys (rw e at s))) ]

  without-push : (x v : V) (ys : List V) → stands equal x ys ≡ true → without equal x (ys ++ v ∷ []) ≡ without equal x ys ++ v ∷ []
  without-push x v [] s = absurd (false≢true s)
  without-push x v (y ∷ ys) s =
      elim (cases_Bool (equal x y)) [ inl e ↦ rw e refl | inr e ↦ rw e (ap (λ zs. y ∷ zs) (without-push x v ys (rw e at s))) ]

  pub inversions-push : (v : V) (xs ys : List V) → SameValues equal xs ys
      → inversions equal (xs ++ v ∷ []) (ys ++ v ∷ []) ≡ inversions equal xs ys
  inversions-push v [] [] same = rw ((decides v v).1 refl) refl
  inversions-push v [] (y ∷ ys) same = absurd (omega (arith, same y, hit_same equal decides y))
  inversions-push v (x ∷ xs) ys same =
      let s = first-stands x xs ys same in
      rw (before-push x v ys s, without-push x v ys s) (ap (λ n. before equal x ys + n) (inversions-push v xs (without equal x ys) (same-tail x xs ys same)))

  under : (y : V) (q : ℕ) (zs ys : List V) → zs ≡ exchanged q ys → (r : ℕ) × (y ∷ zs ≡ exchanged r (y ∷ ys))
  under y zero zs ys e = (0, ap (λ us. y ∷ us) e)
  under y (suc q) zs ys e = (suc (suc q), ap (λ us. y ∷ us) e)

  -- an exchange moves x by one place, or two others
  exchange-cases : (x : V) (p : ℕ) (ys : List V)
      → ((before equal x (exchanged p ys) ≤ suc (before equal x ys)) × (without equal x (exchanged p ys) ≡ without equal x ys))
      ⊎ ((before equal x (exchanged p ys) ≡ before equal x ys) × ((q : ℕ) × (without equal x (exchanged p ys) ≡ exchanged q (without equal x ys))))
  exchange-cases x zero ys = inr (refl, (0, refl))
  exchange-cases x (suc p) [] = inr (refl, (0, refl))
  exchange-cases x (suc zero) (y ∷ []) = inr (refl, (0, refl))
  exchange-cases x (suc zero) (y ∷ z ∷ ys) =
      elim (cases_Bool (equal x y)) [
        | inl e ↦ elim (cases_Bool (equal x z)) [
          | inl f ↦ rw (e, f) (inl (omega arith, ap (λ u. u ∷ ys) (sym ((decides x y).0 e) ∙ (decides x z).0 f)))
          | inr f ↦ rw (e, f) (inl (omega arith, refl))
        ]
        | inr e ↦ elim (cases_Bool (equal x z)) [
          | inl f ↦ rw (e, f) (inl (omega arith, refl))
          | inr f ↦ rw (e, f) (inr (refl, (1, refl)))
        ]
      ]
  exchange-cases x (suc (suc p)) (y ∷ ys) =
      elim (cases_Bool (equal x y)) [
        | inl e ↦ rw e (inr (refl, (suc p, refl)))
        | inr e ↦ rw e (elim (exchange-cases x (suc p) ys) [
          | inl h ↦ inl (omega (arith, h.0), ap (λ zs. y ∷ zs) h.1)
          | inr h ↦ inr (ap suc h.0, under y h.1.0 (without equal x (exchanged (suc p) ys)) (without equal x ys) h.1.1)
        ])
      ]

  -- an exchange in the second list
  pub inversions-exchanged : (p : ℕ) (xs ys : List V) → inversions equal xs (exchanged p ys) ≤ suc (inversions equal xs ys)
  inversions-exchanged p [] ys = omega arith
  inversions-exchanged p (x ∷ xs) ys =
      elim (exchange-cases x p ys) [
        | inl h ↦ omega (arith, h.0, ap (inversions equal xs) h.1)
        | inr h ↦ omega (arith, h.0, ap (inversions equal xs) h.1.1, inversions-exchanged h.1.0 xs (without equal x ys))
      ]
