-- What stands in the entries of a list of numbers.
use Rattle.std.proofs.Common.{◌≡◌, ℕ, zero, suc, ◌<◌, eqb, ◌≢◌, List, [], ◌∷◌, ◌++◌, length, take, drop, set, sym, refl, ap, ◌∙◌, arith}
use Rattle.std.specs.List.{AllByRecursion}
use Rattle.std.proofs.lemmas.List.{append_assoc}
use Rattle.lines.specs.Places.{occurrences}
use Rattle.chain.specs.Ways.{picked, moved_back}
use Rattle.chain.proofs.Segments.{absent-first}

module _ {X : Type 0} where
  pub picked-append : (xs : List X) (us vs : List ℕ) → picked xs (us ++ vs) ≡ picked xs us ++ picked xs vs
  picked-append xs [] vs = refl
  picked-append xs (u ∷ us) vs = ap (λ ys. take 1 (drop u xs) ++ ys) (picked-append xs us vs) ∙ sym (append_assoc (take 1 (drop u xs)) (picked xs us) (picked xs vs))

  -- an entry that is there
  pub one : (xs : List X) (w : ℕ) → w < length xs → (x : X) × (take 1 (drop w xs) ≡ x ∷ [])
  one [] w h = absurd (omega arith)
  one (x ∷ xs) zero h = (x, refl)
  one (x ∷ xs) (suc w) h = one xs w (omega arith)

  pub length-picked : (xs : List X) (ws : List ℕ) → AllByRecursion (λ w. w < length xs) ws → length (picked xs ws) ≡ length ws
  length-picked xs [] h = refl
  length-picked xs (w ∷ ws) h = rw (one xs w h.0).1 (ap suc (length-picked xs ws h.1))

  pub picked-take : (n : ℕ) (xs : List X) (ws : List ℕ) → AllByRecursion (λ w. w < length xs) ws → picked xs (take n ws) ≡ take n (picked xs ws)
  picked-take zero xs ws h = refl
  picked-take (suc n) xs [] h = refl
  picked-take (suc n) xs (w ∷ ws) h = let o = one xs w h.0 in rw o.1 (ap (λ ys. o.0 ∷ ys) (picked-take n xs ws h.1))

  picked-drop : (n : ℕ) (xs : List X) (ws : List ℕ) → AllByRecursion (λ w. w < length xs) ws → picked xs (drop n ws) ≡ drop n (picked xs ws)
  picked-drop zero xs ws h = refl
  picked-drop (suc n) xs [] h = refl
  picked-drop (suc n) xs (w ∷ ws) h = rw (one xs w h.0).1 (picked-drop n xs ws h.1)

  pub picked-moved_back : (p n : ℕ) (xs : List X) (ws : List ℕ) → AllByRecursion (λ w. w < length xs) ws → picked xs (moved_back p n ws) ≡ moved_back p n (picked xs ws)
  picked-moved_back zero n xs ws h = refl
  picked-moved_back (suc p) n xs [] h = refl
  picked-moved_back (suc zero) n xs (w ∷ ws) h =
      let o = one xs w h.0 in
      picked-append xs (take n ws) (w ∷ drop n ws) ∙ rw (o.1, picked-take n xs ws h.1, picked-drop n xs ws h.1) refl
  picked-moved_back (suc (suc p)) n xs (w ∷ ws) h =
      let o = one xs w h.0 in
      rw o.1 (ap (λ ys. o.0 ∷ ys) (picked-moved_back (suc p) n xs ws h.1))

  -- a write elsewhere, and one here
  drop-set-other : (xs : List X) (b w : ℕ) (x : X) → w ≢ b → take 1 (drop w (set xs b x)) ≡ take 1 (drop w xs)
  drop-set-other [] b w x n = refl
  drop-set-other (y ∷ xs) zero zero x n = absurd (n refl)
  drop-set-other (y ∷ xs) zero (suc w) x n = refl
  drop-set-other (y ∷ xs) (suc b) zero x n = refl
  drop-set-other (y ∷ xs) (suc b) (suc w) x n = drop-set-other xs b w x (λ e. n (ap suc e))

  pub picked-set-other : (xs : List X) (b : ℕ) (x : X) (ws : List ℕ) → occurrences eqb b ws ≡ 0 → picked (set xs b x) ws ≡ picked xs ws
  picked-set-other xs b x [] o = refl
  picked-set-other xs b x (w ∷ ws) o =
      rw (drop-set-other xs b w x (absent-first b w ws o)) (ap (λ ys. take 1 (drop w xs) ++ ys) (picked-set-other xs b x ws (omega arith)))

  pub one_set : (xs : List X) (b : ℕ) (x : X) → b < length xs → take 1 (drop b (set xs b x)) ≡ x ∷ []
  one_set [] b x h = absurd (omega arith)
  one_set (y ∷ xs) zero x h = refl
  one_set (y ∷ xs) (suc b) x h = one_set xs b x (omega arith)
