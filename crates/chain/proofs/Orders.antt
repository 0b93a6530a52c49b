-- What moving an entry back does to a list: at a seam, to a front, and to how often an entry occurs.
use Rattle.std.proofs.Common.{◌≡◌, ℕ, zero, suc, ◌+◌, ◌<◌, ◌≤◌, Bool, List, [], ◌∷◌, ◌++◌, map, length, take, drop, Ok, refl, ap, arith}
use Rattle.std.proofs.lemmas.List.{take-append-drop, length-take-le, length-append, take_at, drop_at, map-append, take-map, drop-map}
use Rattle.lines.specs.Orders.{key_at, taken_out, exchanged}
use Rattle.lines.specs.Places.{occurrences}
use Rattle.lines.proofs.Kept.{occurrences-append}
use Rattle.chain.specs.Ways.{moved_back}

module _ {X : Type 0} where
  pub moved_back-at : (us vs ws : List X) (w : X) → moved_back (suc (length us)) (length vs) (us ++ w ∷ (vs ++ ws)) ≡ us ++ (vs ++ w ∷ ws)
  moved_back-at [] vs ws w = rw (take_at vs ws (length vs) refl, drop_at vs ws (length vs) refl)
  moved_back-at (u ∷ us) vs ws w = ap (λ xs. u ∷ xs) (moved_back-at us vs ws w)

  pub length-moved_back : (p n : ℕ) (ws : List X) → length (moved_back p n ws) ≡ length ws
  length-moved_back zero n ws = refl
  length-moved_back (suc p) n [] = refl
  length-moved_back (suc zero) n (w ∷ ws) = omega (arith, length-append (take n ws) (w ∷ drop n ws), length-append (take n ws) (drop n ws), ap length (take-append-drop n ws))
  length-moved_back (suc (suc p)) n (w ∷ ws) = ap suc (length-moved_back (suc p) n ws)

  pub occurrences-moved_back : (equal : X → X → Bool) (v : X) (p n : ℕ) (ws : List X) → occurrences equal v (moved_back p n ws) ≡ occurrences equal v ws
  occurrences-moved_back equal v zero n ws = refl
  occurrences-moved_back equal v (suc p) n [] = refl
  occurrences-moved_back equal v (suc zero) n (w ∷ ws) = omega (arith, occurrences-append equal v (take n ws) (w ∷ drop n ws), occurrences-append equal v (take n ws) (drop n ws), ap (occurrences equal v) (take-append-drop n ws))
  occurrences-moved_back equal v (suc (suc p)) n (w ∷ ws) = omega (arith, occurrences-moved_back equal v (suc p) n ws)

  pub map-moved_back : {Y : Type 0} (f : X → Y) (p n : ℕ) (ws : List X) → map f (moved_back p n ws) ≡ moved_back p n (map f ws)
  map-moved_back f zero n ws = refl
  map-moved_back f (suc p) n [] = refl
  map-moved_back f (suc zero) n (w ∷ ws) = rw (map-append, take-map f n ws, drop-map f n ws) refl
  map-moved_back f (suc (suc p)) n (w ∷ ws) = ap (λ ys. f w ∷ ys) (map-moved_back f (suc p) n ws)

  -- a move within a front
  passed-within : (n k : ℕ) (w : X) (ws : List X) → n ≤ k → take (suc k) (take n ws ++ w ∷ drop n ws) ≡ take n (take k ws) ++ w ∷ drop n (take k ws)
  passed-within zero k w ws h = refl
  passed-within (suc n) zero w ws h = absurd (omega arith)
  passed-within (suc n) (suc k) w [] h = refl
  passed-within (suc n) (suc k) w (v ∷ ws) h = ap (λ xs. v ∷ xs) (passed-within n k w ws (omega arith))

  pub front-moved_back : (p n k : ℕ) (ws : List X) → p + n ≤ k → take k (moved_back p n ws) ≡ moved_back p n (take k ws)
  front-moved_back zero n k ws h = refl
  front-moved_back (suc p) n zero ws h = absurd (omega arith)
  front-moved_back (suc p) n (suc k) [] h = refl
  front-moved_back (suc zero) n (suc k) (w ∷ ws) h = passed-within n k w ws (omega arith)
  front-moved_back (suc (suc p)) n (suc k) (w ∷ ws) h = ap (λ xs. w ∷ xs) (front-moved_back (suc p) n k ws (omega arith))

  -- an entry that has passed all up to the nth is missing before it
  pub take-moved_back : (p n m : ℕ) (ws : List X) → 1 ≤ p → p + n ≡ suc m → m < length ws → take m (moved_back p n ws) ≡ taken_out p (take (suc m) ws)
  take-moved_back zero n m ws l e h = absurd (omega arith)
  take-moved_back (suc p) n m [] l e h = absurd (omega arith)
  take-moved_back (suc zero) n m (w ∷ ws) l e h =
      let same : n ≡ m = omega arith in
      rw same (take_at (take m ws) (w ∷ drop m ws) m (length-take-le m ws (omega arith)))
  take-moved_back (suc (suc p)) n zero (w ∷ ws) l e h = absurd (omega arith)
  take-moved_back (suc (suc p)) n (suc m) (w ∷ ws) l e h = ap (λ xs. w ∷ xs) (take-moved_back (suc p) n m ws (omega arith) (omega arith) (omega arith))

  pub moved_back-none : (p : ℕ) (ws : List X) → moved_back p 0 ws ≡ ws
  moved_back-none zero ws = refl
  moved_back-none (suc p) [] = refl
  moved_back-none (suc zero) (w ∷ ws) = refl
  moved_back-none (suc (suc p)) (w ∷ ws) = ap (λ xs. w ∷ xs) (moved_back-none (suc p) ws)

  pub moved_back-one : (p : ℕ) (ws : List X) → moved_back p 1 ws ≡ exchanged p ws
  moved_back-one zero ws = refl
  moved_back-one (suc p) [] = refl
  moved_back-one (suc zero) (w ∷ []) = refl
  moved_back-one (suc zero) (w ∷ v ∷ ws) = refl
  moved_back-one (suc (suc p)) (w ∷ ws) = ap (λ xs. w ∷ xs) (moved_back-one (suc p) ws)

  -- the key at a place
  pub key_at-at : (xs ys : List X) (y : X) → key_at (suc (length xs)) (xs ++ y ∷ ys) ≡ Ok y
  key_at-at [] ys y = refl
  key_at-at (x ∷ xs) ys y = key_at-at xs ys y
