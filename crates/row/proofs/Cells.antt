-- How moves among all the cells are calls on the first of them, which hold the keys, and how the keys are searched.
use Rattle.std.proofs.Common.{◌≡◌, ℕ, zero, suc, ◌+◌, ◌-◌, ◌<◌, ◌≤◌, Bool, true, cond, List, [], ◌∷◌, ◌++◌, map, length, get_or, take, drop, set, Some, None, Option, Ok, refl, ap, ◌∙◌, sym, arith, append_assoc}
use Rattle.std.specs.List as holes
use Rattle.std.specs.List.{position_from}
use Rattle.std.specs.Option.{ok_or, option_copied, option_map}
use Rattle.std.specs.Slice.{IsItemAt}
use Rattle.std.proofs.lemmas.List.{take_at, length-take-le}
use Rattle.std.proofs.lemmas.Bool.Decides.{nat_tests}
use denote.Ref.{Bor}
use borrow.Rule.Slice.PartMut.{mid_of, put_mid}
use Rattle.keys.specs.declared.denial.Denial.TheVariants.{OutOfRange}
use Rattle.lines.specs.Orders.{key_at, taken_out, may_exchange, exchanged}
use Rattle.lines.specs.Places.{stands, walk, place_of}
use Rattle.lines.proofs.Reach.{key_at-outside, key_at-within}
use Rattle.row.specs.declared.Row.{Row}
use Rattle.row.specs.Rows.{row_keys}

module _ {X : Type 0} where
  -- the key at a place is the one at the index below, if there is one
  pub got_key : (place at : ℕ) (xs : List X) (r : Option (Bor X)) → suc at ≡ place → IsItemAt xs at r → ok_or (option_copied r) OutOfRange ≡ key_at place xs
  got_key place at xs None e h = sym (key_at-outside place xs (λ a b. omega (arith, h.3)))
  got_key place at xs (Some x) e h = ap Ok h.1 ∙ rw e at (sym (key_at-within at xs x.now h.3.0))

  -- the cells from a place to the nth are rotated by one: all but the last of the first n are the list without the key at that place
  turned : (q m k : ℕ) (xs : List X) → q + k ≡ suc m → suc m ≤ length xs → q ≤ m → take m (put_mid q k xs (drop 1 (mid_of q k xs) ++ take 1 (mid_of q k xs))) ≡ taken_out (suc q) (take (suc m) xs)
  turned q m k [] e l h = absurd (omega arith)
  turned zero m k (x ∷ xs) e l h =
      let s : k ≡ suc m = omega arith in
      rw (s, append_assoc (take m xs) (x ∷ []) (drop m xs)) (take_at (take m xs) (x ∷ drop m xs) m (length-take-le m xs (omega arith)))
  turned (suc q) zero k (x ∷ xs) e l h = absurd (omega arith)
  turned (suc q) (suc m) k (x ∷ xs) e l h = ap (λ ys. x ∷ ys) (turned q m k xs (omega arith) (omega arith) (omega arith))

  pub rotated : (n p : ℕ) (xs ys : List X) → 1 ≤ p → p ≤ n → n ≤ length xs → ys ≡ drop 1 (mid_of (p - 1) (n - (p - 1)) xs) ++ take 1 (mid_of (p - 1) (n - (p - 1)) xs) → take (n - 1) (put_mid (p - 1) (n - (p - 1)) xs ys) ≡ taken_out p (take n xs)
  rotated n p xs ys l h m e =
      let q : suc (p - 1) ≡ p = omega arith in
      let s : suc (n - 1) ≡ n = omega arith in
      rw e (rw (q, s) at (turned (p - 1) (n - 1) (n - (p - 1)) xs (omega arith) (omega arith) (omega arith)))

  take-exchanged : (n p : ℕ) (xs : List X) → p < n → take n (exchanged p xs) ≡ exchanged p (take n xs)
  take-exchanged zero p xs h = absurd (omega arith)
  take-exchanged (suc n) zero xs h = refl
  take-exchanged (suc n) (suc p) [] h = refl
  take-exchanged (suc zero) (suc p) (x ∷ xs) h = absurd (omega arith)
  take-exchanged (suc (suc n)) (suc zero) (x ∷ []) h = refl
  take-exchanged (suc (suc n)) (suc zero) (x ∷ y ∷ xs) h = refl
  take-exchanged (suc (suc n)) (suc (suc p)) (x ∷ xs) h = ap (λ ys. x ∷ ys) (take-exchanged (suc n) (suc p) xs (omega arith))

  neighbours : (p : ℕ) (xs : List X) (d : X) → suc p < length xs → set (set xs p (get_or xs (suc p) d)) (suc p) (get_or xs p d) ≡ exchanged (suc p) xs
  neighbours p [] d h = absurd (omega arith)
  neighbours p (x ∷ []) d h = absurd (omega arith)
  neighbours zero (x ∷ y ∷ xs) d h = refl
  neighbours (suc p) (x ∷ y ∷ xs) d h = ap (λ ys. x ∷ ys) (neighbours p (y ∷ xs) d (omega arith))

  -- two neighbours among the first n have changed places
  swapped : (n p : ℕ) (xs : List X) → 1 ≤ p → p < n → n ≤ length xs → take n (holes.swap xs (p - 1) p) ≡ exchanged p (take n xs)
  swapped n zero xs l h m = absurd (omega arith)
  swapped n (suc p) [] l h m = absurd (omega arith)
  swapped n (suc p) (x ∷ xs) l h m =
      let e : suc p - 1 ≡ p = omega arith in
      rw e (ap (take n) (neighbours p (x ∷ xs) x (omega arith)) ∙ take-exchanged n (suc p) (x ∷ xs) h)

-- a search by index, which begins to count at i
module _ {K V : Type 0} (equal : V → V → Bool) (value : K → V) (v : V) where
  counted-from : (i : ℕ) (ks : List K) → option_map (λ at. at + 1) (position_from (λ k. equal v (value k)) i ks) ≡ cond (stands equal v (map value ks)) (Some (i + walk equal v (map value ks))) None
  counted-from i [] = refl
  counted-from i (k ∷ ks) = grind (arith, counted-from (i + 1) ks)

  pub place-from_position : (ks : List K) (o : Option ℕ) → position_from (λ k. equal v (value k)) 0 ks ≡ o → option_map (λ at. at + 1) o ≡ place_of equal v (map value ks)
  place-from_position ks o e =
      let none : 0 + walk equal v (map value ks) ≡ walk equal v (map value ks) = omega arith in
      ap (option_map (λ at. at + 1)) (sym e) ∙ rw none at (counted-from 0 ks)

-- the calls on a row
module _ {K : Type 0} {kind : _} {same : _} (row : Row K kind same) where
  pub length-keys : length (row_keys row) ≡ row.count
  length-keys = let h = row.within in length-take-le row.count row.cells.now (omega arith)

  module _ (p : ℕ) (cells : List K) where
    pub keys-swapped : may_exchange p row.count ≡ true → cells ≡ holes.swap row.cells.now (p - 1) p → take row.count cells ≡ exchanged p (row_keys row)
    keys-swapped h e =
        let l = row.within in
        let low : 1 ≤ p = grind (arith, nat_tests) in
        let high : p < row.count = grind (arith, nat_tests) in
        rw e (swapped row.count p row.cells.now low high (omega arith))
