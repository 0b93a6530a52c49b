-- Cells of which each points to the one that follows it: the way from the first meets all, and none twice.
use Rattle.std.proofs.Common.{◌≡◌, ℕ, zero, suc, ◌+◌, ◌<◌, ◌≤◌, eqb, List, [], ◌∷◌, length, get_or, sym, refl, ap, ◌∙◌, arith}
use Rattle.std.proofs.lemmas.Bool.Decides.{nat_tests}
use Rattle.lines.specs.Places.{occurrences, Different}
use Rattle.chain.specs.Ways.{way}
use Rattle.chain.proofs.Segments.{Leads, way-from-leads}

abbrev up_from : ℕ → ℕ → List ℕ
up_from i zero = []
up_from i (suc n) = i ∷ up_from (suc i) n

length-up_from : (i n : ℕ) → length (up_from i n) ≡ n
length-up_from i zero = refl
length-up_from i (suc n) = ap suc (length-up_from (suc i) n)

above : (v i n : ℕ) → v < i → occurrences eqb v (up_from i n) ≡ 0
above v i zero h = refl
above v i (suc n) h = grind (arith, nat_tests, above v (suc i) n (omega arith))

once : (i n : ℕ) → Different eqb (up_from i n)
once i zero v = omega arith
once i (suc n) v = grind (arith, nat_tests, above v (suc i) n, once (suc i) n v)

leads-on : (n i m : ℕ) (nexts : List ℕ) → i + n ≡ m → m ≤ length nexts → ((k : ℕ) → k < m → get_or nexts k 0 ≡ k + 1) → Leads nexts i (up_from i n) m
leads-on zero i m nexts e l h = omega arith
leads-on (suc n) i m nexts e l h =
    let next : get_or nexts i 0 ≡ suc i = h i (omega arith) ∙ omega arith in
    (refl, omega arith, rw next (leads-on n (suc i) m nexts (omega arith) l h))

module _ (n : ℕ) (nexts : List ℕ) (l : n ≤ length nexts) (h : (k : ℕ) → k < n → get_or nexts k 0 ≡ k + 1) where
  way-linked : way nexts 0 n ≡ up_from 0 n
  way-linked = ap (way nexts 0) (sym (length-up_from 0 n)) ∙ way-from-leads (up_from 0 n) nexts 0 n (leads-on n 0 n nexts (omega arith) l h)

  pub runs-linked : length (way nexts 0 n) ≡ n
  runs-linked = ap length way-linked ∙ length-up_from 0 n

  pub apart-linked : Different eqb (way nexts 0 n)
  apart-linked v = rw way-linked (once 0 n v)
