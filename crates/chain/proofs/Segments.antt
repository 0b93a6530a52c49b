-- Segments of ways: from a number the entries of a list follow in turn, and the last one's next is the segment's end.
use Rattle.std.proofs.Common.{◌≡◌, ℕ, zero, suc, ◌+◌, ◌<◌, ◌≤◌, eqb, ◌≢◌, List, [], ◌∷◌, ◌++◌, length, get_or, take, drop, set, sym, refl, ap, ◌∙◌, inl, inr, arith, drop-cons}
use Rattle.std.specs.List.{AllByRecursion}
use Rattle.std.proofs.lemmas.List.{length-set, get_or-set_same, get_or-set_other, drop_all}
use Rattle.std.proofs.lemmas.Bool.{cases_lt}
use Rattle.std.proofs.lemmas.Bool.Decides.{nat_tests}
use Rattle.lines.specs.Places.{occurrences}
use Rattle.chain.specs.Ways.{way, beyond}

abbrev pub Leads : List ℕ → ℕ → List ℕ → ℕ → Type 0
Leads nexts at [] end = at ≡ end
Leads nexts at (w ∷ ws) end = (at ≡ w) × (w < length nexts) × Leads nexts (get_or nexts w 0) ws end

-- a walk of n entries meets so many
abbrev pub Runs : List ℕ → ℕ → ℕ → Type 0
Runs nexts at n = length (way nexts at n) ≡ n

-- one step of a way
pub way_step : (nexts : List ℕ) (at n : ℕ) → at < length nexts → way nexts at (suc n) ≡ at ∷ way nexts (get_or nexts at 0) n
way_step nexts at n h = rw (way, drop-cons nexts at 0 h)

pub way-there : (nexts : List ℕ) (at n : ℕ) → Runs nexts at (suc n) → at < length nexts
way-there nexts at n h =
    elim (cases_lt at (length nexts)) [ inl l ↦ l | inr l ↦ absurd (let e : 0 ≡ suc n = rw (way, drop_all at nexts l) at h in omega arith) ]

pub way-rest : (nexts : List ℕ) (at n : ℕ) → Runs nexts at (suc n) → Runs nexts (get_or nexts at 0) n
way-rest nexts at n h = omega (arith, ap length (way_step nexts at n (way-there nexts at n h)))

-- a way in two parts
pub way-front : (m k n : ℕ) (nexts : List ℕ) (at : ℕ) → m + k ≡ n → Runs nexts at n → Runs nexts at m
way-front zero k n nexts at e h = refl
way-front (suc m) k zero nexts at e h = absurd (omega arith)
way-front (suc m) k (suc n) nexts at e h =
    let step = way_step nexts at m (way-there nexts at n h) in
    rw step (ap suc (way-front m k n nexts (get_or nexts at 0) (omega arith) (way-rest nexts at n h)))

pub way-rear : (m k n : ℕ) (nexts : List ℕ) (at : ℕ) → m + k ≡ n → Runs nexts at n → Runs nexts (beyond nexts at m) k
way-rear zero k n nexts at e h = let same : k ≡ n = omega arith in rw same h
way-rear (suc m) k zero nexts at e h = absurd (omega arith)
way-rear (suc m) k (suc n) nexts at e h = way-rear m k n nexts (get_or nexts at 0) (omega arith) (way-rest nexts at n h)

pub way_parts : (m k n : ℕ) (nexts : List ℕ) (at : ℕ) → m + k ≡ n → Runs nexts at n → way nexts at n ≡ way nexts at m ++ way nexts (beyond nexts at m) k
way_parts zero k n nexts at e h = let same : k ≡ n = omega arith in rw same
way_parts (suc m) k zero nexts at e h = absurd (omega arith)
way_parts (suc m) k (suc n) nexts at e h =
    let l = way-there nexts at n h in
    way_step nexts at n l ∙ ap (λ ws. at ∷ ws) (way_parts m k n nexts (get_or nexts at 0) (omega arith) (way-rest nexts at n h))
    ∙ ap (λ us. us ++ way nexts (beyond nexts (get_or nexts at 0) m) k) (sym (way_step nexts at m l))

-- a shorter way from the same entry
pub way-take : (m n : ℕ) (nexts : List ℕ) (at : ℕ) → m ≤ n → way nexts at m ≡ take m (way nexts at n)
way-take zero n nexts at h = refl
way-take (suc m) zero nexts at h = absurd (omega arith)
way-take (suc m) (suc n) nexts at h =
    elim (drop at nexts) as (λ rest. elim rest [ [] ↦ [] | next ∷ more ↦ at ∷ way nexts next m ] ≡ take (suc m) (elim rest [ [] ↦ [] | next ∷ more ↦ at ∷ way nexts next n ])) [
      | [] ↦ refl
      | next ∷ more ↦ ap (λ ws. at ∷ ws) (way-take m n nexts next (omega arith))
    ]

-- segments and ways
pub leads-from-way : (n : ℕ) (nexts : List ℕ) (at : ℕ) → Runs nexts at n → Leads nexts at (way nexts at n) (beyond nexts at n)
leads-from-way zero nexts at h = refl
leads-from-way (suc n) nexts at h =
    let l = way-there nexts at n h in
    rw (way_step nexts at n l) (refl, l, leads-from-way n nexts (get_or nexts at 0) (way-rest nexts at n h))

pub way-from-leads : (ws nexts : List ℕ) (at end : ℕ) → Leads nexts at ws end → way nexts at (length ws) ≡ ws
way-from-leads [] nexts at end h = refl
way-from-leads (w ∷ ws) nexts at end h =
    rw h.0 (way_step nexts w (length ws) h.1 ∙ ap (λ us. w ∷ us) (way-from-leads ws nexts (get_or nexts w 0) end h.2))

pub runs-from-leads : (ws nexts : List ℕ) (at end n : ℕ) → length ws ≡ n → Leads nexts at ws end → Runs nexts at n
runs-from-leads ws nexts at end n e h = rw (sym e) (ap length (way-from-leads ws nexts at end h))

pub leads-join : (us vs nexts : List ℕ) (at mid end : ℕ) → Leads nexts at us mid → Leads nexts mid vs end → Leads nexts at (us ++ vs) end
leads-join [] vs nexts at mid end h i = rw h i
leads-join (u ∷ us) vs nexts at mid end h i = (h.0, h.1, leads-join us vs nexts (get_or nexts u 0) mid end h.2 i)

pub leads-within : (ws nexts : List ℕ) (at end : ℕ) → Leads nexts at ws end → AllByRecursion (λ w. w < length nexts) ws
leads-within [] nexts at end h = tt
leads-within (w ∷ ws) nexts at end h = (h.1, leads-within ws nexts (get_or nexts w 0) end h.2)

-- an entry outside a segment may point anywhere
pub absent-first : (b w : ℕ) (ws : List ℕ) → occurrences eqb b (w ∷ ws) ≡ 0 → w ≢ b
absent-first b w ws h e = grind (arith, nat_tests)

pub leads-frame : (ws nexts : List ℕ) (at end b to : ℕ) → occurrences eqb b ws ≡ 0 → Leads nexts at ws end → Leads (set nexts b to) at ws end
leads-frame [] nexts at end b to o h = h
leads-frame (w ∷ ws) nexts at end b to o h =
    let ne = absent-first b w ws o in (
      h.0,
      rw (length-set nexts b to) h.1,
      rw (get_or-set_other nexts b w to 0 ne) (leads-frame ws nexts (get_or nexts w 0) end b to (omega arith) h.2),
    )

-- a segment up to b and one from `to` are one once b points to `to`
pub leads-pointed : (us vs nexts : List ℕ) (at b to end : ℕ) → occurrences eqb b us ≡ 0 → occurrences eqb b vs ≡ 0 → b < length nexts → Leads nexts at us b → Leads nexts to vs end → Leads (set nexts b to) at (us ++ b ∷ vs) end
leads-pointed us vs nexts at b to end o p l h i =
    leads-join us (b ∷ vs) (set nexts b to) at b end (leads-frame us nexts at b b to o h) (
      refl,
      rw (length-set nexts b to) l,
      rw (get_or-set_same nexts b to 0 l) (leads-frame vs nexts to end b to p i),
    )
