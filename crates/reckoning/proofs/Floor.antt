-- The floor: the house's part of a bench is a fold of the loads and requests that were granted, so two benches that were granted the
-- same have the same house; the twice bound of the one then holds the other's floor.
use Rattle.std.proofs.Common.{◌≡◌, ℕ, suc, ◌+◌, Bool, List, [], ◌∷◌, ◌++◌, length, Some, None, Option, sym, refl, ap, ◌∙◌, arith}
use mathlib.Core.List.{foldl, foldl-append}
use Rattle.keys.specs.declared.denial.Denial.{Denial}
use Rattle.lines.specs.Orders.{taken_out, brought_forward}
use Rattle.lines.specs.Places.{walk}
use Rattle.reckoning.specs.Reckoning.{State, Limits, Call, load, start, lookup, add, remove, exchange, close, first_failed, decided, empty, checks, done, step, reckoned_from, reckoned}
use Rattle.reckoning.specs.Floor.{Demand, load_of, lookup_of, add_of, remove_of, demanded, unless_denied, granted_from, FloorLaw}
use Rattle.reckoning.specs.Twice.{TwiceLaw}

-- the house's part of a bench
record House (V : Type 0) : Type 0 where
  order : List V
  cost : ℕ
  requests : ℕ

abbrev house_of : {V : Type 0} → State V → House V
house_of s = record { order = s.house; cost = s.sums.house; requests = s.sums.requests }

module _ {V : Type 0} (equal : V → V → Bool) where
  abbrev asked : House V → Demand V → House V
  asked h (load_of v) = record { order = h.order ++ v ∷ []; cost = h.cost; requests = h.requests }
  asked h (lookup_of v) = record {
    order = brought_forward (walk equal v h.order) 1 h.order;
    cost = h.cost + walk equal v h.order;
    requests = h.requests + 1;
  }
  asked h (add_of v) = record {
    order = brought_forward (suc (length h.order)) 1 (h.order ++ v ∷ []);
    cost = h.cost + suc (length h.order);
    requests = h.requests + 1;
  }
  asked h (remove_of v) = record {
    order = taken_out (walk equal v h.order) h.order;
    cost = h.cost + walk equal v h.order;
    requests = h.requests + 1;
  }

  done-house : (call : Call V) (s : State V) → house_of (done equal call s) ≡ foldl asked (house_of s) (demanded call)
  done-house (load v) s = refl
  done-house start s = refl
  done-house (lookup v goal) s = refl
  done-house (add v goal) s = refl
  done-house (remove v) s = refl
  done-house (exchange place) s = refl
  done-house close s = refl

  decided-house : (o : Option Denial) (call : Call V) (s : State V)
      → house_of (decided o (done equal call s) s).1 ≡ foldl asked (house_of s) (unless_denied (decided o (done equal call s) s).0 (demanded call))
  decided-house None call s = done-house call s
  decided-house (Some denial) call s = refl

  -- after every list of calls the house is the fold of what was granted
  house-granted : (limits : Limits) (s : State V) (calls : List (Call V))
      → house_of (reckoned_from equal limits s calls) ≡ foldl asked (house_of s) (granted_from equal limits s calls)
  house-granted limits s [] = refl
  house-granted limits s (call ∷ calls) =
      let next : State V = (step equal limits call s).1 in
      let rest : List (Demand V) = granted_from equal limits next calls in
      house-granted limits next calls
      ∙ ap (λ h. foldl asked h rest) (decided-house (first_failed (checks equal limits call s)) call s)
      ∙ sym (foldl-append asked (house_of s) (unless_denied (step equal limits call s).0 (demanded call)) rest)

  pub floor-since : TwiceLaw V equal → FloorLaw V equal
  floor-since twice limits calls limits' calls' e =
      let same : house_of (reckoned equal limits calls) ≡ house_of (reckoned equal limits' calls') =
      house-granted limits empty calls ∙ ap (foldl asked (house_of empty)) e ∙ sym (house-granted limits' empty calls') in
      omega (arith, ap (λ h. h.cost) same, ap (λ h. h.requests) same, twice limits' calls')
