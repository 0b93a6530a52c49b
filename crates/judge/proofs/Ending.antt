-- The end of a plan.
use Rattle.std.proofs.Common.{◌≡◌, ℕ, suc, ◌+◌, false, eqb, List, [], ◌∷◌, length, Some, None, Option, sym, refl, ap, ◌∙◌, add-one, arith}
use Rattle.std.proofs.lemmas.Bool.{cond-true, cond-false, eq-eqb}
use Rattle.std.proofs.lemmas.Bool.Decides.{nat_tests}
use Rattle.keys.specs.declared.denial.Denial.{Denial}
use Rattle.keys.specs.declared.denial.Denial.TheVariants.{Misfit}
use Rattle.reckoning.specs.Reckoning.{close}
use Rattle.logs.specs.declared.fault.Log.TheVariants.{Plan}
use Rattle.logs.specs.declared.plans.PlanReader.{PlanReader}
use Rattle.logs.specs.declared.plans.Move.{Move}
use Rattle.logs.specs.Cursors.{left_of, passed_of}
use Rattle.logs.specs.Plans.{plan_moves}
use Rattle.logs.proofs.Whole.{plan-left}
use Rattle.acceptance.specs.Scripts.{faulty, calling, ending}
use Rattle.turns.specs.Onward.{plan_left, left_over, resuming, going_from}
use Rattle.turns.proofs.Going.{nothing}

-- where a byte is left, that is said
some-left : {V : Type 0} (read b : ℕ) (bytes : List ℕ) → faulty {V = V} Plan (suc read) Misfit ≡ resuming (left_over (read + 1) (b ∷ bytes)) (λ _. calling close 0 0 nothing)
some-left read b bytes =
    let some : eqb (length (b ∷ bytes)) 0 ≡ false = grind (arith, nat_tests) in
    ap (λ n. faulty Plan n Misfit) (sym (add-one read)) ∙ ap (λ r. resuming r (λ _. calling close 0 0 nothing)) (sym (cond-false _ _ _ some))

-- a plan of no moves and no fault has no byte left, and any other has one
ended_by : {V : Type 0} (read : ℕ) (bytes : List ℕ) (left : List Move × Option Denial) → plan_moves bytes ≡ left
    → ending {V = V} read left.0 left.1 ≡ resuming (left_over (read + 1) bytes) (λ _. calling close 0 0 nothing)
ended_by read bytes ([], None) e = ap (λ r. resuming r (λ _. calling close 0 0 nothing)) (sym (cond-true _ _ _ (eq-eqb _ _ (plan-left bytes e))))
ended_by read [] ([], Some denial) e =
    let f : ◌≡◌ {A = Option Denial} None (Some denial) = ap (λ p. p.1) e in
    let z : ⊥ = cc in
    absurd z
ended_by read (b ∷ bytes) ([], Some denial) e = some-left read b bytes
ended_by read [] (move ∷ moves, fault) e =
    let f : ◌≡◌ {A = List Move} [] (move ∷ moves) = ap (λ p. p.0) e in
    let z : ⊥ = cc in
    absurd z
ended_by read (b ∷ bytes) (move ∷ moves, fault) e = some-left read b bytes

-- where the page has ended, the plan's end is looked at, and the bench is closed
pub ends_so : (V : Type 0) (plan : PlanReader) → going_from (ending {V = V}) plan ≡ resuming (left_over (passed_of plan.cursor + 1) (left_of plan.cursor)) (λ _. calling close 0 0 nothing)
unfolding plan_left
ends_so V plan = ended_by (passed_of plan.cursor) (left_of plan.cursor) (plan_left plan) refl
