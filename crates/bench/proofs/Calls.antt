-- What a call of a bench promises, from its checks and its effect.
use Rattle.std.proofs.Common.{◌≡◌, ℕ, ◌<◌, ◌≤◌, Bool, true, false, cond, Some, None, Ok, Err, Decides, Option, Result, sym, refl, ap, ◌∙◌, arith}
use Rattle.std.proofs.lemmas.Bool.Decides.{nat_tests}
use Rattle.keys.specs.declared.denial.Denial.{Denial}
use Rattle.keys.specs.declared.denial.Denial.TheVariants.{OutOfRange}
use Rattle.keys.specs.declared.key.Key.{Ghosts as KeyMeaning}
use Rattle.lines.specs.declared.Line.{Ghosts as LineMeaning}
use Rattle.lines.specs.Orders.{allowed, may_exchange}
use Rattle.reckoning.specs.Reckoning.{State, Call, decided, done}
use Rattle.reckoning.proofs.Bound.{made}
use Rattle.bench.specs.declared.ledger.Ledger.{Ledger}
use Rattle.bench.specs.Benches.{limits_of, bench_of, Called}
use Rattle.bench.specs.Admission.{admitted, failed}
use Rattle.bench.proofs.Fitting.{ok-not-err}

-- what was denied failed a check, and what was given passed them all
pub admitted-err : {T : Type 0} (o : Option Denial) (x : T) {r : Result T Denial} {d : Denial} → r ≡ admitted o x → r ≡ Err d → o ≡ Some d
admitted-err None x p q = let z : ◌≡◌ {A = ℕ} 0 1 = cc in absurd (omega arith)
admitted-err (Some e) x p q = cc

pub admitted-ok : {T : Type 0} (o : Option Denial) (x : T) {r : Result T Denial} {y : T} → r ≡ admitted o x → r ≡ Ok y → (o ≡ None) × (y ≡ x)
admitted-ok None x p q = (refl, cc)
admitted-ok (Some e) x p q = let z : ◌≡◌ {A = ℕ} 0 1 = cc in absurd (omega arith)

pub allowed-err : (b : Bool) {r : Result (Unit {0}) Denial} {d : Denial} → r ≡ allowed b → r ≡ Err d → (b ≡ false) × (d ≡ OutOfRange)
allowed-err true p q = let z : ◌≡◌ {A = ℕ} 0 1 = cc in absurd (omega arith)
allowed-err false p q = (refl, cc)

pub allowed-ok : (b : Bool) {r : Result (Unit {0}) Denial} {u : Unit {0}} → r ≡ allowed b → r ≡ Ok u → b ≡ true
allowed-ok true p q = refl
allowed-ok false p q = let z : ◌≡◌ {A = ℕ} 0 1 = cc in absurd (omega arith)

pub checked-err : (b : Bool) (check : Denial) {r : Result (Unit {0}) Denial} {d : Denial} → r ≡ cond b (Err check) (Ok tt) → r ≡ Err d → (b ≡ true) × (d ≡ check)
checked-err true check p q = (refl, cc)
checked-err false check p q = let z : ◌≡◌ {A = ℕ} 0 1 = cc in absurd (omega arith)

pub checked-ok : (b : Bool) (check : Denial) {r : Result (Unit {0}) Denial} {u : Unit {0}} → r ≡ cond b (Err check) (Ok tt) → r ≡ Ok u → b ≡ false
checked-ok true check p q = let z : ◌≡◌ {A = ℕ} 0 1 = cc in absurd (omega arith)
checked-ok false check p q = refl

pub past-exchange : (place n : ℕ) → may_exchange place n ≡ false → 1 ≤ place → place < n → ⊥
past-exchange place n e a b = grind (arith, nat_tests)

module _ {K H R : Type 0} (key : KeyMeaning K) (house : LineMeaning H K) (rival : LineMeaning R K)
    (decides : (v w : key.Value) → Decides (key.equal v w) (v ≡ w)) where
  -- the answer and the effect are the reckoning's
  pub settled-call : (call : Call key.Value) (h : H) (r : R) (ledger : Ledger) {answer : Result (Unit {0}) Denial} (h' : H) (r' : R) (ledger' : Ledger)
      → limits_of key house rival h' r' ≡ limits_of key house rival h r → (o : Option Denial) → failed key house rival call h r ledger ≡ o
      → decided o (done key.equal call (bench_of key house rival h r ledger)) (bench_of key house rival h r ledger) ≡ (answer, bench_of key house rival h' r' ledger')
      → ((denial : Denial) → answer ≡ Err denial → (house.keys h' ≡ house.keys h) × (rival.keys r' ≡ rival.keys r))
      → Called key house rival call h r ledger answer h' r' ledger'
  settled-call call h r ledger {answer} h' r' ledger' limits o e settled kept =
      let s : State key.Value = bench_of key house rival h r ledger in
      record {
        limits = limits;
        made = made key.equal decides (limits_of key house rival h r) call s answer (bench_of key house rival h' r' ledger') (ap (λ o. decided o (done key.equal call s) s) e ∙ settled);
        kept = kept;
      }

  pub denied-call : (call : Call key.Value) (h : H) (r : R) (ledger : Ledger) {answer : Result (Unit {0}) Denial} (d : Denial)
      → answer ≡ Err d → failed key house rival call h r ledger ≡ Some d → Called key house rival call h r ledger answer h r ledger
  denied-call call h r ledger d a e = settled-call call h r ledger h r ledger refl (Some d) e (ap (λ b. (b, bench_of key house rival h r ledger)) (sym a)) (λ _ _. (refl, refl))

  pub done-call : (call : Call key.Value) (h : H) (r : R) (ledger : Ledger) {answer : Result (Unit {0}) Denial} (h' : H) (r' : R) (ledger' : Ledger)
      → limits_of key house rival h' r' ≡ limits_of key house rival h r
      → answer ≡ Ok tt → failed key house rival call h r ledger ≡ None → bench_of key house rival h' r' ledger' ≡ done key.equal call (bench_of key house rival h r ledger)
      → Called key house rival call h r ledger answer h' r' ledger'
  done-call call h r ledger h' r' ledger' limits a e after = settled-call call h r ledger h' r' ledger' limits None e (λ i. (sym a i, sym after i)) (λ _ b. absurd (ok-not-err a b))
