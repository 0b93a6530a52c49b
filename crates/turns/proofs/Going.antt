-- How playing a script goes on: call by call, and from one stretch to the next.
use Rattle.std.proofs.Common.{◌≡◌, ℕ, [], Some, None, Ok, Err, Result, sym, refl, ap, ◌∙◌, subst}
use Rattle.keys.specs.declared.denial.Denial.{Denial}
use Rattle.keys.specs.declared.key.Key.{Ghosts as KeyMeaning}
use Rattle.lines.specs.declared.Line.{Ghosts as LineMeaning}
use Rattle.reckoning.specs.Reckoning.{Call, load, exchange, Limits, State}
use Rattle.bench.specs.Benches.{limits_of, bench_of, Called}
use Rattle.bench.specs.declared.ledger.Ledger.{Ledger}
use Rattle.logs.specs.declared.fault.Log.TheVariants.{Page, Plan}
use Rattle.logs.specs.declared.fault.Fault.{Fault}
use Rattle.acceptance.specs.Scripts.{Spelled, Script, calling}
use Rattle.acceptance.specs.Judgement.{blamed, settling, played}
use Rattle.turns.specs.Onward.{said_of, resuming, Continues}

-- an answer, with its denial held against what the call is read from
abbrev pub held : {V : Type 0} → Spelled V → Result (Unit {0}) Denial → Result (Unit {0}) Fault
held spelled (Ok done) = Ok done
held spelled (Err denial) = Err (blamed spelled denial)

abbrev pub spelled_at : {V : Type 0} → Call V → ℕ → ℕ → Spelled V
spelled_at call page plan = record { call = call; page = page; plan = plan }

-- the answers of calls that are held against one log are held so
pub held-load : {V : Type 0} (v : V) (page plan : ℕ) (answer : Result (Unit {0}) Denial) → said_of Page page answer ≡ held (spelled_at (load v) page plan) answer
held-load v page plan (Ok done) = refl
held-load v page plan (Err denial) = refl

pub held-exchange : (V : Type 0) (place page plan : ℕ) (answer : Result (Unit {0}) Denial) → said_of Plan plan answer ≡ held {V = V} (spelled_at (exchange place) page plan) answer
held-exchange V place page plan (Ok done) = refl
held-exchange V place page plan (Err denial) = refl

module _ {K H R : Type 0} (key : KeyMeaning K) (house : LineMeaning H K) (rival : LineMeaning R K) where
  -- a call's answer is what its script goes on with
  answered : (limits : Limits) (spelled : Spelled key.Value) (answer : Result (Unit {0}) Denial) (s : State key.Value) (rest : Script key.Value)
      → settling spelled (answer, s) (λ after. played key.equal limits after rest) ≡ played key.equal limits s (resuming (held spelled answer) (λ _. rest))
  answered limits spelled (Ok done) s rest = refl
  answered limits spelled (Err denial) s rest = refl

  pub called_on : (call : Call key.Value) (page plan : ℕ) (h : H) (r : R) (ledger : Ledger) (answer : Result (Unit {0}) Denial) (h' : H) (r' : R) (ledger' : Ledger) {result : Result (Unit {0}) Fault}
      → Called key house rival call h r ledger answer h' r' ledger' → result ≡ held (spelled_at call page plan) answer → (rest : Script key.Value)
      → Continues key house rival h r ledger (calling call page plan rest) h' r' ledger' (resuming result (λ _. rest))
  called_on call page plan h r ledger answer h' r' ledger' called said rest =
      let limits = limits_of key house rival h r in
      let after = bench_of key house rival h' r' ledger' in
      record {
        limits = called.limits;
        onward =
            ap (λ done. settling (spelled_at call page plan) done (λ s. played key.equal limits s rest)) called.made.reckons
            ∙ answered limits (spelled_at call page plan) answer after rest
            ∙ ap (λ said. played key.equal limits after (resuming said (λ _. rest))) (sym said);
      }

  -- nothing done, and the same script
  pub stays : (h : H) (r : R) (ledger : Ledger) (script script' : Script key.Value) → script ≡ script' → Continues key house rival h r ledger script h r ledger script'
  stays h r ledger script script' e = record {
    limits = refl;
    onward = ap (played key.equal (limits_of key house rival h r) (bench_of key house rival h r ledger)) e;
  }

  -- one stretch after another
  pub goes_on : {h h' h'' : H} {r r' r'' : R} {ledger ledger' ledger'' : Ledger} {script script' script'' : Script key.Value}
      → Continues key house rival h r ledger script h' r' ledger' script' → Continues key house rival h' r' ledger' script' h'' r'' ledger'' script'' → Continues key house rival h r ledger script h'' r'' ledger'' script''
  goes_on {h} {h'} {h''} {r} {r'} {r''} {ledger} {ledger'} {ledger''} {script} {script'} {script''} a b = record {
    limits = b.limits ∙ a.limits;
    onward =
        a.onward
        ∙ subst (λ (limits : Limits). played key.equal limits (bench_of key house rival h' r' ledger') script' ≡ played key.equal limits (bench_of key house rival h'' r'' ledger'') script'') a.limits b.onward;
  }

  -- the same script in other words
  pub so : {h h' : H} {r r' : R} {ledger ledger' : Ledger} {script script' script'' : Script key.Value}
      → Continues key house rival h r ledger script h' r' ledger' script' → script' ≡ script'' → Continues key house rival h r ledger script h' r' ledger' script''
  so {h} {h'} {r} {r'} {ledger} {ledger'} {script} a e = subst (Continues key house rival h r ledger script h' r' ledger') e a

-- a fault ends a script whatever was to come
pub stopping : {V T : Type 0} (fault : Fault) {result : Result T Fault} (onward : T → Script V) → result ≡ Err fault → record { calls = []; fault = Some fault } ≡ resuming result onward
stopping fault onward e = ap (λ r. resuming r onward) (sym e)

pub faulted : {V S T : Type 0} (fault : Fault) {first : Result S Fault} {second : Result T Fault} (onward : S → Script V) (onward' : T → Script V) → first ≡ Err fault → second ≡ Err fault → resuming first onward ≡ resuming second onward'
faulted fault onward onward' a b = ap (λ r. resuming r onward) a ∙ stopping fault onward' b

-- a script of no calls
abbrev pub nothing : {V : Type 0} → Script V
nothing = record { calls = []; fault = None }
