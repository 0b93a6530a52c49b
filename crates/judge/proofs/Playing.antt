-- Two logs, played from the loading to the closing.
use Rattle.std.proofs.Common.{◌≡◌, ◌+◌, Ok, Err, Option, Result, sym, refl, ap, ◌∙◌}
use Rattle.keys.specs.declared.key.Key.{Ghosts as KeyMeaning}
use Rattle.lines.specs.declared.Line.{Ghosts as LineMeaning}
use Rattle.reckoning.specs.Reckoning.{start, close}
use Rattle.bench.specs.Benches.{Called}
use Rattle.bench.specs.declared.ledger.Ledger.{Ledger}
use Rattle.logs.specs.declared.fault.Fault.{Fault}
use Rattle.logs.specs.declared.pages.PageReader.{PageReader}
use Rattle.logs.specs.declared.plans.PlanReader.{PlanReader}
use Rattle.logs.specs.Cursors.{left_of, passed_of}
use Rattle.logs.specs.declared.pages.Request.{Request as ReadRequest}
use Rattle.acceptance.specs.Scripts.{Script, calling, ending}
use Rattle.turns.specs.Onward.{plan_left, left_over, resuming, going_from, loading_from, awaiting_from, Continues, Loads, PlayedOut}
use Rattle.turns.proofs.Going.{called_on, goes_on, so, faulted, nothing}
use Rattle.judge.proofs.Ending.{ends_so}

module _ {K H R : Type 0} (key : KeyMeaning K) (house : LineMeaning H K) (rival : LineMeaning R K) where
  -- the first keys are loaded, and the bench is started
  pub started : (h h' : H) (r r' : R) (ledger ledger' ledger'' : Ledger) (page page' : PageReader) (plan : PlanReader) (result : Result (Option (ReadRequest K)) Fault) (first : Option (ReadRequest K))
      → Loads key house rival h r ledger page result h' r' ledger' page' → result ≡ Ok first → Called key house rival start h' r' ledger' (Ok tt) h' r' ledger'' → passed_of plan.cursor ≡ 0
      → Continues key house rival h r ledger (loading_from key page (plan_left plan)) h' r' ledger'' (awaiting_from key first page' (passed_of plan.cursor) (plan_left plan))
  started h h' r r' ledger ledger' ledger'' page page' plan result first loads e called fresh =
      goes_on key house rival
      (so key house rival (loads (plan_left plan)) (ap (λ r. resuming r (λ next. calling start 0 0 (awaiting_from key next page' 0 (plan_left plan)))) e))
      (so key house rival (called_on key house rival start 0 0 h' r' ledger' (Ok tt) h' r' ledger'' called refl (awaiting_from key first page' 0 (plan_left plan)))
      (ap (λ n. awaiting_from key first page' n (plan_left plan)) (sym fresh)))

  -- a fault on the way
  pub stopped : (h h' : H) (r r' : R) (ledger ledger' : Ledger) (page : PageReader) (plan : PlanReader) {S : Type 0} (result : Result S Fault) (onward : S → Script key.Value) {answer : Result Ledger Fault} (fault : Fault)
      → Continues key house rival h r ledger (loading_from key page (plan_left plan)) h' r' ledger' (resuming result onward) → result ≡ Err fault → answer ≡ Err fault
      → PlayedOut key house rival h r ledger page plan answer h' r'
  stopped h h' r r' ledger ledger' page plan {S} result onward {answer} fault c a b = record {
    ledger' = ledger';
    continues = so key house rival c (faulted fault onward _ a b);
    gives = λ given e. let z : ⊥ = cc in absurd z;
  }

  -- all requests are served, and the plan's end is looked at
  pub ended : (h h' h'' : H) (r r' r'' : R) (ledger ledger' ledger'' : Ledger) (page : PageReader) (plan plan'' : PlanReader) (script : Script key.Value) (served checked : Result (Unit {0}) Fault)
      → Continues key house rival h r ledger (loading_from key page (plan_left plan)) h' r' ledger' script
      → Continues key house rival h' r' ledger' script h'' r'' ledger'' (resuming served (λ _. going_from ending plan'')) → served ≡ Ok tt → checked ≡ left_over (passed_of plan''.cursor + 1) (left_of plan''.cursor)
      → Continues key house rival h r ledger (loading_from key page (plan_left plan)) h'' r'' ledger'' (resuming checked (λ _. calling close 0 0 nothing))
  ended h h' h'' r r' r'' ledger ledger' ledger'' page plan plan'' script served checked c serves e f =
      goes_on key house rival c
      (so key house rival serves (ap (λ r. resuming r (λ _. going_from ending plan'')) e ∙ ends_so key.Value plan'' ∙ ap (λ r. resuming r (λ _. calling close 0 0 nothing)) (sym f)))

  -- and the bench is closed
  pub closed : (h h' : H) (r r' : R) (ledger ledger' ledger'' given : Ledger) (page : PageReader) (plan : PlanReader) (checked : Result (Unit {0}) Fault) {answer : Result Ledger Fault}
      → Continues key house rival h r ledger (loading_from key page (plan_left plan)) h' r' ledger' (resuming checked (λ _. calling close 0 0 nothing)) → checked ≡ Ok tt
      → Called key house rival close h' r' ledger' (Ok tt) h' r' ledger'' → given ≡ ledger'' → answer ≡ Ok given
      → PlayedOut key house rival h r ledger page plan answer h' r'
  closed h h' r r' ledger ledger' ledger'' given page plan checked {answer} c e called same a = record {
    ledger' = ledger'';
    continues = goes_on key house rival
        (so key house rival c (ap (λ r. resuming r (λ _. calling close 0 0 nothing)) e))
        (so key house rival (called_on key house rival close 0 0 h' r' ledger' (Ok tt) h' r' ledger'' called refl nothing) (ap (λ r. resuming r (λ _. nothing)) (sym a)));
    gives = λ other b. let x : other ≡ given = cc in x ∙ same;
  }
