use Rattle.std.proofs.Common.{◌≡◌, false, Err, sym, ap, ◌∙◌}
use Rattle.std.proofs.lemmas.Result.{err_from_is_err_and, IfOk-at_ok}
use Rattle.keys.specs.Spelling.{meant}
use Rattle.logs.specs.declared.fault.Log.TheVariants.{Page, Plan}
use Rattle.logs.specs.declared.pages.PageReader.{PageReader}
use Rattle.logs.specs.declared.plans.PlanReader.{PlanReader}
use Rattle.logs.specs.Cursors.{left_of, passed_of}
use Rattle.acceptance.specs.Scripts.{fault_on}
use Rattle.judge.proofs.Verdict.{said-err, said_ok, bench-opened, bench-denied, script-read, judged-full, judged-played}
use Rattle.judge.proofs.judging.judge.Goals as goal

pub returns-in_err-bench : goal.returns-in_err-bench
returns-in_err-bench g c =
    let p = err_from_is_err_and c.from_residual.result c.from_residual.ensures.1 in
    let said = said-err Page 0 c.open.result p.0 (sym c.said_of.ensures ∙ c.in_err-bench.was ∙ ap Err (sym p.2)) in
    let denied = bench-denied g.K.Key g.H.Line g.R.Line c.args.house.now c.args.rival.now c.open.result said.0 c.open.ensures said.1 in
    judged-full g.K.Key g.H.Line g.R.Line g.met.K.Key.decides c.args.page.now c.args.plan.now c.args.house.now c.args.rival.now denied.0
    (p.1 ∙ ap Err (said.2 ∙ ap (fault_on Page 0) denied.1))

pub returns : goal.returns
returns g c =
    let ok = bench-opened g.K.Key g.H.Line g.R.Line c.args.house.now c.args.rival.now c.open.result c.in_ok-bench.bench c.open.ensures (said_ok Page 0 c.open.result _ (sym c.said_of.ensures ∙ c.in_ok-bench.was)) in
    let read = said_ok Page 0 c.open-2.result c.in_ok-page.page (sym c.said_of-2.ensures ∙ c.in_ok-page.was) in
    let read' = said_ok Plan 0 c.open-3.result c.in_ok-plan.plan (sym c.said_of-3.ensures ∙ c.in_ok-plan.was) in
    let fresh = IfOk-at_ok (λ (reader : PageReader). (reader.requested ≡ false) × (passed_of reader.cursor ≡ 0)) read c.open-2.ensures.fresh in
    let page = sym c.open-2.ensures.left ∙ ap (meant (λ (reader : PageReader). left_of reader.cursor)) read in
    let plan = sym c.open-3.ensures.left ∙ ap (meant (λ (reader : PlanReader). left_of reader.cursor)) read' in
    judged-played g.K.Key g.H.Line g.R.Line c.args.house.now c.args.rival.now g.met.K.Key.decides c.args.page.now c.args.plan.now c.in_ok-bench.bench.ledger c.in_ok-page.page c.in_ok-plan.plan c.play_logs.result c.play_logs.new.house c.play_logs.new.rival
    ok.0 ok.1 (script-read g.K.Key g.H.Line g.R.Line c.args.house.now c.args.rival.now c.args.page.now c.args.plan.now c.in_ok-page.page c.in_ok-plan.plan page fresh.0 fresh.1 plan) c.play_logs.ensures
