use Rattle.std.proofs.Common.{Err, sym, ap, ◌∙◌}
use Rattle.std.proofs.lemmas.Result.{err_from_is_err_and}
use Rattle.logs.specs.Cursors.{passed_of}
use Rattle.acceptance.specs.Scripts.{requesting}
use Rattle.turns.specs.Onward.{asked_of, resuming, going_from}
use Rattle.turns.proofs.Going.{goes_on, so, faulted}
use Rattle.turns.proofs.plays.serve.Goals as goal

pub returns-in_err-goal : goal.returns-in_err-goal
returns-in_err-goal g c = λ onward.
    let p = err_from_is_err_and c.from_residual.result c.from_residual.ensures.1 in
    let was = c.in_err-goal.was ∙ ap Err (sym p.2) in
    so g.K.Key g.H.Line g.R.Line (c.play_exchanges.ensures (asked_of g.K.Key c.args.asked) c.args.page onward) (faulted p.0 _ _ was p.1)

pub returns : goal.returns
returns g c = λ onward.
    let asked = asked_of g.K.Key c.args.asked in
    let plan' = c.play_exchanges.new.plan in
    let rest = going_from onward plan' in
    goes_on g.K.Key g.H.Line g.R.Line
    (so g.K.Key g.H.Line g.R.Line (c.play_exchanges.ensures asked c.args.page onward)
    (ap (λ r. resuming r (λ goal. requesting asked goal c.args.page (passed_of plan'.cursor) rest)) c.in_ok-goal.was
    ∙ ap (λ n. requesting asked c.in_ok-goal.goal c.args.page n rest) (sym c.passed.ensures.value)))
    (c.make_request.ensures rest)
