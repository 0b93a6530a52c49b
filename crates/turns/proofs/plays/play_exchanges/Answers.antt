use Rattle.std.proofs.Common.{Ok, Err, sym, ap, ◌∙◌}
use Rattle.std.proofs.lemmas.Result.{err_from_is_err_and}
use Rattle.turns.proofs.Going.{goes_on, so, stopping}
use Rattle.turns.proofs.Asking.{move_taken, exchange-made}
use Rattle.turns.proofs.plays.play_exchanges.Goals as goal

pub returns-in_err-goal : goal.returns-in_err-goal
returns-in_err-goal g c = λ asked page onward.
    let p = err_from_is_err_and c.from_residual.result c.from_residual.ensures.1 in
    so g.K.Key g.H.Line g.R.Line (c.loop-goal.invariant asked page onward)
    (move_taken asked page onward c.loop-goal.plan c.next_move.new.plan c.next_move.ensures (c.in_err-goal.was ∙ ap Err (sym p.2)) ∙ stopping p.0 _ p.1)

pub returns-in-Goal : goal.returns-in-Goal
returns-in-Goal g c = λ asked page onward.
    so g.K.Key g.H.Line g.R.Line (c.loop-goal.invariant asked page onward)
    (move_taken asked page onward c.loop-goal.plan c.next_move.new.plan c.next_move.ensures (c.in_ok-goal.was ∙ ap Ok c.in-Goal.is))

pub loop-goal-preserved : goal.loop-goal-preserved
loop-goal-preserved g c =
    let done = exchange-made g.K.Key g.H.Line g.R.Line c.args.house.now c.loop-goal.rival c.exchange-done.new.rival c.loop-goal.bench.ledger c.exchange-done.new.self.ledger c.loop-goal.plan c.next_move.new.plan c.in-Exchange.place c.exchange-done.result
    c.next_move.ensures (c.in_ok-goal.was ∙ ap Ok c.in-Exchange.is) c.exchange-done.ensures c.passed.ensures.value c.said_of.ensures c.in_ok-said_of-in-Exchange.was in
    λ asked page onward. goes_on g.K.Key g.H.Line g.R.Line (c.loop-goal.invariant asked page onward) (done asked page onward)

pub returns-in_err-said_of-in-Exchange : goal.returns-in_err-said_of-in-Exchange
returns-in_err-said_of-in-Exchange g c = λ asked page onward.
    let p = err_from_is_err_and c.from_residual-in_err-said_of-in-Exchange.result c.from_residual-in_err-said_of-in-Exchange.ensures.1 in
    let done = exchange-made g.K.Key g.H.Line g.R.Line c.args.house.now c.loop-goal.rival c.exchange-done.new.rival c.loop-goal.bench.ledger c.exchange-done.new.self.ledger c.loop-goal.plan c.next_move.new.plan c.in-Exchange.place c.exchange-done.result
    c.next_move.ensures (c.in_ok-goal.was ∙ ap Ok c.in-Exchange.is) c.exchange-done.ensures c.passed.ensures.value c.said_of.ensures (c.in_err-said_of-in-Exchange.was ∙ ap Err (sym p.2)) in
    goes_on g.K.Key g.H.Line g.R.Line (c.loop-goal.invariant asked page onward) (so g.K.Key g.H.Line g.R.Line (done asked page onward) (stopping p.0 _ p.1))
