use Rattle.std.proofs.Common.{Err, sym, refl, ap, ◌∙◌}
use Rattle.std.proofs.lemmas.Result.{err_from_is_err_and}
use Rattle.turns.specs.Onward.{plan_left}
use Rattle.turns.proofs.Going.{goes_on}
use Rattle.judge.proofs.Playing.{started, stopped, ended, closed}
use Rattle.judge.proofs.judging.play_logs.Goals as goal

pub returns-in_err-first : goal.returns-in_err-first
returns-in_err-first g c =
    let p = err_from_is_err_and c.from_residual.result c.from_residual.ensures.1 in
    stopped g.K.Key g.H.Line g.R.Line c.args.house.now c.load_all.new.house c.args.rival.now c.load_all.new.rival c.args.bench.ledger c.load_all.new.bench.ledger c.args.page c.args.plan c.load_all.result _ p.0
    (c.load_all.ensures (plan_left c.args.plan)) (c.in_err-first.was ∙ ap Err (sym p.2)) p.1

pub returns-in_err-serve_all : goal.returns-in_err-serve_all
returns-in_err-serve_all g c =
    let p = err_from_is_err_and c.from_residual-in_err-serve_all.result c.from_residual-in_err-serve_all.ensures.1 in
    let begun = started g.K.Key g.H.Line g.R.Line c.args.house.now c.load_all.new.house c.args.rival.now c.load_all.new.rival c.args.bench.ledger c.load_all.new.bench.ledger c.start-bench.result.ledger c.args.page c.load_all.new.page c.args.plan c.load_all.result c.in_ok-first.first c.load_all.ensures c.in_ok-first.was c.start-bench.ensures c.requires in
    stopped g.K.Key g.H.Line g.R.Line c.args.house.now c.serve_all.new.house c.args.rival.now c.serve_all.new.rival c.args.bench.ledger c.serve_all.new.bench.ledger c.args.page c.args.plan c.serve_all.result _ p.0
    (goes_on g.K.Key g.H.Line g.R.Line begun c.serve_all.ensures) (c.in_err-serve_all.was ∙ ap Err (sym p.2)) p.1

pub returns-in_err-check_ended : goal.returns-in_err-check_ended
returns-in_err-check_ended g c =
    let p = err_from_is_err_and c.from_residual-in_err-check_ended.result c.from_residual-in_err-check_ended.ensures.1 in
    let begun = started g.K.Key g.H.Line g.R.Line c.args.house.now c.load_all.new.house c.args.rival.now c.load_all.new.rival c.args.bench.ledger c.load_all.new.bench.ledger c.start-bench.result.ledger c.args.page c.load_all.new.page c.args.plan c.load_all.result c.in_ok-first.first c.load_all.ensures c.in_ok-first.was c.start-bench.ensures c.requires in
    let served = ended g.K.Key g.H.Line g.R.Line c.args.house.now c.load_all.new.house c.serve_all.new.house c.args.rival.now c.load_all.new.rival c.serve_all.new.rival c.args.bench.ledger c.start-bench.result.ledger c.serve_all.new.bench.ledger c.args.page c.args.plan c.serve_all.new.plan _ c.serve_all.result c.check_ended.result begun c.serve_all.ensures c.in_ok-serve_all.was c.check_ended.ensures in
    stopped g.K.Key g.H.Line g.R.Line c.args.house.now c.serve_all.new.house c.args.rival.now c.serve_all.new.rival c.args.bench.ledger c.serve_all.new.bench.ledger c.args.page c.args.plan c.check_ended.result _ p.0
    served (c.in_err-check_ended.was ∙ ap Err (sym p.2)) p.1

pub returns : goal.returns
returns g c =
    let begun = started g.K.Key g.H.Line g.R.Line c.args.house.now c.load_all.new.house c.args.rival.now c.load_all.new.rival c.args.bench.ledger c.load_all.new.bench.ledger c.start-bench.result.ledger c.args.page c.load_all.new.page c.args.plan c.load_all.result c.in_ok-first.first c.load_all.ensures c.in_ok-first.was c.start-bench.ensures c.requires in
    let served = ended g.K.Key g.H.Line g.R.Line c.args.house.now c.load_all.new.house c.serve_all.new.house c.args.rival.now c.load_all.new.rival c.serve_all.new.rival c.args.bench.ledger c.start-bench.result.ledger c.serve_all.new.bench.ledger c.args.page c.args.plan c.serve_all.new.plan _ c.serve_all.result c.check_ended.result begun c.serve_all.ensures c.in_ok-serve_all.was c.check_ended.ensures in
    closed g.K.Key g.H.Line g.R.Line c.args.house.now c.serve_all.new.house c.args.rival.now c.serve_all.new.rival c.args.bench.ledger c.serve_all.new.bench.ledger c.close-closed.result.ledger c.ledger.result c.args.page c.args.plan c.check_ended.result served c.in_ok-check_ended.was c.close-closed.ensures c.ledger.ensures refl
