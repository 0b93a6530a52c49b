use Rattle.std.proofs.Common.{Err, sym, refl, ap, ◌∙◌}
use Rattle.std.proofs.lemmas.Result.{err_from_is_err_and}
use Rattle.reckoning.specs.Reckoning.{load}
use Rattle.bench.specs.Admission.{load_failed, next_places}
use Rattle.bench.proofs.Calls.{admitted-err, admitted-ok, denied-call, done-call}
use Rattle.bench.proofs.Effects.{load-done}
use Rattle.bench.proofs.standing.Loading.load.Goals as goal

pub returns-in_err-admit_load : goal.returns-in_err-admit_load
returns-in_err-admit_load g c =
    let p = err_from_is_err_and c.from_residual.result c.from_residual.ensures.1 in
    denied-call g.K.Key g.H.Line g.R.Line g.met.K.Key.decides (load (g.K.Key.value c.args.key)) c.args.house.now c.args.rival.now c.args.self.now.ledger p.0 p.1
    (admitted-err (load_failed g.K.Key g.H.Line g.R.Line c.args.key c.args.house.now c.args.rival.now) (next_places g.K.Key g.H.Line g.R.Line c.args.house.now c.args.rival.now) c.admit_load.ensures (c.in_err-admit_load.was ∙ ap Err (sym p.2)))

pub returns : goal.returns
returns g c =
    let ok = admitted-ok (load_failed g.K.Key g.H.Line g.R.Line c.args.key c.args.house.now c.args.rival.now) (next_places g.K.Key g.H.Line g.R.Line c.args.house.now c.args.rival.now) c.admit_load.ensures c.in_ok-admit_load.was in
    let post = c.append_both.ensures in
    done-call g.K.Key g.H.Line g.R.Line g.met.K.Key.decides (load (g.K.Key.value c.args.key)) c.args.house.now c.args.rival.now c.args.self.now.ledger c.append_both.new.house c.append_both.new.rival c.args.self.now.ledger
    post.limits post.done ok.0
    (load-done g.K.Key g.H.Line g.R.Line g.met.K.Key.decides c.args.key c.args.house.now c.args.rival.now c.args.self.now.ledger c.append_both.new.house c.append_both.new.rival c.args.self.now.ledger post.house post.rival refl)
