use Rattle.std.proofs.Common.{length, Err, sym, refl, ap, ◌∙◌, arith}
use Rattle.std.proofs.lemmas.List.{length_push}
use Rattle.std.proofs.lemmas.Result.{err_from_is_err_and}
use Rattle.lines.specs.Orders.{brought_forward}
use Rattle.reckoning.specs.Reckoning.{add}
use Rattle.bench.specs.Admission.{failed, next_places}
use Rattle.bench.proofs.Calls.{admitted-err, denied-call, done-call}
use Rattle.bench.proofs.Effects.{add-ready, add_done}
use Rattle.bench.proofs.standing.Running.add.Goals as goal

pub returns-in_err-places : goal.returns-in_err-places
returns-in_err-places g c =
    let p = err_from_is_err_and c.from_residual.result c.from_residual.ensures.1 in
    denied-call g.K.Key g.H.Line g.R.Line g.met.K.Key.decides (add (g.K.Key.value c.args.key) c.args.goal) c.args.house.now c.args.rival.now c.args.self.now.ledger p.0 p.1
    (admitted-err (failed g.K.Key g.H.Line g.R.Line (add (g.K.Key.value c.args.key) c.args.goal) c.args.house.now c.args.rival.now c.args.self.now.ledger) (next_places g.K.Key g.H.Line g.R.Line c.args.house.now c.args.rival.now) c.admit_add.ensures (c.in_err-places.was ∙ ap Err (sym p.2)))

pub overflow_sub-places : goal.overflow_sub-places
overflow_sub-places g c = let a = add-ready g.K.Key g.H.Line g.R.Line g.met.K.Key.decides c.args.key c.args.house.now c.args.rival.now c.args.self.now.ledger c.in_ok-places.places c.args.goal c.admit_add.ensures c.in_ok-places.was in omega (arith, a.2)

pub bring_both-requires : goal.bring_both-requires
bring_both-requires g c =
    let a = add-ready g.K.Key g.H.Line g.R.Line g.met.K.Key.decides c.args.key c.args.house.now c.args.rival.now c.args.self.now.ledger c.in_ok-places.places c.args.goal c.admit_add.ensures c.in_ok-places.was in
    let post = c.append_both.ensures in
    let hl = ap length post.house ∙ length_push (g.H.Line.keys c.args.house.now) c.args.key in
    let rl = ap length post.rival ∙ length_push (g.R.Line.keys c.args.rival.now) c.args.key in
    record {
      house = (a.0.house_low, omega (arith, a.0.house_high));
      rival = (a.1, (a.2, omega (arith, a.0.rival_high)));
    }

pub served-self-requires : goal.served-self-requires
served-self-requires g c =
    let a = add-ready g.K.Key g.H.Line g.R.Line g.met.K.Key.decides c.args.key c.args.house.now c.args.rival.now c.args.self.now.ledger c.in_ok-places.places c.args.goal c.admit_add.ensures c.in_ok-places.was in
    let hw = g.met.H.Line.within c.args.house.now in
    let hb = g.met.H.Line.bounded c.args.house.now in
    let rw' = g.met.R.Line.within c.args.rival.now in
    let rb = g.met.R.Line.bounded c.args.rival.now in
    omega arith

pub returns : goal.returns
returns g c =
    let a = add-ready g.K.Key g.H.Line g.R.Line g.met.K.Key.decides c.args.key c.args.house.now c.args.rival.now c.args.self.now.ledger c.in_ok-places.places c.args.goal c.admit_add.ensures c.in_ok-places.was in
    let post = c.bring_both.ensures in
    done-call g.K.Key g.H.Line g.R.Line g.met.K.Key.decides (add (g.K.Key.value c.args.key) c.args.goal) c.args.house.now c.args.rival.now c.args.self.now.ledger c.bring_both.new.house c.bring_both.new.rival c.served-self.result
    (c.bring_both.ensures.limits ∙ c.append_both.ensures.limits) refl a.0.passed
    (add_done g.K.Key g.H.Line g.R.Line g.met.K.Key.decides c.args.key c.args.house.now c.args.rival.now c.args.self.now.ledger c.bring_both.new.house c.bring_both.new.rival c.served-self.result c.args.goal c.in_ok-places.places a.0.at
    (post.house ∙ ap (brought_forward c.in_ok-places.places.house 1) c.append_both.ensures.house)
    (post.rival ∙ ap (brought_forward c.in_ok-places.places.rival c.args.goal) c.append_both.ensures.rival)
    c.served-self.ensures)
