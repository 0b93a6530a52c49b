use Rattle.std.proofs.Common.{Err, sym, refl, ap, ◌∙◌, arith}
use Rattle.std.proofs.lemmas.Result.{err_from_is_err_and}
use Rattle.reckoning.specs.Reckoning.{lookup}
use Rattle.bench.specs.Admission.{failed, places_of}
use Rattle.bench.proofs.Fitting.{few}
use Rattle.bench.proofs.Calls.{admitted-err, denied-call, done-call}
use Rattle.bench.proofs.Effects.{lookup-ready, lookup-done}
use Rattle.bench.proofs.standing.Running.lookup.Goals as goal

pub returns-in_err-places : goal.returns-in_err-places
returns-in_err-places g c =
    let p = err_from_is_err_and c.from_residual.result c.from_residual.ensures.1 in
    denied-call g.K.Key g.H.Line g.R.Line g.met.K.Key.decides (lookup (g.K.Key.value c.args.key) c.args.goal) c.args.house.now c.args.rival.now c.args.self.now.ledger p.0 p.1
    (admitted-err (failed g.K.Key g.H.Line g.R.Line (lookup (g.K.Key.value c.args.key) c.args.goal) c.args.house.now c.args.rival.now c.args.self.now.ledger) (places_of g.K.Key g.H.Line g.R.Line c.args.key c.args.house.now c.args.rival.now) c.admit_lookup.ensures (c.in_err-places.was ∙ ap Err (sym p.2)))

pub bring_both-requires : goal.bring_both-requires
bring_both-requires g c =
    let a = lookup-ready g.K.Key g.H.Line g.R.Line g.met.K.Key.decides c.args.key c.args.house.now c.args.rival.now c.args.self.now.ledger c.in_ok-places.places c.args.goal c.admit_lookup.ensures c.in_ok-places.was in
    record { house = (a.0.house_low, a.0.house_high); rival = (a.1, (a.2, a.0.rival_high)) }

pub served-self-requires : goal.served-self-requires
served-self-requires g c =
    let a = lookup-ready g.K.Key g.H.Line g.R.Line g.met.K.Key.decides c.args.key c.args.house.now c.args.rival.now c.args.self.now.ledger c.in_ok-places.places c.args.goal c.admit_lookup.ensures c.in_ok-places.was in
    let h = few g.H.Line g.met.H.Line.within g.met.H.Line.bounded c.args.house.now in
    let r = few g.R.Line g.met.R.Line.within g.met.R.Line.bounded c.args.rival.now in
    omega arith

pub returns : goal.returns
returns g c =
    let a = lookup-ready g.K.Key g.H.Line g.R.Line g.met.K.Key.decides c.args.key c.args.house.now c.args.rival.now c.args.self.now.ledger c.in_ok-places.places c.args.goal c.admit_lookup.ensures c.in_ok-places.was in
    let post = c.bring_both.ensures in
    done-call g.K.Key g.H.Line g.R.Line g.met.K.Key.decides (lookup (g.K.Key.value c.args.key) c.args.goal) c.args.house.now c.args.rival.now c.args.self.now.ledger c.bring_both.new.house c.bring_both.new.rival c.served-self.result
    post.limits refl a.0.passed
    (lookup-done g.K.Key g.H.Line g.R.Line g.met.K.Key.decides c.args.key c.args.house.now c.args.rival.now c.args.self.now.ledger c.bring_both.new.house c.bring_both.new.rival c.served-self.result c.args.goal c.in_ok-places.places a.0.at post.house post.rival c.served-self.ensures)
