use Rattle.std.proofs.Common.{◌≡◌, true, false, eqb, map, length, Some, Err, sym, refl, ap, ◌∙◌}
use lib.ListN.{length-map}
use Rattle.std.proofs.lemmas.Result.{err_from_is_err_and}
use Rattle.keys.specs.declared.denial.Denial.TheVariants.{OutOfRange, Exhausted}
use Rattle.lines.specs.Orders.{may_exchange}
use Rattle.lines.proofs.Reach.{exchanged-outside}
use Rattle.reckoning.specs.Reckoning.{exchange, most}
use Rattle.bench.specs.Benches.{sums_of}
use Rattle.bench.proofs.Calls.{checked-err, checked-ok, allowed-err, allowed-ok, past-exchange, settled-call, denied-call, done-call}
use Rattle.bench.proofs.Effects.{exchange-done}
use Rattle.bench.proofs.standing.Running.exchange.Goals as goal

pub returns-in_err-check_counter : goal.returns-in_err-check_counter
returns-in_err-check_counter g c =
    let p = err_from_is_err_and c.from_residual.result c.from_residual.ensures.1 in
    let out = checked-err (eqb c.args.self.now.ledger.paid most) Exhausted c.check_counter.ensures (c.in_err-check_counter.was ∙ ap Err (sym p.2)) in
    denied-call g.K.Key g.H.Line g.R.Line g.met.K.Key.decides (exchange c.args.place) c.args.house.now c.args.rival.now c.args.self.now.ledger p.0 p.1
    (rw out.0 (ap Some (sym out.1)))

pub returns-in_err-exchange : goal.returns-in_err-exchange
returns-in_err-exchange g c =
    let p = err_from_is_err_and c.from_residual-in_err-exchange.result c.from_residual-in_err-exchange.ensures.1 in
    let ks = g.R.Line.keys c.args.rival.now in
    let out = allowed-err (may_exchange c.args.place (length ks)) c.exchange.ensures.gives (c.in_err-exchange.was ∙ ap Err (sym p.2)) in
    let less : eqb c.args.self.now.ledger.paid most ≡ false = checked-ok _ Exhausted c.check_counter.ensures c.in_ok-check_counter.was in
    let far : may_exchange c.args.place (length (map g.K.Key.value ks)) ≡ false = rw (length-map ks g.K.Key.value) out.0 in
    let same = c.exchange.ensures.keys ∙ exchanged-outside c.args.place ks (past-exchange c.args.place (length ks) out.0) in
    settled-call g.K.Key g.H.Line g.R.Line g.met.K.Key.decides (exchange c.args.place) c.args.house.now c.args.rival.now c.args.self.now.ledger c.args.house.now c.exchange.new.self c.args.self.now.ledger
    (λ i. record { house = g.H.Line.limit c.args.house.now; rival = c.exchange.ensures.limit i }) (Some OutOfRange)
    (rw (less, far) refl)
    (λ i. (sym (p.1 ∙ ap Err out.1) i, record { house = map g.K.Key.value (g.H.Line.keys c.args.house.now); rival = map g.K.Key.value (sym same i); sums = sums_of c.args.self.now.ledger }))
    (λ _ _. (refl, same))

pub returns : goal.returns
returns g c =
    let ks = g.R.Line.keys c.args.rival.now in
    let may = allowed-ok (may_exchange c.args.place (length ks)) c.exchange.ensures.gives c.in_ok-exchange.was in
    let less : eqb c.args.self.now.ledger.paid most ≡ false = checked-ok _ Exhausted c.check_counter.ensures c.in_ok-check_counter.was in
    let near : may_exchange c.args.place (length (map g.K.Key.value ks)) ≡ true = rw (length-map ks g.K.Key.value) may in
    done-call g.K.Key g.H.Line g.R.Line g.met.K.Key.decides (exchange c.args.place) c.args.house.now c.args.rival.now c.args.self.now.ledger c.args.house.now c.exchange.new.self c.exchanged-self.result
    (λ i. record { house = g.H.Line.limit c.args.house.now; rival = c.exchange.ensures.limit i }) refl
    (rw (less, near) refl)
    (exchange-done g.K.Key g.H.Line g.R.Line c.args.house.now c.args.rival.now c.exchange.new.self c.args.self.now.ledger c.exchanged-self.result c.args.place c.exchange.ensures.keys c.exchanged-self.ensures)
