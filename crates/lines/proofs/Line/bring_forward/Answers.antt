use Rattle.std.proofs.Common.{◌≡◌, suc, ◌-◌, true, false, length, sym, refl, ap, ◌∙◌, arith, rules}
use Rattle.std.proofs.lemmas.Bool.Decides.{nat_tests}
use Rattle.lines.specs.Orders.{allowed, exchanged, may_bring_forward, brought_forward}
use Rattle.lines.proofs.Forward.{forward-range, length_exchanged, forward-denied, forward-stays, forward-step}
use Rattle.lines.proofs.Line.bring_forward.Goals as goal

pub returns-then-not-may_bring_forward : goal.returns-then-not-may_bring_forward
returns-then-not-may_bring_forward g c =
    let xs = g.Self.Line.keys c.args.self.now in
    let not : may_bring_forward c.args.from c.args.to (length xs) ≡ false = cc in
    record {
      limit = search rules;
      gives = ap allowed (sym not);
      keys = sym (forward-denied c.args.from c.args.to xs not);
    }

pub loop-place-init : goal.loop-place-init
loop-place-init g c =
    let xs = g.Self.Line.keys c.args.self.now in
    let may : may_bring_forward c.args.from c.args.to (length xs) ≡ true = cc in
    let range = forward-range c.args.from c.args.to (length xs) may in
    (may, range.1, omega arith, refl, refl, sym (forward-stays c.args.from xs range.2))

pub loop-place-preserved : goal.loop-place-preserved
loop-place-preserved g c =
    let xs = g.Self.Line.keys c.args.self.now in
    let n = c.loop-place.place in
    let inv = c.loop-place.invariant in
    let range = forward-range c.args.from c.args.to (length xs) inv.0 in
    let again : suc (n - 1) ≡ n = omega arith in
    let step : exchanged (n - 1) (brought_forward c.args.from (suc (n - 1)) xs) ≡ brought_forward c.args.from (n - 1) xs = forward-step c.args.from (n - 1) xs (omega arith) (omega arith) range.2 in (
      inv.0,
      omega arith,
      omega arith,
      c.exchange.ensures.limit ∙ inv.3,
      ap length c.exchange.ensures.keys ∙ length_exchanged _ _ ∙ inv.4,
      c.exchange.ensures.keys ∙ ap (exchanged (n - 1)) inv.5 ∙ rw again at step,
    )

pub returns-in_err-exchange : goal.returns-in_err-exchange
returns-in_err-exchange g c =
    let range = forward-range c.args.from c.args.to (length (g.Self.Line.keys c.args.self.now)) c.loop-place.invariant.0 in
    let n = c.loop-place.invariant.4 in
    let was = c.in_err-exchange.was in
    let gives = c.exchange.ensures.gives in
    absurd (grind (arith, nat_tests))

pub returns : goal.returns
returns g c =
    let inv = c.loop-place.invariant in
    let at : c.loop-place.place ≡ c.args.to = omega arith in
    record { limit = inv.3; gives = ap allowed (sym inv.0); keys = rw at at inv.5 }
