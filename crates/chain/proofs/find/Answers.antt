use Rattle.std.proofs.Common.{◌≡◌, ◌+◌, ◌-◌, ◌<◌, map, length, sym, refl, ◌∙◌, arith}
use Rattle.chain.specs.Chains.{chained}
use Rattle.chain.proofs.Cells.{walk-there}
use Rattle.chain.proofs.Found.{passed-all, found_here, passed_here}
use Rattle.chain.proofs.Sounds.{runs-front}
use Rattle.chain.proofs.find.Goals as goal

pub loop-passed-init : goal.loop-passed-init
loop-passed-init g c =
    let e : c.args.steps - 0 ≡ c.args.steps = omega arith in
    rw e (runs-front c.requires.whole c.args.steps c.requires.within, (refl, omega arith))

inside : goal.bounds-cells-here
inside g c = walk-there c.args.cells.now c.loop-passed.here (c.args.steps - c.loop-passed.passed) (c.args.steps - (c.loop-passed.passed + 1)) (omega arith) c.loop-passed.invariant.0

pub offset_bounds-cells-here : goal.offset_bounds-cells-here
offset_bounds-cells-here g c = let l : c.loop-passed.here < length c.args.cells.now = inside g c in omega arith

pub bounds-cells-here : goal.bounds-cells-here
bounds-cells-here = inside

pub returns-then-eq : goal.returns-then-eq
returns-then-eq g c =
    let key = g.K.Key in
    let cells = c.args.cells.now in
    found_here key.equal key.value (key.value c.args.key.now) (map key.value (chained cells c.args.from c.args.steps)) cells c.loop-passed.here (c.args.steps - c.loop-passed.passed) (c.args.steps - (c.loop-passed.passed + 1)) c.loop-passed.passed
    c.index-cells-here.result (omega arith) c.index-cells-here.is c.loop-passed.invariant (sym (g.met.K.Key.alike c.args.key.now c.index-cells-here.result.key) ∙ sym c.eq.ensures ∙ c.if-eq.true)

pub loop-passed-preserved : goal.loop-passed-preserved
loop-passed-preserved g c =
    let key = g.K.Key in
    let cells = c.args.cells.now in
    passed_here key.equal key.value (key.value c.args.key.now) (map key.value (chained cells c.args.from c.args.steps)) cells c.loop-passed.here (c.args.steps - c.loop-passed.passed) (c.args.steps - (c.loop-passed.passed + 1)) c.loop-passed.passed
    c.index-cells-here.result (omega arith) c.index-cells-here.is c.loop-passed.invariant (sym (g.met.K.Key.alike c.args.key.now c.index-cells-here.result.key) ∙ sym c.eq.ensures ∙ c.if-eq.false)

pub returns : goal.returns
returns g c =
    let key = g.K.Key in
    let e : c.args.steps - c.loop-passed.passed ≡ 0 = omega arith in
    passed-all key.equal (key.value c.args.key.now) (map key.value (chained c.args.cells.now c.args.from c.args.steps)) c.loop-passed.passed (rw e at c.loop-passed.invariant.1)
