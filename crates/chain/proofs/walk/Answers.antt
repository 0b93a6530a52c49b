use Rattle.std.proofs.Common.{◌≡◌, ◌+◌, ◌-◌, ◌<◌, length, arith}
use Rattle.chain.proofs.Cells.{walk-there, walk-on, next-at}
use Rattle.chain.proofs.walk.Goals as goal

inside : goal.bounds-cells-here
inside g c = walk-there c.args.cells.now c.loop-step.here (c.args.steps - c.loop-step._step) (c.args.steps - (c.loop-step._step + 1)) (omega arith) c.loop-step.invariant.0

pub offset_bounds-cells-here : goal.offset_bounds-cells-here
offset_bounds-cells-here g c = let l : c.loop-step.here < length c.args.cells.now = inside g c in omega arith

pub bounds-cells-here : goal.bounds-cells-here
bounds-cells-here = inside

pub bounds-cells-here-in-loop-step : goal.bounds-cells-here-in-loop-step
bounds-cells-here-in-loop-step g c = walk-there c.args.cells.now c.loop-step.here (c.args.steps - c.loop-step._step) (c.args.steps - (c.loop-step._step + 1)) (omega arith) c.loop-step.invariant.0

pub loop-step-preserved : goal.loop-step-preserved
loop-step-preserved g c =
    let there = walk-there c.args.cells.now c.loop-step.here (c.args.steps - c.loop-step._step) (c.args.steps - (c.loop-step._step + 1)) (omega arith) c.loop-step.invariant.0 in
    walk-on c.args.cells.now c.loop-step.here (c.args.steps - c.loop-step._step) (c.args.steps - (c.loop-step._step + 1)) _ _ (omega arith) (next-at c.args.cells.now c.loop-step.here c.index-cells-here.result there) c.loop-step.invariant

pub returns : goal.returns
returns g c = let e : c.args.steps - c.loop-step._step ≡ 0 = omega arith in rw e at c.loop-step.invariant.1
