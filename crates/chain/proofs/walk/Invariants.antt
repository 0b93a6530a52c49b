use Rattle.std.proofs.Common.{◌≡◌, ◌-◌}
use Rattle.chain.specs.Ways.{beyond}
use Rattle.chain.specs.Chains.{nexts_in}
use Rattle.chain.proofs.Segments.{Runs}
use Rattle.chain.proofs.walk.Given as goal

-- what is left of the walk leads to the same cell
abbrev pub invariant-loop-step : goal.invariant-loop-step
invariant-loop-step g l =
    Runs (nexts_in l.cells) l.here (l.steps - l._step)
    × (beyond (nexts_in l.cells) l.here (l.steps - l._step) ≡ beyond (nexts_in l.cells) l.from l.steps)
