use Rattle.std.proofs.Common.{◌-◌, map}
use Rattle.chain.specs.Chains.{nexts_in, chained}
use Rattle.chain.proofs.Segments.{Runs}
use Rattle.chain.proofs.Found.{Passed}
use Rattle.chain.proofs.find.Given as goal

-- the key stands in none of the cells passed
abbrev pub invariant-loop-passed : goal.invariant-loop-passed
invariant-loop-passed g l =
    let key = g.K.Key in
    let left = l.steps - l.passed in
    Runs (nexts_in l.cells) l.here left
    × Passed key.equal (key.value l.key) (map key.value (chained l.cells l.from l.steps)) (map key.value (chained l.cells l.here left)) l.passed
