use Rattle.std.proofs.Common.{length}
use Rattle.logs.specs.Cursors.{left_of}
use Rattle.turns.proofs.Asking.{Exchanging}
use Rattle.turns.proofs.plays.play_exchanges.Given as goal

abbrev pub invariant-loop-goal : goal.invariant-loop-goal
invariant-loop-goal g l = Exchanging g.K.Key g.H.Line g.R.Line l.house l.initial.rival l.initial.bench.ledger l.initial.plan l.rival l.bench.ledger l.plan

abbrev pub decreases-loop-goal : goal.decreases-loop-goal
decreases-loop-goal g l = length (left_of l.plan.cursor)
