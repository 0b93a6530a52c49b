use Rattle.std.proofs.Common.{List, length, Option}
use Rattle.keys.specs.declared.denial.Denial.{Denial}
use Rattle.logs.specs.declared.plans.Move.{Move}
use Rattle.logs.specs.Cursors.{left_of}
use Rattle.turns.specs.Onward.{loading_from, Continues}
use Rattle.judge.proofs.pages.load_all.Given as goal

abbrev pub invariant-loop-entry : goal.invariant-loop-entry
invariant-loop-entry g l =
    (plan : List Move × Option Denial) → Continues g.K.Key g.H.Line g.R.Line l.initial.house l.initial.rival l.initial.bench.ledger (loading_from g.K.Key l.initial.page plan) l.house l.rival l.bench.ledger (loading_from g.K.Key l.page plan)

abbrev pub decreases-loop-entry : goal.decreases-loop-entry
decreases-loop-entry g l = length (left_of l.page.cursor)
