use Rattle.std.proofs.Common.{◌+◌, cond, length, is_some}
use Rattle.logs.specs.Cursors.{left_of, passed_of}
use Rattle.turns.specs.Onward.{awaiting_from, plan_left, Continues}
use Rattle.judge.proofs.pages.serve_all.Given as goal

abbrev pub invariant-loop-next : goal.invariant-loop-next
invariant-loop-next g l = Continues g.K.Key g.H.Line g.R.Line l.initial.house l.initial.rival l.initial.bench.ledger (awaiting_from g.K.Key l.initial.next l.initial.page (passed_of l.initial.plan.cursor) (plan_left l.initial.plan)) l.house l.rival l.bench.ledger (awaiting_from g.K.Key l.next l.page (passed_of l.plan.cursor) (plan_left l.plan))

abbrev pub decreases-loop-next : goal.decreases-loop-next
decreases-loop-next g l = length (left_of l.page.cursor) + cond (is_some l.next) 1 0
