use Rattle.std.proofs.Common.{Some, Ok, Err, sym, ap, ◌∙◌}
use Rattle.std.proofs.lemmas.Result.{err_from_is_err_and}
use Rattle.turns.proofs.Going.{goes_on, so, stopping}
use Rattle.judge.proofs.Paging.{entry-loaded, load-made}
use Rattle.judge.proofs.pages.load_all.Goals as goal

pub returns-in_err-entry : goal.returns-in_err-entry
returns-in_err-entry g c = λ plan.
    let p = err_from_is_err_and c.from_residual.result c.from_residual.ensures.1 in
    so g.K.Key g.H.Line g.R.Line (c.loop-entry.invariant plan)
    (entry-loaded g.K.Key c.loop-entry.page c.next_record.new.page c.next_record.ensures (c.in_err-entry.was ∙ ap Err (sym p.2)) plan ∙ stopping p.0 _ p.1)

pub returns-in_default : goal.returns-in_default
returns-in_default g c = λ plan.
    so g.K.Key g.H.Line g.R.Line (c.loop-entry.invariant plan)
    (entry-loaded g.K.Key c.loop-entry.page c.next_record.new.page c.next_record.ensures (c.in_ok-entry.was ∙ ap Ok c.in_default.is) plan)

pub returns-in-Request : goal.returns-in-Request
returns-in-Request g c = λ plan.
    so g.K.Key g.H.Line g.R.Line (c.loop-entry.invariant plan)
    (entry-loaded g.K.Key c.loop-entry.page c.next_record.new.page c.next_record.ensures (c.in_ok-entry.was ∙ ap Ok (c.in-Some.is ∙ ap Some c.in-Request.is)) plan)

pub loop-entry-preserved : goal.loop-entry-preserved
loop-entry-preserved g c =
    let next = entry-loaded g.K.Key c.loop-entry.page c.next_record.new.page c.next_record.ensures (c.in_ok-entry.was ∙ ap Ok (c.in-Some.is ∙ ap Some c.in-First.is)) in
    let done = load-made g.K.Key g.H.Line g.R.Line c.loop-entry.house c.load-loaded.new.house c.loop-entry.rival c.load-loaded.new.rival c.loop-entry.bench.ledger c.load-loaded.new.self.ledger c.loop-entry.page c.next_record.new.page c.in-First.key c.load-loaded.result
    next c.load-loaded.ensures c.passed.ensures.value c.said_of.ensures c.in_ok-said_of-in-First.was in
    λ plan. goes_on g.K.Key g.H.Line g.R.Line (c.loop-entry.invariant plan) (done plan)

pub returns-in_err-said_of-in-First : goal.returns-in_err-said_of-in-First
returns-in_err-said_of-in-First g c = λ plan.
    let p = err_from_is_err_and c.from_residual-in_err-said_of-in-First.result c.from_residual-in_err-said_of-in-First.ensures.1 in
    let next = entry-loaded g.K.Key c.loop-entry.page c.next_record.new.page c.next_record.ensures (c.in_ok-entry.was ∙ ap Ok (c.in-Some.is ∙ ap Some c.in-First.is)) in
    let done = load-made g.K.Key g.H.Line g.R.Line c.loop-entry.house c.load-loaded.new.house c.loop-entry.rival c.load-loaded.new.rival c.loop-entry.bench.ledger c.load-loaded.new.self.ledger c.loop-entry.page c.next_record.new.page c.in-First.key c.load-loaded.result
    next c.load-loaded.ensures c.passed.ensures.value c.said_of.ensures (c.in_err-said_of-in-First.was ∙ ap Err (sym p.2)) in
    goes_on g.K.Key g.H.Line g.R.Line (c.loop-entry.invariant plan) (so g.K.Key g.H.Line g.R.Line (done plan) (stopping p.0 _ p.1))
