use Rattle.std.proofs.Common.{Ok, Err, sym, ap, ◌∙◌, arith}
use Rattle.std.proofs.lemmas.Result.{err_from_is_err_and}
use Rattle.keys.specs.Spelling.{meant, read_as}
use Rattle.logs.specs.Framing.{valued, gained}
use Rattle.logs.specs.Cursors.{left_of}
use Rattle.logs.specs.Records.{with}
use Rattle.logs.specs.Pages.{entry_of, page_entry}
use Rattle.logs.proofs.Whole.{read-fewer}
use Rattle.turns.specs.Onward.{page_left, item_of, read_by}
use Rattle.turns.proofs.Reading.{page-read, valued-ok}
use Rattle.turns.proofs.entry.next_entry.Goals as goal

pub returns-in_err-given-clause-read : goal.returns-in_err-given-clause-read
returns-in_err-given-clause-read g c =
    let p = err_from_is_err_and c.from_residual.result c.from_residual.ensures.1 in
    page-read g.K.Key c.args.page.now c.next.new.self c.next.ensures.read c.next.ensures.requested (c.in_err-given.was ∙ ap Err (sym p.2))
    ∙ ap (λ r. read_by g.K.Key r (page_left g.K.Key c.next.new.self)) (sym p.1)

pub returns-in_default-clause-read : goal.returns-in_default-clause-read
returns-in_default-clause-read g c = page-read g.K.Key c.args.page.now c.next.new.self c.next.ensures.read c.next.ensures.requested (c.in_ok-given.was ∙ ap Ok c.in_default.is)

pub returns-clause-read : goal.returns-clause-read
returns-clause-read g c =
    let spelling = (entry_of c.in-Some.given).spelling in
    let left' = page_left g.K.Key c.next.new.self in
    let made = ap (meant g.K.Key.value) (sym c.in_ok-key.was) ∙ c.read.ensures ∙ ap (λ spelling. read_as (g.K.Key.reading spelling)) c.spelling.ensures in
    page-read g.K.Key c.args.page.now c.next.new.self c.next.ensures.read c.next.ensures.requested (c.in_ok-given.was ∙ ap Ok c.in-Some.is)
    ∙ valued-ok g.K.Key c.in-Some.given (g.K.Key.reading spelling) c.in_ok-key.key left' made
    ∙ ap (λ r. with (item_of g.K.Key r) left') (sym c.keyed.ensures)

pub returns-clause-advanced : goal.returns-clause-advanced
returns-clause-advanced g c =
    let was = c.in_ok-given.was ∙ ap Ok c.in-Some.is in (
      (let e = ap gained was in omega (arith, c.next.ensures.passed)),
      read-fewer (page_entry g.K.Key.reading c.args.page.now.requested) (left_of c.args.page.now.cursor) (left_of c.next.new.self.cursor) (entry_of c.in-Some.given)
          (c.next.ensures.read ∙ ap (λ a. (valued entry_of a, left_of c.next.new.self.cursor)) was),
    )
