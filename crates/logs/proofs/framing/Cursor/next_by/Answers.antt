use Rattle.std.proofs.Common.{Ok, Err, sym, ap, ◌∙◌}
use Rattle.std.proofs.lemmas.Result.{err_from_is_err_and}
use Rattle.logs.specs.Framing.{valued, parts_of}
use Rattle.logs.proofs.Frames.{read-denied, read-none}
use Rattle.logs.proofs.framing.Cursor.next_by.Goals as goal

pub returns-in_err-frame-clause-read : goal.returns-in_err-frame-clause-read
returns-in_err-frame-clause-read g c =
    let p = err_from_is_err_and c.from_residual.result c.from_residual.ensures.1 in
    read-denied _ _ _ p.0 (sym c.next_frame.ensures.value ∙ ap (valued parts_of) (c.in_err-frame.was ∙ ap Err (sym p.2))) p.1

pub returns-in_default-clause-read : goal.returns-in_default-clause-read
returns-in_default-clause-read g c = read-none _ _ (sym c.next_frame.ensures.value ∙ ap (valued parts_of) (c.in_ok-frame.was ∙ ap Ok c.in_default.is))
