use Rattle.report.proofs.Appends.{kept_both}
use Rattle.report.proofs.text.Text.push_report.Goals as goal

pub returns-clause-kept : goal.returns-clause-kept
returns-clause-kept c =
    let two = kept_both c.push_line.ensures.kept c.push_line-2.ensures.kept in
    let four = kept_both two (kept_both c.push_line-3.ensures.kept c.push_line-4.ensures.kept) in
    let six = kept_both four (kept_both c.push_line-5.ensures.kept c.push_line-6.ensures.kept) in
    kept_both six (kept_both c.push_line-7.ensures.kept c.push_best.ensures.kept)
