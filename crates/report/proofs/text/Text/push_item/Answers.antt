use Rattle.report.proofs.Appends.{kept_both}
use Rattle.report.proofs.text.Text.push_item.Goals as goal

pub returns-clause-kept : goal.returns-clause-kept
returns-clause-kept c = kept_both (kept_both c.push.ensures.kept c.push-2.ensures.kept) (kept_both c.push_decimal.ensures.kept c.push-3.ensures.kept)
