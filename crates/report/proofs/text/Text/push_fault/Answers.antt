use Rattle.report.proofs.Appends.{kept_both}
use Rattle.report.proofs.text.Text.push_fault.Goals as goal

pub returns-clause-kept : goal.returns-clause-kept
returns-clause-kept c = kept_both c.push_item.ensures.kept c.push_item-2.ensures.kept
