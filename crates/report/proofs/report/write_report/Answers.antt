use Rattle.std.proofs.Common.{◌^◌, ◌<◌, IfSome, rules}
use Rattle.report.proofs.Fits.{report-fits}
use Rattle.report.proofs.report.write_report.Goals as goal

pub push_report-requires : goal.push_report-requires
push_report-requires c =
    let cost : IfSome c.args.best (λ cost. cost < 2 ^ 32) = search rules in
    let fits = report-fits c.args.ledger c.args.best cost in
    search rules

pub returns-clause-short : goal.returns-clause-short
returns-clause-short c =
    let cost : IfSome c.args.best (λ cost. cost < 2 ^ 32) = search rules in
    let fits = report-fits c.args.ledger c.args.best cost in
    search rules
