use Rattle.std.proofs.Common.{rules}
use Rattle.report.proofs.Fits.{fault-fits}
use Rattle.report.proofs.fault.write_fault.Goals as goal

pub push_fault-requires : goal.push_fault-requires
push_fault-requires c =
    let fits = fault-fits c.args.fault (search rules) in
    search rules

pub returns-clause-short : goal.returns-clause-short
returns-clause-short c =
    let fits = fault-fits c.args.fault (search rules) in
    search rules
