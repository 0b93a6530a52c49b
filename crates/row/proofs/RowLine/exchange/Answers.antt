use Rattle.std.proofs.Common.{sym, arith}
use Rattle.std.proofs.lemmas.Bool.Decides.{nat_tests}
use Rattle.lines.proofs.Kept.{different-exchanged}
use Rattle.lines.proofs.Reach.{exchanged-outside}
use Rattle.row.specs.Rows.{row_keys}
use Rattle.row.proofs.Cells.{length-keys, keys-swapped}
use Rattle.row.proofs.RowLine.exchange.Goals as goal

pub returns-then-not-may_exchange-clause-keys : goal.returns-then-not-may_exchange-clause-keys
returns-then-not-may_exchange-clause-keys g c =
    let n = length-keys c.args.self.now in
    sym (exchanged-outside c.args.place (row_keys c.args.self.now) (λ a b. grind (arith, nat_tests)))

pub invariant_of-self-clause-differ : goal.invariant_of-self-clause-differ
invariant_of-self-clause-differ g c =
    let row = c.args.self.now in
    let keys = keys-swapped row c.args.place c.swap.new.self (grind arith) c.swap.ensures.after in
    rw keys (different-exchanged g.K.Key.equal g.K.Key.value c.args.place (row_keys row) row.differ)

pub returns-clause-keys : goal.returns-clause-keys
returns-clause-keys g c = keys-swapped c.args.self.now c.args.place c.swap.new.self (grind arith) c.swap.ensures.after
