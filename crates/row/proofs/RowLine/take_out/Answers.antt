use Rattle.std.proofs.Common.{sym, arith}
use Rattle.std.proofs.lemmas.Bool.Decides.{nat_tests}
use Rattle.lines.proofs.Kept.{different-taken_out}
use Rattle.lines.proofs.Reach.{taken_out-outside}
use Rattle.row.specs.Rows.{row_keys}
use Rattle.row.proofs.Cells.{length-keys}
use Rattle.row.proofs.RowLine.take_out.Goals as goal

pub returns-then-not-is_place-clause-keys : goal.returns-then-not-is_place-clause-keys
returns-then-not-is_place-clause-keys g c =
    let n = length-keys c.args.self.now in
    sym (taken_out-outside c.args.place (row_keys c.args.self.now) (λ a b. grind (arith, nat_tests)))

pub invariant_of-self-clause-differ : goal.invariant_of-self-clause-differ
invariant_of-self-clause-differ g c =
    let row = c.args.self.now in
    rw c.close_up.ensures.keys (different-taken_out g.K.Key.equal g.K.Key.value c.args.place (row_keys row) row.differ)
