use Rattle.std.proofs.Common.{◌≡◌, ◌<◌, false, map, arith}
use Rattle.std.proofs.lemmas.Bool.Decides.{nat_tests}
use Rattle.std.proofs.lemmas.List.{take_more_set}
use Rattle.lines.specs.Places.{stands}
use Rattle.lines.proofs.Kept.{different-appended}
use Rattle.row.specs.Rows.{row_keys, row_limit}
use Rattle.row.proofs.Cells.{length-keys}
use Rattle.row.proofs.RowLine.append.Goals as goal

pub invariant_of-self-clause-differ : goal.invariant_of-self-clause-differ
invariant_of-self-clause-differ g c =
    let row = c.args.self.now in
    let kind = g.K.Key in
    let h = row.within in
    let n = length-keys row in
    let room : row.count < row_limit row = grind (arith, nat_tests) in
    let keys = take_more_set row.cells.now row.count c.args.key (omega arith) in
    let new : stands kind.equal (kind.value c.args.key) (map kind.value (row_keys row)) ≡ false =
    let found = c.place_of.ensures in let some = c.is_some.ensures in let none = c.if-is_some.false in grind arith in
    rw keys (different-appended kind.equal kind.value g.met.K.Key.decides (row_keys row) c.args.key row.differ new)
