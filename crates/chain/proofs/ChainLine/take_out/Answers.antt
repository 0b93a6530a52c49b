use Rattle.std.proofs.Common.{sym, arith}
use Rattle.std.proofs.lemmas.Bool.Decides.{nat_tests}
use Rattle.chain.specs.Chains.{chained}
use Rattle.lines.proofs.Reach.{taken_out-outside}
use Rattle.chain.proofs.ChainLine.take_out.Goals as goal

pub returns-then-not-is_place-clause-keys : goal.returns-then-not-is_place-clause-keys
returns-then-not-is_place-clause-keys g c =
    let chain = c.args.self.now in
    let n = chain.counted in
    sym (taken_out-outside c.args.place (chained chain.cells.now chain.head chain.count) (λ a b. grind (arith, nat_tests)))
