use Rattle.std.proofs.Common.{sym, arith}
use Rattle.std.proofs.lemmas.Bool.Decides.{nat_tests}
use Rattle.chain.specs.Chains.{chained}
use Rattle.lines.proofs.Reach.{key_at-outside}
use Rattle.chain.proofs.ChainLine.key_at.Goals as goal

pub returns-then-not-is_place : goal.returns-then-not-is_place
returns-then-not-is_place g c =
    let chain = c.args.self.now in
    let n = chain.counted in
    sym (key_at-outside c.args.place (chained chain.cells.now chain.head chain.count) (λ a b. grind (arith, nat_tests)))
