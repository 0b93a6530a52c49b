use Rattle.std.proofs.Common.{◌<◌, sym, ◌∙◌, arith}
use Rattle.std.proofs.lemmas.Bool.Decides.{nat_tests}
use Rattle.chain.specs.Chains.{chained}
use Rattle.lines.proofs.Reach.{exchanged-outside}
use Rattle.chain.proofs.Orders.{moved_back-one}
use Rattle.chain.proofs.Sounds.{sound-chain, chained-moved, sound-moved}
use Rattle.chain.proofs.ChainLine.exchange.Goals as goal

pub returns-then-not-may_exchange-clause-keys : goal.returns-then-not-may_exchange-clause-keys
returns-then-not-may_exchange-clause-keys g c =
    let chain = c.args.self.now in
    let n = chain.counted in
    sym (exchanged-outside c.args.place (chained chain.cells.now chain.head chain.count) (λ a b. grind (arith, nat_tests)))

pub invariant_of-self : goal.invariant_of-self
invariant_of-self g c =
    let high : c.args.place < c.args.self.now.count = grind (arith, nat_tests) in
    let s = sound-moved (sound-chain c.args.self.now) c.move_back-self.new.cells c.move_back-self.result c.args.place 1 c.move_back-self.ensures.keys c.move_back-self.ensures.way (omega arith) in
    record { runs = s.whole.runs; apart = s.whole.apart; within = s.within; counted = s.counted; differ = s.differ }

pub returns-clause-keys : goal.returns-clause-keys
returns-clause-keys g c =
    let high : c.args.place < c.args.self.now.count = grind (arith, nat_tests) in
    let chain = c.args.self.now in
    chained-moved (sound-chain chain) c.move_back-self.new.cells c.move_back-self.result c.args.place 1 c.move_back-self.ensures.keys c.move_back-self.ensures.way (omega arith)
    ∙ moved_back-one c.args.place (chained chain.cells.now chain.head chain.count)
