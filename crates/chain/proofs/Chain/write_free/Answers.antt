use Rattle.std.proofs.Common.{◌+◌, map, arith}
use Rattle.chain.specs.Chains.{chained}
use Rattle.chain.proofs.Found.{missing}
use Rattle.chain.proofs.Sounds.{sound-chain, room-appended, sound-kept, chained-appended, differ-appended}
use Rattle.chain.proofs.Chain.write_free.Goals as goal

pub invariant_of-self : goal.invariant_of-self
invariant_of-self g c =
    let chain = c.args.self.now in
    let s = sound-kept (sound-chain chain) c.put.new.cells c.args.key {more = chain.count + 1} (omega arith) c.requires.left c.cell_after-free.ensures.beyond c.put.ensures.keys c.put.ensures.nexts in
    record { runs = s.whole.runs; apart = s.whole.apart; within = s.within; counted = s.counted; differ = s.differ }

pub returns-clause-room : goal.returns-clause-room
returns-clause-room g c =
    let chain = c.args.self.now in
    room-appended (sound-chain chain) c.put.new.cells c.args.key {more = chain.count + 1} (omega arith) c.requires.left c.cell_after-free.ensures.beyond c.put.ensures.keys c.put.ensures.nexts

pub returns-clause-keys : goal.returns-clause-keys
returns-clause-keys g c =
    let chain = c.args.self.now in
    chained-appended (sound-chain chain) c.put.new.cells c.args.key {more = chain.count + 1} (omega arith) c.requires.left c.cell_after-free.ensures.beyond c.put.ensures.keys c.put.ensures.nexts

pub returns-clause-differ : goal.returns-clause-differ
returns-clause-differ g c =
    let chain = c.args.self.now in
    let kind = g.K.Key in
    differ-appended (sound-chain chain) c.put.new.cells c.args.key {more = chain.count + 1} (omega arith) c.requires.left c.cell_after-free.ensures.beyond c.put.ensures.keys c.put.ensures.nexts g.met.K.Key.decides (
    missing kind.equal (kind.value c.args.key) (map kind.value (chained chain.cells.now chain.head chain.count)) c.requires.new
    )
