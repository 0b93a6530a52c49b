use Rattle.std.proofs.Common.{◌-◌, refl, arith}
use Rattle.chain.proofs.Cells.{same-room}
use Rattle.chain.proofs.Sounds.{sound-chain, sound-moved, counted-taken, chained-taken, differ-taken}
use Rattle.chain.proofs.Chain.move_last.Goals as goal

pub invariant_of-self : goal.invariant_of-self
invariant_of-self g c =
    let chain = c.args.self.now in
    let moved = c.move_back-self in
    let s = sound-moved (sound-chain chain) moved.new.cells moved.result c.args.place (chain.count - c.args.place) moved.ensures.keys moved.ensures.way (omega arith) in
    record { runs = s.whole.runs; apart = s.whole.apart; within = s.within; counted = s.counted; differ = s.differ }

pub returns : goal.returns
returns g c =
    let chain = c.args.self.now in
    let moved = c.move_back-self in
    record {
      room = same-room chain.cells.now moved.new.cells moved.ensures.keys;
      count = refl;
      keys = chained-taken (sound-chain chain) moved.new.cells moved.result c.args.place (chain.count - c.args.place) moved.ensures.keys moved.ensures.way (chain.count - 1) (omega arith) (omega arith) (omega arith);
      counted = counted-taken (sound-chain chain) moved.new.cells moved.result c.args.place (chain.count - c.args.place) moved.ensures.keys moved.ensures.way (chain.count - 1) (omega arith) (omega arith) (omega arith);
      differ = differ-taken (sound-chain chain) moved.new.cells moved.result c.args.place (chain.count - c.args.place) moved.ensures.keys moved.ensures.way (chain.count - 1) (omega arith) (omega arith) (omega arith);
    }
