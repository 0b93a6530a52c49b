use Rattle.keys.proofs.Names.{name-front, meant-more}
use Rattle.std.proofs.Common.{arith}
use Rattle.keys.proofs.name.Name.meant_bytes.Goals as goal

pub loop-byte-preserved : goal.loop-byte-preserved
loop-byte-preserved c =
    let so-far = c.loop-byte.invariant in
    meant-more c.args.self.now.bytes c.loop-byte.byte-items c.loop-byte.byte-index c.meant_byte.result so-far.0 (omega arith) so-far.1 so-far.2 c.meant_byte.ensures

pub returns : goal.returns
returns c =
    let done = c.loop-byte.invariant in
    name-front c.args.self.now c.loop-byte.byte-items (omega arith) (λ i l. done.1 i (omega arith))
