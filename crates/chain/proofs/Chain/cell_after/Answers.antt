use Rattle.std.proofs.Common.{arith}
use Rattle.chain.proofs.Cells.{beyond-there}
use Rattle.chain.proofs.Sounds.{runs_to, sound-chain}
use Rattle.chain.proofs.Chain.cell_after.Goals as goal

pub walk-requires : goal.walk-requires
walk-requires g c = runs_to (sound-chain c.args.self.now) c.args.steps (omega arith)

pub returns-clause-there : goal.returns-clause-there
returns-clause-there g c =
    let chain = c.args.self.now in
    beyond-there chain.cells.now c.args.steps _ chain.head c.walk.result c.requires chain.runs c.walk.ensures
