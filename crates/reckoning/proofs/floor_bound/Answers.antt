use Rattle.reckoning.proofs.Bound.{floor-law}
use Rattle.reckoning.proofs.floor_bound.Goals as goal

pub returns : goal.returns
returns g c = floor-law g.K.Key.equal g.met.K.Key.decides
