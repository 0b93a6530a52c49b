use Rattle.reckoning.proofs.Bound.{twice-law}
use Rattle.reckoning.proofs.twice_bound.Goals as goal

pub returns : goal.returns
returns g c = twice-law g.K.Key.equal g.met.K.Key.decides
