use Rattle.std.proofs.Common.{refl}
use Rattle.reckoning.specs.Reckoning.{start, close}
use Rattle.bench.proofs.Calls.{done-call}
use Rattle.bench.proofs.effect.kept.Goals as goal

pub returns : goal.returns
returns g c = record {
  starts = done-call g.K.Key g.H.Line g.R.Line g.met.K.Key.decides start c.args.house.now c.args.rival.now c.args.ledger c.args.house.now c.args.rival.now c.args.ledger refl refl refl refl;
  closes = done-call g.K.Key g.H.Line g.R.Line g.met.K.Key.decides close c.args.house.now c.args.rival.now c.args.ledger c.args.house.now c.args.rival.now c.args.ledger refl refl refl refl;
}
