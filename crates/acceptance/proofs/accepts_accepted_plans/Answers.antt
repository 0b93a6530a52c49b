use Rattle.acceptance.proofs.Acceptance.{accepted-judged, judged-accepted}
use Rattle.acceptance.proofs.accepts_accepted_plans.Goals as goal

pub returns : goal.returns
returns g c = record {
  accepts = accepted-judged g.K.Key.equal g.K.Key.reading g.K.Key.LETTER;
  accepted = judged-accepted g.K.Key.equal g.K.Key.reading g.K.Key.LETTER;
}
