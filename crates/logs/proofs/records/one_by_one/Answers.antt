use Rattle.std.proofs.Common.{refl}
use Rattle.logs.specs.Pages.{requested_by}
use Rattle.logs.proofs.Whole.{page-next, plan-next}
use Rattle.logs.proofs.records.one_by_one.Goals as goal

pub returns : goal.returns
returns g c = record {
  pages = λ requested bytes left answer e. page-next g.K.Key.reading requested (requested_by requested answer) bytes left answer e refl;
  plans = plan-next;
}
