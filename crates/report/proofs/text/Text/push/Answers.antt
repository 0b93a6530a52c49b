use Rattle.std.proofs.Common.{refl, rules, arith}
use Rattle.std.proofs.lemmas.Slice.{overwrites}
use Rattle.report.proofs.text.Text.push.Goals as goal

pub returns : goal.returns
returns c = record {
  text = search (rules, overwrites);
  len = refl;
  kept = record { grown = omega arith; behind = search (rules, overwrites); size = search (rules, overwrites); same_buffer = refl };
}
