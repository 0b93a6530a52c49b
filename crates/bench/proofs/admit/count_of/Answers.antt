use Rattle.std.proofs.Common.{sym, ◌∙◌, arith}
use lib.ListN.{length-map}
use Rattle.bench.proofs.Fitting.{few}
use Rattle.bench.proofs.admit.count_of.Goals as goal

pub returns : goal.returns
returns g c =
    record {
      value = c.count.ensures ∙ sym (length-map (g.L.Line.keys c.args.line.now) g.K.Key.value);
      bound = omega (arith, c.count.ensures, few g.L.Line g.met.L.Line.within g.met.L.Line.bounded c.args.line.now);
    }
