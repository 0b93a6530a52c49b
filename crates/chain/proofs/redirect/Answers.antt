use Rattle.std.proofs.Common.{◌≡◌, suc, ◌-◌, set, sym, ap, ◌∙◌, arith}
use Rattle.chain.specs.Ways.{redirected}
use Rattle.chain.specs.Chains.{nexts_in}
use Rattle.chain.proofs.Segments.{way-front}
use Rattle.chain.proofs.Cells.{beyond-there}
use Rattle.chain.proofs.redirect.Goals as goal

pub walk-before-requires : goal.walk-before-requires
walk-before-requires g c = way-front (c.args.steps - 1) 1 c.args.steps (nexts_in c.args.cells.now) c.args.head (omega arith) c.requires

pub point-requires : goal.point-requires
point-requires g c = beyond-there c.args.cells.now (c.args.steps - 1) c.args.steps c.args.head c.walk-before.result (omega arith) c.requires c.walk-before.ensures

pub returns : goal.returns
returns g c =
    let nexts = nexts_in c.args.cells.now in
    let some : c.args.steps ≡ suc (c.args.steps - 1) = omega arith in
    record {
      keys = c.point.ensures.keys;
      nexts =
          ap (λ n. redirected nexts c.args.head n c.args.to) some
          ∙ ap (λ b. (set nexts b c.args.to, c.args.head)) (sym c.walk-before.ensures)
          ∙ ap (λ ns. (ns, c.args.head)) (sym c.point.ensures.nexts);
    }
