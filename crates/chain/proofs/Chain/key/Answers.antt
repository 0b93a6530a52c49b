use Rattle.std.proofs.Common.{◌≡◌, suc, ◌-◌, Ok, sym, ap, ◌∙◌, arith}
use Rattle.chain.proofs.Sounds.{sound-chain, key_at-chained}
use Rattle.chain.proofs.Chain.key.Goals as goal

pub returns : goal.returns
returns g c =
    let next : suc (c.args.place - 1) ≡ c.args.place = omega arith in
    ap (λ x. Ok x.key) (sym c.index-self-cell_after.is)
    ∙ sym (rw next at (key_at-chained (sound-chain c.args.self.now) (c.args.place - 1) c.cell_after.result c.index-self-cell_after.result (omega arith) c.cell_after.ensures.beyond c.index-self-cell_after.is))
