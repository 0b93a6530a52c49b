use Rattle.std.proofs.Common.{◌≡◌, [], Ok, sym, ap, ◌∙◌}
use Rattle.std.proofs.lemmas.List.{nil_from_length}
use Rattle.std.proofs.lemmas.Bool.{and_parts, eqb-true}
use Rattle.bench.proofs.standing.Loading.open.Goals as goal

pub returns : goal.returns
returns g c =
    let empty = and_parts _ _ (sym c.both_empty.ensures ∙ c.if-not-both_empty.false) in
    let none : g.H.Line.keys c.args.house.now ≡ [] = nil_from_length _ (eqb-true _ _ empty.0) in
    let nobody : g.R.Line.keys c.args.rival.now ≡ [] = nil_from_length _ (eqb-true _ _ empty.1) in
    rw (none, nobody) (ap (λ sums. Ok (record { house = []; rival = []; sums = sums })) c.zero.ensures)
