use Rattle.std.proofs.Common.{Some, None, sym, ◌∙◌, rules}
use Rattle.std.proofs.lemmas.Iterator.{YieldsList-from_slice}
use Rattle.std.proofs.lemmas.Iterator.Search.{position_from_yields_List}
use Rattle.std.proofs.lemmas.Iterator.Adapters.{position_from-zero}
use Rattle.row.proofs.Cells.{place-from_position}
use Rattle.row.proofs.search.Goals as goal

pub returns-in_err-at : goal.returns-in_err-at
returns-in_err-at g c =
    let key = g.K.Key in
    let v = key.value c.args.key.now in
    let found = position_from_yields_List (λ k. key.equal v (key.value k)) _ _ _ c.position.ensures.ran (YieldsList-from_slice c.args.keys.now c.iter.ensures.rest) (λ x b q k. search (rules, g.met.K.Key.alike))
    ∙ position_from-zero (λ k. key.equal v (key.value k)) c.args.keys.now in
    c.from_residual.ensures ∙ place-from_position key.equal key.value v c.args.keys.now None (sym found ∙ c.in_err-at.was)

pub returns : goal.returns
returns g c =
    let key = g.K.Key in
    let v = key.value c.args.key.now in
    let found = position_from_yields_List (λ k. key.equal v (key.value k)) _ _ _ c.position.ensures.ran (YieldsList-from_slice c.args.keys.now c.iter.ensures.rest) (λ x b q k. search (rules, g.met.K.Key.alike))
    ∙ position_from-zero (λ k. key.equal v (key.value k)) c.args.keys.now in
    place-from_position key.equal key.value v c.args.keys.now (Some c.in_ok-at.at) (sym found ∙ c.in_ok-at.was)
