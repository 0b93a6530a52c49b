use Rattle.std.proofs.Common.{◌-◌, take, is_ok, vec_items, sym, ap, ◌∙◌, arith}
use Rattle.std.proofs.lemmas.List.{take_all}
use Rattle.script.proofs.Orders.{key_at-ok, key_behind}
use Rattle.script.proofs.spelled.keys_of.Goals as goal
use Rattle.script.proofs.spelled.keys_of.Goals.{else-loop-place-test, then-loop-place-test+in_ok-push+else-place-place-end}

pub unwrap-requires : goal.unwrap-requires
unwrap-requires g c = ap is_ok c.key_at.ensures ∙ key_at-ok c.loop-place.place (g.L.Line.keys c.args.line.now) (omega arith) (omega arith)

pub loop-place-preserved : goal.loop-place-preserved
loop-place-preserved g c =
    let keys = g.L.Line.keys c.args.line.now in
    c.in_ok-push.ensures.items
    ∙ key_behind c.loop-place.place keys (vec_items c.loop-place.keys) c.unwrap.result (omega arith) c.loop-place.invariant (sym c.key_at.ensures ∙ c.unwrap.ensures)
    ∙ ap (λ n. take n keys) (omega arith)

pub returns : goal.returns
returns g c =
    let keys = g.L.Line.keys c.args.line.now in
    elim c.loop-place-test.branch [
      | else-loop-place-test w ↦ ap vec_items w.keys-is ∙ c.loop-place.invariant ∙ take_all (c.loop-place.place - 1) keys (omega arith)
      | then-loop-place-test+in_ok-push+else-place-place-end w ↦
          ap vec_items w.keys-is
          ∙ w.in_ok-push.ensures.items
          ∙ key_behind c.loop-place.place keys (vec_items c.loop-place.keys) w.unwrap.result (omega arith) c.loop-place.invariant (sym w.key_at.ensures ∙ w.unwrap.ensures)
          ∙ take_all c.loop-place.place keys (omega arith)
    ]
