use Rattle.std.proofs.Common.{◌≡◌, ℕ, ◌+◌, ◌<◌, ◌≤◌, ◌++◌, length, get_or, drop, refl, ap, ◌∙◌, arith, length-append, length-drop}
use Rattle.std.proofs.lemmas.List.{map-append, get_or_append_left, length-take-le}
use Rattle.chain.specs.Chains.{nexts_in, room}
use Rattle.chain.proofs.Cells.{length-nexts}
use Rattle.chain.proofs.Linked.{runs-linked, apart-linked}
use Rattle.chain.proofs.Chain.new.Goals as goal

pub invariant_of-result : goal.invariant_of-result
invariant_of-result g c =
    let n = c.used-limit.result in
    let rest = drop n c.args.cells.now in
    let cells = c.link.new.cells ++ rest in
    let front : length c.link.new.cells ≡ n = omega (arith, c.link.auto.cells, length-take-le n c.args.cells.now (omega arith)) in
    let same : length cells ≡ length c.args.cells.now = omega (arith, length-append c.link.new.cells rest, length-drop n c.args.cells.now) in
    let within : room cells ≤ length (nexts_in cells) = omega (arith, length-nexts cells) in
    let nexts : (k : ℕ) → k < room cells → get_or (nexts_in cells) k 0 ≡ k + 1 =
    λ k h. ap (λ ns. get_or ns k 0) (map-append (λ x. x.next) c.link.new.cells rest)
    ∙ get_or_append_left (nexts_in c.link.new.cells) (nexts_in rest) 0 k (omega (arith, length-nexts c.link.new.cells))
    ∙ c.link.ensures.nexts k (omega (arith, length-take-le n c.args.cells.now (omega arith)))
    in
    record {
      runs = runs-linked (room cells) (nexts_in cells) within nexts;
      apart = apart-linked (room cells) (nexts_in cells) within nexts;
      within = omega arith;
      counted = refl;
      differ = λ v. omega arith;
    }
