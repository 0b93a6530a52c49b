use Rattle.std.proofs.Common.{◌≡◌, ◌<◌, length, sym, ◌∙◌, rules, arith}
use Rattle.chain.specs.Ways.{way}
use Rattle.chain.specs.Chains.{keys_in, nexts_in, room}
use Rattle.chain.proofs.Back.{runs-before, runs-passed, moved-there, passed-run, before-run, way-moved}
use Rattle.chain.proofs.Cells.{next-at}
use Rattle.chain.proofs.Orders.{moved_back-none}
use Rattle.chain.proofs.move_back.Goals as goal

pub returns-then-by-eq0-clause-way : goal.returns-then-by-eq0-clause-way
returns-then-by-eq0-clause-way g c = let cells = c.args.cells.now in let zero : c.args.by ≡ 0 = omega arith in rw zero (sym (moved_back-none c.args.place (way (nexts_in cells) c.args.head (room cells))))

pub walk-moved-requires : goal.walk-moved-requires
walk-moved-requires g c = runs-before c.args.place c.args.by c.requires.whole c.requires.range

inside : goal.bounds-cells-moved
inside g c = moved-there c.args.place c.args.by c.requires.whole c.requires.range c.walk-moved.ensures

pub offset_bounds-cells-moved : goal.offset_bounds-cells-moved
offset_bounds-cells-moved g c = let l : c.walk-moved.result < length c.args.cells.now = inside g c in search rules

pub bounds-cells-moved : goal.bounds-cells-moved
bounds-cells-moved = inside

pub bounds-cells-moved-else-by-eq0 : goal.bounds-cells-moved-else-by-eq0
bounds-cells-moved-else-by-eq0 g c = moved-there c.args.place c.args.by c.requires.whole c.requires.range c.walk-moved.ensures

pub walk-behind-requires : goal.walk-behind-requires
walk-behind-requires g c =
    let there = moved-there c.args.place c.args.by c.requires.whole c.requires.range c.walk-moved.ensures in
    let after = next-at c.args.cells.now c.walk-moved.result c.index-cells-moved.result there in
    runs-passed c.args.place c.args.by c.requires.whole c.requires.range c.walk-moved.ensures after

pub point-requires : goal.point-requires
point-requires g c = moved-there c.args.place c.args.by c.requires.whole c.requires.range c.walk-moved.ensures

pub redirect-after-requires : goal.redirect-after-requires
redirect-after-requires g c =
    let there = moved-there c.args.place c.args.by c.requires.whole c.requires.range c.walk-moved.ensures in
    let after = next-at c.args.cells.now c.walk-moved.result c.index-cells-moved.result there in
    passed-run c.args.place c.args.by c.requires.whole c.requires.range c.walk-moved.ensures after c.walk-behind.ensures c.point.ensures.nexts

pub redirect-requires : goal.redirect-requires
redirect-requires g c =
    let there = moved-there c.args.place c.args.by c.requires.whole c.requires.range c.walk-moved.ensures in
    let after = next-at c.args.cells.now c.walk-moved.result c.index-cells-moved.result there in
    before-run c.args.place c.args.by c.requires.whole c.requires.range c.walk-moved.ensures after c.walk-behind.ensures c.point.ensures.nexts c.redirect-after.ensures.nexts

pub returns : goal.returns
returns g c =
    let there = moved-there c.args.place c.args.by c.requires.whole c.requires.range c.walk-moved.ensures in
    let after = next-at c.args.cells.now c.walk-moved.result c.index-cells-moved.result there in
    let keys : keys_in c.redirect.new.cells ≡ keys_in c.args.cells.now = c.redirect.ensures.keys ∙ c.redirect-after.ensures.keys ∙ c.point.ensures.keys in
    record {
      keys = keys;
      way = way-moved c.args.place c.args.by c.requires.whole c.requires.range c.walk-moved.ensures after c.walk-behind.ensures c.point.ensures.nexts c.redirect-after.ensures.nexts c.redirect.new.cells c.redirect.result keys c.redirect.ensures.nexts;
    }
