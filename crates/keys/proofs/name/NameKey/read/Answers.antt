use Rattle.std.proofs.Common.{◌≡◌, ◌≤◌, true, length, sym, ap, ◌∙◌, arith}
use Rattle.std.proofs.lemmas.Bool.Decides.{nat_tests}
use Rattle.keys.specs.Names.{spells_name}
use Rattle.keys.specs.Spelling.{read_as}
use Rattle.keys.proofs.Names.{name-read}
use Rattle.keys.proofs.name.NameKey.read.Goals as goal

pub returns : goal.returns
returns c =
    let s = c.args.spelled.now in
    let spells : spells_name s ≡ true = sym c.spells_name.ensures ∙ c.if-not-spells_name.false in
    let few : length s ≤ 16 = grind (arith, nat_tests) in
    let room : length s ≤ length c.loop-at.bytes = omega arith in
    sym (ap read_as (name-read s c.loop-at.bytes spells room (λ i l. c.loop-at.invariant.1 i (omega arith))))
