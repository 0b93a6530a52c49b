use Rattle.std.proofs.Common.{rules, tests, arith}
use Rattle.std.proofs.lemmas.Iterator.{YieldsList-from_slice}
use Rattle.std.proofs.lemmas.Iterator.Search.{all_from_yields_List}
use Rattle.keys.specs.Names.{in_alphabet}
use Rattle.keys.proofs.name.spells_name.Goals as goal

pub returns-then-fits_name : goal.returns-then-fits_name
returns-then-fits_name c =
    let all = all_from_yields_List in_alphabet _ _ c.all.result c.all.ensures.ran (YieldsList-from_slice c.args.spelled.now cc) (λ x b q k. search (rules, tests)) in
    grind arith
