use Rattle.std.proofs.Common.{rules, ◌<◌, length, arith}
use Rattle.std.proofs.lemmas.Bool.Decides.{nat_tests}
use Rattle.std.proofs.lemmas.Iterator.{cases_from_all, YieldsList-from_slice}
use Rattle.std.specs.Int.{IsInRange}
use borrow.Author.Tests.{tests}
use Rattle.script.proofs.Numbers.{numeral_told}
use Rattle.script.proofs.words.is_numeral.Goals as goal

pub returns-then-not-is_empty : goal.returns-then-not-is_empty
returns-then-not-is_empty c =
    let some : 0 < length c.args.word.now = grind (arith, nat_tests) in
    let told = cases_from_all _ _ _ (IsInRange 48 57) (λ x. ¬ (IsInRange 48 57 x)) c.all.ensures.ran (YieldsList-from_slice c.args.word.now cc) (λ x q k. search (rules, tests)) (λ x q k. search (rules, tests)) in
    numeral_told c.args.word.now _ some told
