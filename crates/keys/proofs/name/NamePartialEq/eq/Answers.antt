use Rattle.std.proofs.Common.{ℕ, nat_eq, sym, ◌∙◌, take, rules, tests, arith}
use Rattle.std.proofs.lemmas.Iterator.{YieldsList-from_slice, YieldsList-from_zip}
use Rattle.std.proofs.lemmas.Iterator.Search.{all_from_yields_List}
use Rattle.keys.specs.Names.{name_byte}
use Rattle.keys.proofs.Names.{apart-by-length, same_name}
use Rattle.keys.proofs.name.NamePartialEq.eq.Goals as goal

pub returns-then-len-meant_len : goal.returns-then-len-meant_len
returns-then-len-meant_len c = sym (apart-by-length c.args.self.now c.args.other.now (λ e. c.if-len-meant_len.true (omega (arith, e))))

pub returns : goal.returns
returns c =
    let a = c.args.self.now in
    let b = c.args.other.now in
    let n : ℕ = c.meant_len-len.result in
    let all = all_from_yields_List (λ p. nat_eq (name_byte p.0) (name_byte p.1)) c.all.new.self _ c.all.result c.all.ensures.ran (YieldsList-from_zip (YieldsList-from_slice (take n a.bytes) cc) (YieldsList-from_slice (take n b.bytes) cc)) (λ x r q k. search (rules, tests)) in
    all ∙ same_name a b n (omega arith) (omega arith) (omega arith) (omega arith)
