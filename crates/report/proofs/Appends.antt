-- Texts put behind one another.
use Rattle.std.proofs.Common.{◌≡◌, ◌+◌, ◌-◌, arith}
use Rattle.std.proofs.lemmas.List.{drop-drop}
use Rattle.report.specs.declared.text.Text.{Text}
use Rattle.report.specs.Texts.{Kept}

-- what is kept twice is kept
pub kept_both : {a b c : Text} → Kept a b → Kept b c → Kept a c
kept_both {a = a} {b = b} {c = c} one more =
    let from : b.len + (c.len - b.len) ≡ c.len = omega (arith, more.grown) in
    let before = drop-drop (c.len - b.len) b.len b.buffer.now in
    let after = drop-drop (c.len - b.len) b.len a.buffer.now in
    record { grown = omega (arith, one.grown, more.grown); behind = cc; size = cc; same_buffer = cc }
