use Rattle.std.proofs.Common.{◌≡◌, ◌≤◌, true, length}
use Rattle.lines.specs.Orders.{may_bring_forward, brought_forward}
use Rattle.lines.proofs.Line.bring_forward.Given as goal

-- the key has come from `from` to `place`
abbrev pub invariant-loop-place : goal.invariant-loop-place
invariant-loop-place g l =
    let line = g.Self.Line in
    (may_bring_forward l.from l.to (length (line.keys l.initial.self)) ≡ true)
    × (l.to ≤ l.place) × (l.place ≤ l.from)
    × (line.limit l.self ≡ line.limit l.initial.self)
    × (length (line.keys l.self) ≡ length (line.keys l.initial.self))
    × (line.keys l.self ≡ brought_forward l.from l.place (line.keys l.initial.self))
