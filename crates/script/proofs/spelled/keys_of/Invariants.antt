use Rattle.std.proofs.Common.{◌≡◌, ◌-◌, take, vec_items}
use Rattle.script.proofs.spelled.keys_of.Given as goal

abbrev pub invariant-loop-place : goal.invariant-loop-place
invariant-loop-place g l = vec_items l.keys ≡ take (l.place - 1) (g.L.Line.keys l.line)
