-- The length of an item, and items behind one another.
use Rattle.std.proofs.Common.{◌≡◌, ℕ, ◌+◌, List, [], ◌∷◌, ◌++◌, length, append_assoc, arith}
use Rattle.std.proofs.lemmas.List.{length-append}
use Rattle.report.specs.Lines.{item}

pub length_item : (word value : List ℕ) (last : ℕ) → length (item word value last) ≡ length word + length value + 2
unfolding item
length_item word value last = simp length-append (omega arith)

pub ruleset behind = (append_assoc, length-append)
