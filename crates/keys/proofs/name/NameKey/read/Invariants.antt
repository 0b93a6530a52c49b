use Rattle.std.proofs.Common.{◌≡◌, ℕ, ◌<◌, length, slice_index}
use Rattle.std.specs.Char.{to_ascii_lowercase}
use Rattle.keys.proofs.name.NameKey.read.Given as goal

-- the bytes so far stand small in the record
abbrev pub invariant-loop-at : goal.invariant-loop-at
invariant-loop-at l = (length l.bytes ≡ 16) × ((k : ℕ) → k < l.at → slice_index l.bytes k ≡ to_ascii_lowercase (slice_index l.spelled k))
