use Rattle.std.proofs.Common.{◌≡◌, ℕ, ◌<◌, ◌≤◌, length, slice_index}
use Rattle.keys.specs.Names.{name_byte}
use Rattle.keys.proofs.name.Name.meant_bytes.Given as goal

-- the bytes so far are as they mean, and the others as they were
abbrev pub invariant-loop-byte : goal.invariant-loop-byte
invariant-loop-byte l =
    (length l.byte-items ≡ 16) × ((k : ℕ) → k < l.byte-index → slice_index l.byte-items k ≡ name_byte (slice_index l.self.bytes k))
    × ((k : ℕ) → l.byte-index ≤ k → slice_index l.byte-items k ≡ slice_index l.self.bytes k)
