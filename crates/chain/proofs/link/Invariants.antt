use Rattle.std.proofs.Common.{◌≡◌, ℕ, ◌+◌, ◌<◌, get_or}
use Rattle.chain.specs.Chains.{keys_in, nexts_in}
use Rattle.chain.proofs.link.Given as goal

-- the keys stay, and the cells so far point to those that follow them
abbrev pub invariant-loop-at : goal.invariant-loop-at
invariant-loop-at g l =
    (keys_in l.cells ≡ keys_in l.initial.cells) × ((k : ℕ) → k < l.at → get_or (nexts_in l.cells) k 0 ≡ k + 1)
