-- What a write to one field of a cell leaves in both lists of fields.
use Rattle.std.proofs.Common.{◌≡◌, ℕ, ◌+◌, ◌<◌, List, length, get_or, set, refl}
use Rattle.std.proofs.Math.Seq.{map-set_same}
use Rattle.std.proofs.lemmas.List.{map-set}
use Rattle.std.proofs.lemmas.List.Edits.{fill_by_more}
use Rattle.chain.specs.declared.Cell.{Cell}
use Rattle.chain.specs.Chains.{keys_in, nexts_in}
use Rattle.chain.proofs.Cells.{length-nexts}

module _ {K : Type 0} (cells : List (Cell K)) (i : ℕ) where
  pub keys-pointed : (to : ℕ) (d : Cell K) → keys_in (set cells i (record { key = (get_or cells i d).key; next = to })) ≡ keys_in cells
  keys-pointed to d = map-set_same (λ c. c.key) cells i _ d refl

  pub nexts-pointed : (k : K) (to : ℕ) → nexts_in (set cells i (record { key = k; next = to })) ≡ set (nexts_in cells) i to
  nexts-pointed k to = map-set (λ c. c.next) cells i _

  pub keys-put : (k : K) (to : ℕ) → keys_in (set cells i (record { key = k; next = to })) ≡ set (keys_in cells) i k
  keys-put k to = map-set (λ c. c.key) cells i _

  pub nexts-put : (k : K) (d : Cell K) → nexts_in (set cells i (record { key = k; next = (get_or cells i d).next })) ≡ nexts_in cells
  nexts-put k d = map-set_same (λ c. c.next) cells i _ d refl

-- a loop that links cell after cell
pub linked-more : (nexts : List ℕ) (i : ℕ) → i < length nexts → ((k : ℕ) → k < i → get_or nexts k 0 ≡ k + 1) → (k : ℕ) → k < i + 1 → get_or (set nexts i (i + 1)) k 0 ≡ k + 1
linked-more nexts i = fill_by_more (λ k. k + 1) nexts i 0

pub ruleset writes = (keys-pointed, nexts-pointed, keys-put, nexts-put, length-nexts, linked-more)
