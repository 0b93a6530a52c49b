-- A cell that was read, and one written over it.
use Rattle.std.proofs.Common.{◌≡◌, ℕ, suc, ◌+◌, ◌-◌, ◌<◌, min, List, length, get_or, sym, refl, ap, ◌∙◌, arith}
use Rattle.std.proofs.lemmas.List.{get_or-map, length-map}
use Rattle.chain.specs.declared.Cell.{Cell}
use Rattle.chain.specs.Ways.{beyond}
use Rattle.chain.specs.Chains.{keys_in, nexts_in, room}
use Rattle.chain.proofs.Segments.{Runs, way-there, way-rest, way-rear}

module _ {K : Type 0} (cells : List (Cell K)) where
  pub length-nexts : length (nexts_in cells) ≡ length cells
  length-nexts = length-map cells (λ c. c.next)

  pub length-keys : length (keys_in cells) ≡ length cells
  length-keys = length-map cells (λ c. c.key)

  -- cells with the same keys are as many
  pub same-room : (others : List (Cell K)) → keys_in others ≡ keys_in cells → room others ≡ room cells
  same-room others e = ap (min 256) (sym (length-map others (λ c. c.key)) ∙ ap length e ∙ length-keys)

  -- the next of the cell at a place, read of it as it stands there, and copied
  pub next-at : (i : ℕ) (d : Cell K) → i < length cells → (get_or cells i d).next ≡ get_or (nexts_in cells) i 0
  next-at i d l = sym (get_or-map (λ c. c.next) cells i d 0 l)

  pub read_next : (i : ℕ) (cell : Cell K) → cell ≡ get_or cells i cell → i < length cells → cell.next ≡ get_or (nexts_in cells) i 0
  read_next i cell read l = ap (λ c. c.next) read ∙ next-at i cell l

  -- one step of a walk
  pub walk-there : (here r n : ℕ) → r ≡ suc n → Runs (nexts_in cells) here r → here < length cells
  walk-there here r n e h = let i = way-there (nexts_in cells) here n (rw e at h) in omega (arith, length-nexts)

  pub walk-on : (here r n end next : ℕ) → r ≡ suc n → next ≡ get_or (nexts_in cells) here 0 → Runs (nexts_in cells) here r × (beyond (nexts_in cells) here r ≡ end) → Runs (nexts_in cells) next n × (beyond (nexts_in cells) next n ≡ end)
  walk-on here r n end next e is h = rw is (way-rest (nexts_in cells) here n (rw e at h.0), rw e at h.1)

  -- the cell that a walk leads to
  pub beyond-there : (m n head here : ℕ) → m < n → Runs (nexts_in cells) head n → here ≡ beyond (nexts_in cells) head m → here < length cells
  beyond-there m n head here l h e =
      let sum : m + suc (n - suc m) ≡ n = omega arith in
      rw e (walk-there (beyond (nexts_in cells) head m) (suc (n - suc m)) (n - suc m) refl (way-rear m (suc (n - suc m)) n (nexts_in cells) head sum h))
