-- What a sound chain's calls rely on, and what they leave.
use Rattle.std.proofs.Common.{◌≡◌, ℕ, suc, ◌+◌, ◌-◌, ◌<◌, ◌≤◌, min, Bool, false, eqb, List, [], ◌∷◌, ◌++◌, map, length, get_or, take, set, Ok, Decides, sym, ap, ◌∙◌, subst, arith}
use Rattle.std.specs.List.{AllByRecursion}
use Rattle.std.proofs.lemmas.List.{take_all}
use Rattle.lines.specs.Orders.{key_at, taken_out}
use Rattle.lines.specs.Places.{occurrences, stands, Different}
use Rattle.lines.proofs.Kept.{different-taken_out, different-appended}
use Rattle.chain.specs.declared.Cell.{Cell}
use Rattle.chain.specs.declared.Chain.{Chain}
use Rattle.chain.specs.Ways.{way, beyond, picked, moved_back}
use Rattle.chain.specs.Chains.{keys_in, nexts_in, room, chained, Whole}
use Rattle.chain.proofs.Segments.{Runs, way-front, way_parts, way_step, way-take, leads-from-way, leads-within}
use Rattle.chain.proofs.Moves.{apart-front}
use Rattle.chain.proofs.Orders.{length-moved_back, occurrences-moved_back, map-moved_back, front-moved_back, take-moved_back, key_at-at}
use Rattle.chain.proofs.Picked.{picked-append, picked-take, length-picked, picked-moved_back, picked-set-other, one_set}
use Rattle.chain.proofs.Cells.{length-nexts, length-keys, same-room, beyond-there}
use Rattle.chain.proofs.Found.{read-key}

-- the way is whole, and the keys of its first `count` cells differ
pub record Sound {K V : Type 0} (equal : V → V → Bool) (value : K → V) (cells : List (Cell K)) (head count : ℕ) : Type 0 where
  pub whole : Whole cells head
  pub within : count ≤ room cells
  pub counted : length (chained cells head count) ≡ count
  pub differ : Different equal (map value (chained cells head count))

-- as of each chain
pub sound-chain : {K : Type 0} {kind : _} {same : _} (chain : Chain K kind same) → Sound kind.equal kind.value chain.cells.now chain.head chain.count
sound-chain chain = record { whole = record { runs = chain.runs; apart = chain.apart }; within = chain.within; counted = chain.counted; differ = chain.differ }

-- a way over the same cells in another order
whole_from : {K : Type 0} (cells others : List (Cell K)) (head head' : ℕ) → room others ≡ room cells → length (way (nexts_in others) head' (room others)) ≡ length (way (nexts_in cells) head (room cells)) → ((v : ℕ) → occurrences eqb v (way (nexts_in others) head' (room others)) ≡ occurrences eqb v (way (nexts_in cells) head (room cells))) → Whole cells head → Whole others head'
whole_from cells others head head' r l o w = record { runs = l ∙ w.runs ∙ sym r; apart = λ v. rw (o v) (w.apart v) }

-- what is picked along a way that runs
picked-within : {K : Type 0} (cells : List (Cell K)) (head n : ℕ) → Runs (nexts_in cells) head n → AllByRecursion (λ w. w < length (keys_in cells)) (way (nexts_in cells) head n)
picked-within cells head n h =
    let e : length (keys_in cells) ≡ length (nexts_in cells) = length-keys cells ∙ sym (length-nexts cells) in
    rw e (leads-within (way (nexts_in cells) head n) (nexts_in cells) head (beyond (nexts_in cells) head n) (leads-from-way n (nexts_in cells) head h))

length_run : {K : Type 0} (cells : List (Cell K)) (head n : ℕ) → Runs (nexts_in cells) head n → length (chained cells head n) ≡ n
length_run cells head n h = length-picked (keys_in cells) (way (nexts_in cells) head n) (picked-within cells head n h) ∙ h

-- the keys of a shorter way
chained-front : {K : Type 0} (cells : List (Cell K)) (head m n : ℕ) → m ≤ n → Runs (nexts_in cells) head n → chained cells head m ≡ take m (chained cells head n)
chained-front cells head m n l h = ap (picked (keys_in cells)) (way-take m n (nexts_in cells) head l) ∙ picked-take m (keys_in cells) (way (nexts_in cells) head n) (picked-within cells head n h)

-- the front of a whole way
pub runs-front : {K : Type 0} {cells : List (Cell K)} {head : ℕ} → Whole cells head → (n : ℕ) → n ≤ room cells → Runs (nexts_in cells) head n
runs-front {cells = cells} {head = head} w n l = way-front n (room cells - n) (room cells) (nexts_in cells) head (omega arith) w.runs

-- a whole way whose first keys differ
sound-from : {K V : Type 0} (equal : V → V → Bool) (value : K → V) (cells : List (Cell K)) (head n : ℕ) → Whole cells head → n ≤ room cells → Different equal (map value (chained cells head n)) → Sound equal value cells head n
sound-from equal value cells head n w l d = record {
  whole = w;
  within = l;
  counted = length_run cells head n (runs-front w n l);
  differ = d;
}

module _ {K V : Type 0} {equal : V → V → Bool} {value : K → V} {cells : List (Cell K)} {head count : ℕ} (s : Sound equal value cells head count) where
  pub runs_to : (n : ℕ) → n ≤ room cells → Runs (nexts_in cells) head n
  runs_to n l = runs-front s.whole n l

  pub key_at-chained : (m here : ℕ) (cell : Cell K) → m < count → here ≡ beyond (nexts_in cells) head m → cell ≡ get_or cells here cell → key_at (suc m) (chained cells head count) ≡ Ok cell.key
  key_at-chained m here cell l e read =
      let nexts : List ℕ = nexts_in cells in
      let keys : List K = keys_in cells in
      let w : count ≤ room cells = s.within in
      let there : here < length cells = beyond-there cells m count head here l (runs_to count w) e in
      let n : here < length nexts = omega (arith, length-nexts cells) in
      let rest : List ℕ = way nexts (get_or nexts here 0) (count - suc m) in
      let parts : way nexts head count ≡ way nexts head m ++ here ∷ rest =
      way_parts m (suc (count - suc m)) count nexts head (omega arith) (runs_to count w) ∙ ap (λ i. way nexts head m ++ way nexts i (suc (count - suc m))) (sym e)
      ∙ ap (λ ws. way nexts head m ++ ws) (way_step nexts here (count - suc m) n)
      in
      let all : chained cells head count ≡ chained cells head m ++ cell.key ∷ picked keys rest =
      ap (picked keys) parts ∙ picked-append keys (way nexts head m) (here ∷ rest) ∙ ap (λ ks. chained cells head m ++ (ks ++ picked keys rest)) (read-key cells here cell read there)
      in
      let before : suc m ≡ suc (length (chained cells head m)) = ap suc (sym (length_run cells head m (runs_to m (omega arith)))) in
      rw all (ap (λ i. key_at i (chained cells head m ++ cell.key ∷ picked keys rest)) before ∙ key_at-at (chained cells head m) (picked keys rest) cell.key)

  -- a cell has moved back
  module _ (others : List (Cell K)) (head' p by : ℕ) (keys : keys_in others ≡ keys_in cells) (ways : way (nexts_in others) head' (room others) ≡ moved_back p by (way (nexts_in cells) head (room cells))) where
    whole-moved : Whole others head'
    whole-moved =
        let ws : List ℕ = way (nexts_in cells) head (room cells) in
        whole_from cells others head head' (same-room cells others keys) (ap length ways ∙ length-moved_back p by ws) (λ v. ap (occurrences eqb v) ways ∙ occurrences-moved_back eqb v p by ws) s.whole

    module _ (inside : p + by ≤ count) where
      pub chained-moved : chained others head' count ≡ moved_back p by (chained cells head count)
      chained-moved =
          let w : count ≤ room cells = s.within in
          let r : room others ≡ room cells = same-room cells others keys in
          let ws : List ℕ = way (nexts_in cells) head (room cells) in
          let front : way (nexts_in others) head' count ≡ moved_back p by (way (nexts_in cells) head count) =
          way-take count (room others) (nexts_in others) head' (omega arith) ∙ ap (take count) ways ∙ front-moved_back p by count ws inside
          ∙ ap (moved_back p by) (sym (way-take count (room cells) (nexts_in cells) head w))
          in
          ap (λ ks. picked ks (way (nexts_in others) head' count)) keys ∙ ap (picked (keys_in cells)) front
          ∙ picked-moved_back p by (keys_in cells) (way (nexts_in cells) head count) (picked-within cells head count (runs_to count w))

      pub sound-moved : Sound equal value others head' count
      sound-moved =
          let w : count ≤ room cells = s.within in
          let r : room others ≡ room cells = same-room cells others keys in
          sound-from equal value others head' count whole-moved (omega arith) (
          λ v. rw (chained-moved, map-moved_back value p by (chained cells head count), occurrences-moved_back equal v p by (map value (chained cells head count))) (s.differ v)
          )

    -- and is the last one now, so that the others are the keys without it
    module _ (m : ℕ) (low : 1 ≤ p) (last : p + by ≡ suc m) (less : suc m ≡ count) where
      runs-others : (n : ℕ) → n ≤ count → Runs (nexts_in others) head' n
      runs-others n l =
          let w : count ≤ room cells = s.within in
          let r : room others ≡ room cells = same-room cells others keys in
          runs-front whole-moved n (omega arith)

      pub counted-taken : length (chained others head' m) ≡ m
      counted-taken = length_run others head' m (runs-others m (omega arith))

      pub chained-taken : chained others head' m ≡ taken_out p (chained cells head count)
      chained-taken =
          let n : length (chained cells head count) ≡ count = s.counted in
          chained-front others head' m count (omega arith) (runs-others count (omega arith)) ∙ ap (take m) (chained-moved (omega arith))
          ∙ take-moved_back p by m (chained cells head count) low last (omega arith) ∙ ap (taken_out p) (take_all (suc m) (chained cells head count) (omega arith))

      pub differ-taken : Different equal (map value (chained others head' m))
      differ-taken = rw chained-taken (different-taken_out equal value p (chained cells head count) s.differ)

  -- a key was written into the first free cell
  module _ (others : List (Cell K)) (key : K) {free more : ℕ} (is-more : more ≡ suc count) (room-left : count < room cells) (is_free : free ≡ beyond (nexts_in cells) head count) (keys : keys_in others ≡ set (keys_in cells) free key) (nexts : nexts_in others ≡ nexts_in cells) where
    pub room-appended : room others ≡ room cells
    room-appended = ap (min 256) (sym (length-nexts others) ∙ ap length nexts ∙ length-nexts cells)

    -- as the way goes on
    way-on : way (nexts_in cells) head (room cells) ≡ way (nexts_in cells) head count ++ free ∷ way (nexts_in cells) (get_or (nexts_in cells) free 0) (room cells - suc count)
    way-on =
        let past : ℕ = room cells - suc count in
        let there : free < length cells = beyond-there cells count (room cells) head free room-left s.whole.runs is_free in
        let n : free < length (nexts_in cells) = omega (arith, length-nexts cells) in
        way_parts count (suc past) (room cells) (nexts_in cells) head (omega arith) s.whole.runs ∙ ap (λ i. way (nexts_in cells) head count ++ way (nexts_in cells) i (suc past)) (sym is_free)
        ∙ ap (λ vs. way (nexts_in cells) head count ++ vs) (way_step (nexts_in cells) free past n)

    -- the keys stay
    pub chained-kept : chained others head count ≡ chained cells head count
    chained-kept =
        let ws : List ℕ = way (nexts_in cells) head count in
        let rest : List ℕ = way (nexts_in cells) (get_or (nexts_in cells) free 0) (room cells - suc count) in
        ap (λ ns. picked (keys_in others) (way ns head count)) nexts ∙ ap (λ ks. picked ks ws) keys
        ∙ picked-set-other (keys_in cells) free key ws (apart-front ws rest free (subst (Different eqb) way-on s.whole.apart))

    pub chained-appended : chained others head more ≡ chained cells head count ++ key ∷ []
    chained-appended =
        let ws : List ℕ = way (nexts_in cells) head count in
        let there : free < length cells = beyond-there cells count (room cells) head free room-left s.whole.runs is_free in
        let n : free < length (nexts_in cells) = omega (arith, length-nexts cells) in
        let k : free < length (keys_in cells) = omega (arith, length-keys cells) in
        let front : way (nexts_in cells) head (suc count) ≡ ws ++ free ∷ [] =
        way_parts count 1 (suc count) (nexts_in cells) head (omega arith) (runs_to (suc count) room-left) ∙ ap (λ i. ws ++ way (nexts_in cells) i 1) (sym is_free)
        ∙ ap (λ vs. ws ++ vs) (way_step (nexts_in cells) free 0 n)
        in
        let rest : List ℕ = way (nexts_in cells) (get_or (nexts_in cells) free 0) (room cells - suc count) in
        let absent : occurrences eqb free ws ≡ 0 = apart-front ws rest free (subst (Different eqb) way-on s.whole.apart) in
        ap (λ ns. picked (keys_in others) (way ns head more)) nexts ∙ ap (λ ks. picked ks (way (nexts_in cells) head more)) keys
        ∙ ap (λ i. picked (set (keys_in cells) free key) (way (nexts_in cells) head i)) is-more ∙ ap (picked (set (keys_in cells) free key)) front
        ∙ picked-append (set (keys_in cells) free key) ws (free ∷ [])
        ∙ ap (λ ks. ks ++ picked (set (keys_in cells) free key) (free ∷ [])) (picked-set-other (keys_in cells) free key ws absent)
        ∙ ap (λ ks. chained cells head count ++ (ks ++ [])) (one_set (keys_in cells) free key k)

    whole-kept : Whole others head
    whole-kept =
        let e : way (nexts_in others) head (room others) ≡ way (nexts_in cells) head (room cells) = ap (λ ns. way ns head (room others)) nexts ∙ ap (way (nexts_in cells) head) room-appended in
        whole_from cells others head head room-appended (ap length e) (λ v. ap (occurrences eqb v) e) s.whole

    pub sound-kept : Sound equal value others head count
    sound-kept = sound-from equal value others head count whole-kept (omega (arith, room-appended)) (rw chained-kept s.differ)

    pub differ-appended : ((v w : V) → Decides (equal v w) (v ≡ w)) → stands equal (value key) (map value (chained cells head count)) ≡ false → Different equal (map value (chained others head more))
    differ-appended decides h = rw chained-appended (different-appended equal value decides (chained cells head count) key s.differ h)
