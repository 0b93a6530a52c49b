-- A cell of a whole way is linked in again behind cells that follow it.
use Rattle.std.proofs.Common.{◌≡◌, ℕ, suc, ◌+◌, ◌-◌, ◌<◌, ◌≤◌, eqb, List, ◌∷◌, ◌++◌, length, get_or, set, sym, refl, ap, ◌∙◌, subst, arith}
use Rattle.std.proofs.lemmas.List.{length-append}
use Rattle.lines.specs.Places.{Different}
use Rattle.chain.specs.declared.Cell.{Cell}
use Rattle.chain.specs.Ways.{way, beyond, redirected, moved_back}
use Rattle.chain.specs.Chains.{keys_in, nexts_in, room, Whole}
use Rattle.chain.proofs.Segments.{Leads, Runs, way-there, way_step, way-rest, way-front, way-rear, way_parts, leads-from-way, way-from-leads, runs-from-leads}
use Rattle.chain.proofs.Moves.{passed-stay, before-stay-again, leads-moved}
use Rattle.chain.proofs.Orders.{moved_back-at}
use Rattle.chain.proofs.Cells.{length-nexts, same-room}

-- m cells stand before the cell, it passes j, and k more follow
module _ {K : Type 0} {cells : List (Cell K)} {head : ℕ} (place j : ℕ) (whole : Whole cells head) (range : (1 ≤ place) × (place + j ≤ room cells)) where
  abbrev nexts : List ℕ
  nexts = nexts_in cells

  abbrev m : ℕ
  m = place - 1

  abbrev k : ℕ
  k = room cells - (place + j)

  sum : m + suc (j + k) ≡ room cells
  sum = omega arith

  pub runs-before : Runs nexts head m
  runs-before = way-front m (suc (j + k)) (room cells) nexts head sum whole.runs

  module _ {moved : ℕ} (is-moved : moved ≡ beyond nexts head m) where
    runs_on : Runs nexts moved (suc (j + k))
    runs_on = rw is-moved (way-rear m (suc (j + k)) (room cells) nexts head sum whole.runs)

    nexts-there : moved < length nexts
    nexts-there = way-there nexts moved (j + k) runs_on

    pub moved-there : moved < length cells
    moved-there = let l = nexts-there in omega (arith, length-nexts cells)

    leads-before : Leads nexts head (way nexts head m) moved
    leads-before = rw is-moved (leads-from-way m nexts head runs-before)

    module _ {after : ℕ} (is-after : after ≡ get_or nexts moved 0) where
      runs_after : Runs nexts after (j + k)
      runs_after = rw is-after (way-rest nexts moved (j + k) runs_on)

      pub runs-passed : Runs nexts after j
      runs-passed = way-front j k (j + k) nexts after refl runs_after

      module _ {behind : ℕ} (is-behind : behind ≡ beyond nexts after j) where
        leads-passed : Leads nexts after (way nexts after j) behind
        leads-passed = rw is-behind (leads-from-way j nexts after runs-passed)

        runs-rest : Runs nexts behind k
        runs-rest = rw is-behind (way-rear j k (j + k) nexts after refl runs_after)

        all-parts : way nexts head (room cells) ≡ way nexts head m ++ moved ∷ (way nexts after j ++ way nexts behind k)
        all-parts =
            way_parts m (suc (j + k)) (room cells) nexts head sum whole.runs
            ∙ ap (λ i. way nexts head m ++ way nexts i (suc (j + k))) (sym is-moved)
            ∙ ap (λ ws. way nexts head m ++ ws) (way_step nexts moved (j + k) nexts-there)
            ∙ ap (λ i. way nexts head m ++ moved ∷ way nexts i (j + k)) (sym is-after)
            ∙ ap (λ ws. way nexts head m ++ moved ∷ ws) (way_parts j k (j + k) nexts after refl runs_after)
            ∙ ap (λ i. way nexts head m ++ moved ∷ (way nexts after j ++ way nexts i k)) (sym is-behind)

        apart : Different eqb (way nexts head m ++ moved ∷ (way nexts after j ++ way nexts behind k))
        apart = subst (Different eqb) all-parts whole.apart

        -- the cell points behind those that it passes
        module _ {nexts' : List ℕ} (pointed : nexts' ≡ set nexts moved behind) where
          pub passed-run : Runs nexts' after j
          passed-run = runs-from-leads (way nexts after j) nexts' after behind j runs-passed (
              passed-stay (way nexts head m) (way nexts after j) (way nexts behind k) nexts nexts' nexts head moved after behind after pointed apart leads-before leads-passed
              )

          -- they lead to it
          module _ {nexts'' : List ℕ} {after' : ℕ} (made : redirected nexts' after j moved ≡ (nexts'', after')) where
            pub before-run : Runs nexts'' head m
            before-run = runs-from-leads (way nexts head m) nexts'' head moved m runs-before (
                before-stay-again (way nexts head m) (way nexts after j) (way nexts behind k) nexts nexts' nexts'' head moved after behind after' pointed apart leads-before leads-passed j runs-passed made
                )

            -- and the cells before it lead to them
            pub way-moved : (others : List (Cell K)) (head' : ℕ) → keys_in others ≡ keys_in cells → redirected nexts'' head m after' ≡ (nexts_in others, head') → way (nexts_in others) head' (room others) ≡ moved_back place j (way nexts head (room cells))
            way-moved others head' keys made' =
                let us : List ℕ = way nexts head m in
                let vs : List ℕ = way nexts after j in
                let ws : List ℕ = way nexts behind k in
                let l : Leads (nexts_in others) head' (us ++ (vs ++ moved ∷ ws)) (beyond nexts behind k) =
                leads-moved us vs ws nexts nexts' nexts'' head moved after behind after' pointed apart leads-before leads-passed j runs-passed made (beyond nexts behind k) nexts-there (leads-from-way k nexts behind runs-rest) (nexts_in others) head' m runs-before made'
                in
                let len : length (us ++ (vs ++ moved ∷ ws)) ≡ room cells =
                omega (arith, length-append us (vs ++ moved ∷ ws), length-append vs (moved ∷ ws), runs-before, runs-passed, runs-rest, sum)
                in
                let at : place ≡ suc (length us) = omega (arith, runs-before) in
                let back : moved_back place j (us ++ moved ∷ (vs ++ ws)) ≡ us ++ (vs ++ moved ∷ ws) =
                ap (λ i. moved_back i j (us ++ moved ∷ (vs ++ ws))) at ∙ ap (λ i. moved_back (suc (length us)) i (us ++ moved ∷ (vs ++ ws))) (sym runs-passed) ∙ moved_back-at us vs ws moved
                in
                ap (way (nexts_in others) head') (same-room cells others keys ∙ sym len) ∙ way-from-leads (us ++ (vs ++ moved ∷ ws)) (nexts_in others) head' (beyond nexts behind k) l ∙ sym back ∙ ap (moved_back place j) (sym all-parts)
