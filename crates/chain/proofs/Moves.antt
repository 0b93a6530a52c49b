-- Relinking: what becomes of segments when the last entry of one points elsewhere, and when an entry moves back.
use Rattle.std.proofs.Common.{◌≡◌, ℕ, ◌+◌, ◌<◌, eqb, List, [], ◌∷◌, ◌++◌, length, get_or, set, sym, refl, ap, ◌∙◌, subst, arith}
use Rattle.std.proofs.lemmas.List.{append_assoc}
use Rattle.std.proofs.lemmas.Bool.{eq-eqb}
use Rattle.lines.specs.Places.{occurrences, Different}
use Rattle.lines.proofs.Kept.{occurrences-append}
use Rattle.chain.specs.Ways.{beyond, redirected}
use Rattle.chain.proofs.Segments.{Leads, leads-frame, leads-pointed}

-- an entry of a list without repetitions stands neither before nor behind itself
here-once : (us vs : List ℕ) (b : ℕ) → occurrences eqb b (us ++ b ∷ vs) ≡ occurrences eqb b us + (1 + occurrences eqb b vs)
here-once us vs b = rw (eq-eqb b b refl) at (occurrences-append eqb b us (b ∷ vs))

pub apart-front : (us vs : List ℕ) (b : ℕ) → Different eqb (us ++ b ∷ vs) → occurrences eqb b us ≡ 0
apart-front us vs b d = omega (arith, d b, here-once us vs b)

pub apart-rear : (us vs : List ℕ) (b : ℕ) → Different eqb (us ++ b ∷ vs) → occurrences eqb b vs ≡ 0
apart-rear us vs b d = omega (arith, d b, here-once us vs b)

-- the last entry of a segment
last_of : (us nexts : List ℕ) (head u end : ℕ) → Leads nexts head (u ∷ us) end → (ts : List ℕ) × (u ∷ us ≡ ts ++ beyond nexts head (length us) ∷ []) × Leads nexts head ts (beyond nexts head (length us)) × (beyond nexts head (length us) < length nexts)
last_of [] nexts head u end h = ([], rw h.0, refl, rw h.0 h.1)
last_of (v ∷ us) nexts head u end h =
    let r = last_of us nexts (get_or nexts u 0) v end h.2 in
    rw h.0 (u ∷ r.0, ap (λ ts. u ∷ ts) r.1, (refl, h.1, r.2), r.3)

-- a way is redirected after a segment
redirected-leads : (us vs nexts : List ℕ) (head mid to end : ℕ) → Different eqb (us ++ vs) → Leads nexts head us mid → Leads nexts to vs end → Leads (redirected nexts head (length us) to).0 (redirected nexts head (length us) to).1 (us ++ vs) end
redirected-leads [] vs nexts head mid to end d h i = i
redirected-leads (u ∷ us) vs nexts head mid to end d h i =
    let r = last_of us nexts head u mid h in
    let b = beyond nexts head (length us) in
    let ts : List ℕ = r.0 in
    let e : u ∷ (us ++ vs) ≡ ts ++ b ∷ vs = ap (λ ws. ws ++ vs) r.1 ∙ append_assoc ts (b ∷ []) vs in
    let f : Different eqb (ts ++ b ∷ vs) = subst (Different eqb) e d in
    let P : List ℕ → Type 0 = λ ws. Leads (set nexts b to) head ws end in
    subst P (sym e) (leads-pointed ts vs nexts head b to end (apart-front ts vs b f) (apart-rear ts vs b f) r.3 r.2 i)

-- what is apart from that segment stays
redirected-frame : (us ws nexts : List ℕ) (head mid to at end : ℕ) → Different eqb (ws ++ us) → Leads nexts head us mid → Leads nexts at ws end → Leads (redirected nexts head (length us) to).0 at ws end
redirected-frame [] ws nexts head mid to at end d h i = i
redirected-frame (u ∷ us) ws nexts head mid to at end d h i =
    let r = last_of us nexts head u mid h in
    let b = beyond nexts head (length us) in
    let ts : List ℕ = r.0 in
    let f : Different eqb (ws ++ (ts ++ b ∷ [])) = subst (λ ys. Different eqb (ws ++ ys)) r.1 d in
    leads-frame ws nexts at end b to (omega (arith, f b, occurrences-append eqb b ws (ts ++ b ∷ []), here-once ts [] b)) i

module _ (us nexts nexts' : List ℕ) (head mid to head' m : ℕ) (len : length us ≡ m) (made : redirected nexts head m to ≡ (nexts', head')) (first : Leads nexts head us mid) where
  made' : redirected nexts head (length us) to ≡ (nexts', head')
  made' = ap (λ k. redirected nexts head k to) len ∙ made

  pub leads-redirected : (vs : List ℕ) (end : ℕ) → Different eqb (us ++ vs) → Leads nexts to vs end → Leads nexts' head' (us ++ vs) end
  leads-redirected vs end d i =
      let P : List ℕ × ℕ → Type 0 = λ r. Leads r.0 r.1 (us ++ vs) end in
      subst P made' (redirected-leads us vs nexts head mid to end d first i)

  pub frame-redirected : (ws : List ℕ) (at end : ℕ) → Different eqb (ws ++ us) → Leads nexts at ws end → Leads nexts' at ws end
  frame-redirected ws at end d i =
      let P : List ℕ × ℕ → Type 0 = λ r. Leads r.0 at ws end in
      subst P made' (redirected-frame us ws nexts head mid to at end d first i)

-- one entry moves back: it points behind those that it passes, the last of them to it, and the way before it to the first of them
module _ (us vs ws nexts nexts' nexts'' : List ℕ) (head moved after behind after' : ℕ) (pointed : nexts' ≡ set nexts moved behind) (apart : Different eqb (us ++ moved ∷ (vs ++ ws))) (before : Leads nexts head us moved) (passed : Leads nexts after vs behind) where
  absent-both : (occurrences eqb moved vs ≡ 0) × (occurrences eqb moved ws ≡ 0)
  absent-both =
      let o : occurrences eqb moved (vs ++ ws) ≡ 0 = apart-rear us (vs ++ ws) moved apart in
      (omega (arith, occurrences-append eqb moved vs ws), omega (arith, occurrences-append eqb moved vs ws))

  pub passed-stay : Leads nexts' after vs behind
  passed-stay = rw pointed (leads-frame vs nexts after behind moved behind absent-both.0 passed)

  before-stay : Leads nexts' head us moved
  before-stay = rw pointed (leads-frame us nexts head moved moved behind (apart-front us (vs ++ ws) moved apart) before)

  still-apart : Different eqb (us ++ (vs ++ moved ∷ ws))
  still-apart v = omega (arith, apart v, occurrences-append eqb v us (vs ++ moved ∷ ws), occurrences-append eqb v us (moved ∷ (vs ++ ws)), occurrences-append eqb v vs (moved ∷ ws), occurrences-append eqb v vs ws)

  module _ (j : ℕ) (len : length vs ≡ j) (made : redirected nexts' after j moved ≡ (nexts'', after')) where
    pub before-stay-again : Leads nexts'' head us moved
    before-stay-again =
        let d : Different eqb (us ++ vs) = λ v. omega (arith, still-apart v, occurrences-append eqb v us (vs ++ moved ∷ ws), occurrences-append eqb v us vs, occurrences-append eqb v vs (moved ∷ ws)) in
        frame-redirected vs nexts' nexts'' after behind moved after' j len made passed-stay us head moved d before-stay

    module _ (end : ℕ) (there : moved < length nexts) (rest : Leads nexts behind ws end) where
      own : Leads nexts' moved (moved ∷ ws) end
      own =
          let P : List ℕ → Type 0 = λ ns. Leads ns moved (moved ∷ ws) end in
          subst P (sym pointed) (leads-pointed [] ws nexts moved moved behind end refl absent-both.1 there refl rest)

      joined : Leads nexts'' after' (vs ++ moved ∷ ws) end
      joined =
          let d : Different eqb (vs ++ moved ∷ ws) = λ v. omega (arith, still-apart v, occurrences-append eqb v us (vs ++ moved ∷ ws)) in
          leads-redirected vs nexts' nexts'' after behind moved after' j len made passed-stay (moved ∷ ws) end d own

      pub leads-moved : (nexts''' : List ℕ) (head' m : ℕ) → length us ≡ m → redirected nexts'' head m after' ≡ (nexts''', head') → Leads nexts''' head' (us ++ (vs ++ moved ∷ ws)) end
      leads-moved nexts''' head' m is made' = leads-redirected us nexts'' nexts''' head moved after' head' m is made' before-stay-again (vs ++ moved ∷ ws) end still-apart joined
