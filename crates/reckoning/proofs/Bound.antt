-- The twice bound: what each call keeps, with the inversions between the two orders as the potential. Then what it gives: the floor, and
-- what a caller learns of a call.
use Rattle.std.proofs.Common.{◌≡◌, ℕ, suc, pred, ◌+◌, ◌*◌, ◌≤◌, Bool, true, false, cond, not, List, [], ◌∷◌, ◌++◌, length, Some, None, Decides, Option, Result, sym, refl, ap, ◌∙◌, inl, inr, arith}
use Rattle.std.proofs.lemmas.Bool.{cases_Bool, or_parts, not-false, true≢false, eqb-true}
use Rattle.std.proofs.lemmas.Bool.Decides.{nat_tests}
use Rattle.keys.specs.declared.denial.Denial.{Denial}
use Rattle.lines.specs.Places.{stands, walk, occurrences, Different}
use Rattle.reckoning.specs.Reckoning.{Sums, State, Limits, Call, load, start, lookup, add, remove, exchange, close, outside, first_failed, decided, empty, unmatched, checks, done, step, reckoned_from, reckoned}
use Rattle.reckoning.specs.Twice.{TwiceLaw, Made}
use Rattle.reckoning.specs.Floor.{FloorLaw}
use Rattle.lines.proofs.Kept.{occurrences-missing, occurrences-exchanged}
use Rattle.reckoning.proofs.Values.{before, without, hit, put_at, walk_before, taken_out-walk, forward-walk, forward-last, occurrences-without, occurrences-put_at, occurrences-push, hit_same}
use Rattle.reckoning.proofs.Inversions.{inversions, SameValues, inversions-without, inversions-put, inversions-push, inversions-exchanged}
use Rattle.reckoning.proofs.Floor.{floor-since}

-- no check fails
abbrev pub AllPass : List (Bool × Denial) → Type 0
AllPass [] = Unit {0}
AllPass (check ∷ checks) = (check.0 ≡ false) × AllPass checks

pub passes : (checks : List (Bool × Denial)) → first_failed checks ≡ None → AllPass checks
passes [] e = tt
passes (check ∷ checks) e =
    elim (cases_Bool check.0) [
      | inl f ↦ absurd (let z : ◌≡◌ {A = ℕ} 0 1 = cc (rw f at e) in omega arith)
      | inr f ↦ (f, passes checks (rw f at e))
    ]

pub within-goal : (goal place : ℕ) → outside goal place ≡ false → (1 ≤ goal) × (goal ≤ place)
within-goal goal place e = (grind (arith, nat_tests), grind (arith, nat_tests))

agree : (a b : Bool) → cond a (not b) b ≡ false → b ≡ a
agree true true e = refl
agree true false e = absurd (true≢false e)
agree false true e = absurd (true≢false e)
agree false false e = refl

module _ {V : Type 0} (equal : V → V → Bool) where
  -- what holds after every call: the two sides have the same values, each once, and the bound has the inversions to spare
  pub record Balanced (s : State V) : Type 0 where
    pub same : SameValues equal s.house s.rival
    pub different : Different equal s.house
    pub covered : s.sums.house + s.sums.free + s.sums.requests + inversions equal s.house s.rival ≤ 2 * s.sums.rival + s.sums.paid

  -- a key that is not unmatched stands on both sides or on neither
  pub matched : (v : V) (xs ys : List V) → unmatched equal v xs ys ≡ false → stands equal v ys ≡ stands equal v xs
  matched v xs ys e = agree (stands equal v xs) (stands equal v ys) (or_parts _ _ e).1

module _ {V : Type 0} (equal : V → V → Bool) (decides : (v w : V) → Decides (equal v w) (v ≡ w)) where
  -- one value more, which was missing
  different-more : (v : V) (xs : List V) → Different equal xs → occurrences equal v xs ≡ 0 → (w : V) → hit equal w v + occurrences equal w xs ≤ 1
  different-more v xs h z w =
      elim (cases_Bool (equal w v)) [
        | inl e ↦ rw e (omega (arith, z, ap (λ u. occurrences equal u xs) ((decides w v).0 e)))
        | inr e ↦ rw e (omega (arith, h w))
      ]

  load-keeps : (limits : Limits) (v : V) (s : State V) → first_failed (checks equal limits (load v) s) ≡ None → Balanced equal s → Balanced equal (done equal (load v) s)
  load-keeps limits v s e b =
      let pass : AllPass (checks equal limits (load v) s) = passes (checks equal limits (load v) s) e in
      record {
        same = λ w. omega (arith, b.same w, occurrences-push equal decides w v s.house, occurrences-push equal decides w v s.rival);
        different = λ w. omega (arith, occurrences-push equal decides w v s.house, different-more v s.house b.different (occurrences-missing equal v s.house pass.1.0) w);
        covered = omega (arith, b.covered, inversions-push equal decides v s.house s.rival b.same);
      }

  -- v is put first on the house's side, and somewhere on the rival's
  put_keeps : (v : V) (n : ℕ) (xs ys : List V) (sums : Sums) → SameValues equal xs ys → Different equal xs → occurrences equal v xs ≡ 0
      → sums.house + sums.free + sums.requests + inversions equal xs ys + n ≤ 2 * sums.rival + sums.paid
      → Balanced equal (record { house = v ∷ xs; rival = put_at v n ys; sums = sums })
  put_keeps v n xs ys sums same h z covered = record {
    same = λ w. omega (arith, same w, occurrences-put_at equal decides w v n ys);
    different = different-more v xs h z;
    covered = omega (arith, covered, inversions-put equal decides v n xs ys (sym (same v) ∙ z));
  }

  -- v is taken out on both sides
  taken-same : (v : V) (xs ys : List V) → SameValues equal xs ys → stands equal v xs ≡ true → stands equal v ys ≡ true → SameValues equal (without equal v xs) (without equal v ys)
  taken-same v xs ys same s t w = omega (arith, same w, occurrences-without equal decides w v xs s, occurrences-without equal decides w v ys t)

  taken-different : (v : V) (xs : List V) → Different equal xs → stands equal v xs ≡ true → Different equal (without equal v xs)
  taken-different v xs h s w = omega (arith, h w, occurrences-without equal decides w v xs s)

  taken-once : (v : V) (xs : List V) → Different equal xs → stands equal v xs ≡ true → occurrences equal v (without equal v xs) ≡ 0
  taken-once v xs h s = omega (arith, h v, hit_same equal decides v, occurrences-without equal decides v v xs s)

  lookup-keeps : (limits : Limits) (v : V) (goal : ℕ) (s : State V) → first_failed (checks equal limits (lookup v goal) s) ≡ None → Balanced equal s → Balanced equal (done equal (lookup v goal) s)
  lookup-keeps limits v goal s e b =
      let pass : AllPass (checks equal limits (lookup v goal) s) = passes (checks equal limits (lookup v goal) s) e in
      let here : stands equal v s.house ≡ true = not-false _ pass.1.1.0 in
      let there : stands equal v s.rival ≡ true = matched equal v s.house s.rival pass.1.0 ∙ here in
      let range : (1 ≤ goal) × (goal ≤ walk equal v s.rival) = within-goal goal (walk equal v s.rival) pass.1.1.1.0 in
      let wh : walk equal v s.house ≡ suc (before equal v s.house) = walk_before equal decides v s.house in
      let wr : walk equal v s.rival ≡ suc (before equal v s.rival) = walk_before equal decides v s.rival in
      rw (forward-walk equal decides v 1 s.house here (omega arith) (omega arith), forward-walk equal decides v goal s.rival there range.0 range.1)
      (put_keeps v (pred goal) (without equal v s.house) (without equal v s.rival) (done equal (lookup v goal) s).sums
      (taken-same v s.house s.rival b.same here there)
      (taken-different v s.house b.different here)
      (taken-once v s.house b.different here)
      (omega (arith, b.covered, inversions-without equal decides v s.house s.rival b.same here)))

  add-keeps : (limits : Limits) (v : V) (goal : ℕ) (s : State V) → first_failed (checks equal limits (add v goal) s) ≡ None → Balanced equal s → Balanced equal (done equal (add v goal) s)
  add-keeps limits v goal s e b =
      let pass : AllPass (checks equal limits (add v goal) s) = passes (checks equal limits (add v goal) s) e in
      let range : (1 ≤ goal) × (goal ≤ suc (length s.rival)) = within-goal goal (suc (length s.rival)) pass.1.1.1.1.0 in
      let level : length s.house ≡ length s.rival = eqb-true _ _ (not-false _ (or_parts _ _ pass.1.0).0) in
      rw (forward-last v 1 s.house (omega arith) (omega arith), forward-last v goal s.rival range.0 range.1)
      (put_keeps v (pred goal) s.house s.rival (done equal (add v goal) s).sums b.same b.different
      (occurrences-missing equal v s.house pass.1.1.0)
      (omega (arith, b.covered)))

  remove-keeps : (limits : Limits) (v : V) (s : State V) → first_failed (checks equal limits (remove v) s) ≡ None → Balanced equal s → Balanced equal (done equal (remove v) s)
  remove-keeps limits v s e b =
      let pass : AllPass (checks equal limits (remove v) s) = passes (checks equal limits (remove v) s) e in
      let here : stands equal v s.house ≡ true = not-false _ pass.1.1.0 in
      let there : stands equal v s.rival ≡ true = matched equal v s.house s.rival pass.1.0 ∙ here in
      let wh : walk equal v s.house ≡ suc (before equal v s.house) = walk_before equal decides v s.house in
      let wr : walk equal v s.rival ≡ suc (before equal v s.rival) = walk_before equal decides v s.rival in
      rw (taken_out-walk equal decides v s.house, taken_out-walk equal decides v s.rival)
      (record {
        same = taken-same v s.house s.rival b.same here there;
        different = taken-different v s.house b.different here;
        covered = omega (arith, b.covered, inversions-without equal decides v s.house s.rival b.same here);
      })

  exchange-keeps : (place : ℕ) (s : State V) → Balanced equal s → Balanced equal (done equal (exchange place) s)
  exchange-keeps place s b = record {
    same = λ w. omega (arith, b.same w, occurrences-exchanged equal w place s.rival);
    different = b.different;
    covered = omega (arith, b.covered, inversions-exchanged equal decides place s.house s.rival);
  }

  done-keeps : (limits : Limits) (call : Call V) (s : State V) → first_failed (checks equal limits call s) ≡ None → Balanced equal s → Balanced equal (done equal call s)
  done-keeps limits (load v) s e b = load-keeps limits v s e b
  done-keeps limits start s e b = b
  done-keeps limits (lookup v goal) s e b = lookup-keeps limits v goal s e b
  done-keeps limits (add v goal) s e b = add-keeps limits v goal s e b
  done-keeps limits (remove v) s e b = remove-keeps limits v s e b
  done-keeps limits (exchange place) s e b = exchange-keeps place s b
  done-keeps limits close s e b = b

  keeps : (limits : Limits) (call : Call V) (s : State V) → Balanced equal s → Balanced equal (step equal limits call s).1
  keeps limits call s b = at (first_failed (checks equal limits call s)) refl
    where
      at : (o : Option Denial) → first_failed (checks equal limits call s) ≡ o → Balanced equal (decided o (done equal call s) s).1
      at None e = done-keeps limits call s e b
      at (Some d) e = b

  from-keeps : (limits : Limits) (s : State V) (calls : List (Call V)) → Balanced equal s → Balanced equal (reckoned_from equal limits s calls)
  from-keeps limits s [] b = b
  from-keeps limits s (call ∷ calls) b = from-keeps limits (step equal limits call s).1 calls (keeps limits call s b)

  pub twice-law : TwiceLaw V equal
  twice-law limits calls = omega (arith, (from-keeps limits empty calls (record { same = λ w. refl; different = λ w. omega arith; covered = omega arith })).covered)

  pub floor-law : FloorLaw V equal
  floor-law = floor-since equal twice-law

  -- one call more
  reckoned-more : (limits : Limits) (s : State V) (calls : List (Call V)) (call : Call V) → reckoned_from equal limits s (calls ++ call ∷ []) ≡ (step equal limits call (reckoned_from equal limits s calls)).1
  reckoned-more limits s [] call = refl
  reckoned-more limits s (c ∷ calls) call = reckoned-more limits (step equal limits c s).1 calls call

  -- what a caller learns of a call whose answer and effect are the reckoning's
  pub made : (limits : Limits) (call : Call V) (before : State V) (answer : Result (Unit {0}) Denial) (after : State V) → step equal limits call before ≡ (answer, after) → Made equal limits call before answer after
  made limits call before answer after e =
      let more : (calls : List (Call V)) → before ≡ reckoned equal limits calls → after ≡ reckoned equal limits (calls ++ call ∷ []) =
      λ calls h. sym (ap (λ p. p.1) e) ∙ ap (λ s. (step equal limits call s).1) h ∙ sym (reckoned-more limits empty calls call) in
      record {
        reckons = e;
        history = more;
        bounded = λ calls h. rw (more calls h) (twice-law limits (calls ++ call ∷ []));
      }
