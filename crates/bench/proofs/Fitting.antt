-- A key that passed the checks of a load is appended on both sides.
use Rattle.std.proofs.Common.{◌≡◌, ℕ, ◌≤◌, Bool, false, eqb, List, [], ◌∷◌, ◌++◌, map, length, None, Ok, Err, Result, refl, ◌∙◌, arith}
use lib.ListN.{length-map}
use Rattle.std.proofs.lemmas.Bool.{or_parts}
use Rattle.keys.specs.declared.denial.Denial.{Denial}
use Rattle.keys.specs.declared.key.Key.{Ghosts as KeyMeaning}
use Rattle.lines.specs.declared.Line.{Ghosts as LineMeaning}
use Rattle.lines.specs.Places.{stands, appended}
use Rattle.reckoning.specs.Reckoning.{checks, load, zeros}
use Rattle.reckoning.proofs.Bound.{AllPass, passes, matched}
use Rattle.bench.specs.Benches.{limits_of}
use Rattle.bench.specs.Admission.{load_failed}

-- a line's keys are no more than 256, by its laws
pub few : {H K : Type 0} (line : LineMeaning H K) → ((s : H) → length (line.keys s) ≤ line.limit s) → ((s : H) → line.limit s ≤ 256) → (s : H) → length (line.keys s) ≤ 256
few line within bounded s = omega (arith, within s, bounded s)

-- what succeeded was not denied
pub ok-not-err : {r : Result (Unit {0}) Denial} {d : Denial} → r ≡ Ok tt → r ≡ Err d → ⊥
ok-not-err p q = let z : ◌≡◌ {A = ℕ} 0 1 = cc in omega arith

module _ {K V : Type 0} (equal : V → V → Bool) (value : K → V) where
  -- a key that does not stand in a list below its limit
  pub appends : (limit : ℕ) (k : K) (xs : List K) → stands equal (value k) (map value xs) ≡ false → eqb (length (map value xs)) limit ≡ false → appended equal value limit k xs ≡ (Ok tt, xs ++ k ∷ [])
  appends limit k xs absent room = let less : eqb (length xs) limit ≡ false = rw (length-map xs value) at room in rw (absent, less) refl

module _ {K H R : Type 0} (key : KeyMeaning K) (house : LineMeaning H K) (rival : LineMeaning R K) where
  pub fits : (k : K) (h : H) (r : R) → load_failed key house rival k h r ≡ None
      → (appended key.equal key.value (house.limit h) k (house.keys h) ≡ (Ok tt, house.keys h ++ k ∷ []))
      × (appended key.equal key.value (rival.limit r) k (rival.keys r) ≡ (Ok tt, rival.keys r ++ k ∷ []))
  fits k h r e =
      let v = key.value k in
      let xs = map key.value (house.keys h) in
      let ys = map key.value (rival.keys r) in
      let all = checks key.equal (limits_of key house rival h r) (load v) (record { house = xs; rival = ys; sums = zeros }) in
      let pass : AllPass all = passes all e in
      let room = or_parts _ _ pass.1.1.0 in (
        appends key.equal key.value (house.limit h) k (house.keys h) pass.1.0 room.0,
        appends key.equal key.value (rival.limit r) k (rival.keys r) (matched key.equal v xs ys pass.0 ∙ pass.1.0) room.1,
      )
