-- The effect of each call on the two lines and the ledger, by the reckoning; and what its checks say of the places.
use Rattle.std.proofs.Common.{◌≡◌, ℕ, suc, ◌-◌, ◌<◌, ◌≤◌, true, List, [], ◌∷◌, ◌++◌, map, length, None, Ok, Decides, Option, Result, ap, ◌∙◌, arith}
use lib.ListN.{length-map}
use Rattle.std.proofs.lemmas.List.{map_push}
use Rattle.std.proofs.lemmas.Bool.{eqb-false, not-false, or_parts}
use Rattle.keys.specs.declared.denial.Denial.{Denial}
use Rattle.keys.specs.declared.key.Key.{Ghosts as KeyMeaning}
use Rattle.lines.specs.declared.Line.{Ghosts as LineMeaning}
use Rattle.lines.specs.Orders.{taken_out, exchanged, brought_forward}
use Rattle.lines.specs.Places.{stands, walk}
use Rattle.lines.proofs.Kept.{map-taken_out, map-exchanged}
use Rattle.lines.proofs.Forward.{map-forward}
use Rattle.reckoning.specs.Reckoning.{load, lookup, add, remove, exchange, most, served, paid_for, first_failed, checks, done}
use Rattle.reckoning.proofs.Values.{walk_before, walk-within}
use Rattle.reckoning.proofs.Bound.{AllPass, passes, matched, within-goal}
use Rattle.bench.specs.declared.ledger.Ledger.{Ledger}
use Rattle.bench.specs.declared.admit.Places.{Places}
use Rattle.bench.specs.Benches.{sums_of, limits_of, bench_of}
use Rattle.bench.specs.Admission.{admitted, failed, places_of, next_places}
use Rattle.bench.proofs.Calls.{admitted-ok}

-- the checks of a request have passed: its places are those that they give, and lie in lines of these counts, and the counter has room
pub record Ready (ledger : Ledger) (denial : Option Denial) (places given : Places) (house_count rival_count : ℕ) : Type 0 where
  pub passed : denial ≡ None
  pub at : places ≡ given
  pub counted : ledger.requests < most
  pub house_low : 1 ≤ places.house
  pub house_high : places.house ≤ house_count
  pub rival_low : 1 ≤ places.rival
  pub rival_high : places.rival ≤ rival_count

module _ {K H R : Type 0} (key : KeyMeaning K) (house : LineMeaning H K) (rival : LineMeaning R K)
    (decides : (v w : key.Value) → Decides (key.equal v w) (v ≡ w)) (k : K) (h : H) (r : R) (ledger : Ledger) where
  -- of a key that stands on both sides
  present-ready : {denial : Option Denial} (places : Places) → denial ≡ None → places ≡ places_of key house rival k h r
      → AllPass (checks key.equal (limits_of key house rival h r) (remove (key.value k)) (bench_of key house rival h r ledger))
      → Ready ledger denial places (places_of key house rival k h r) (length (house.keys h)) (length (rival.keys r))
  present-ready places f e pass =
      let v = key.value k in
      let xs : List key.Value = map key.value (house.keys h) in
      let ys : List key.Value = map key.value (rival.keys r) in
      let here : stands key.equal v xs ≡ true = not-false _ pass.1.1.0 in
      let there : stands key.equal v ys ≡ true = matched key.equal v xs ys pass.1.0 ∙ here in
      let hp : places.house ≡ walk key.equal v xs = ap (λ (p : Places). p.house) e in
      let rp : places.rival ≡ walk key.equal v ys = ap (λ (p : Places). p.rival) e in
      record {
        passed = f;
        at = e;
        counted = omega (arith, ledger.counted, eqb-false _ _ pass.0);
        house_low = omega (arith, walk_before key.equal decides v xs);
        house_high = omega (arith, walk-within key.equal decides v xs here, length-map (house.keys h) key.value);
        rival_low = omega (arith, walk_before key.equal decides v ys);
        rival_high = omega (arith, walk-within key.equal decides v ys there, length-map (rival.keys r) key.value);
      }

  module _ {result : Result Places Denial} (places : Places) where
    pub remove-ready : result ≡ admitted (failed key house rival (remove (key.value k)) h r ledger) (places_of key house rival k h r) → result ≡ Ok places
        → Ready ledger (failed key house rival (remove (key.value k)) h r ledger) places (places_of key house rival k h r) (length (house.keys h)) (length (rival.keys r))
    remove-ready p q =
        let all = checks key.equal (limits_of key house rival h r) (remove (key.value k)) (bench_of key house rival h r ledger) in
        let ok = admitted-ok (first_failed all) (places_of key house rival k h r) p q in
        present-ready places ok.0 ok.1 (passes all ok.0)

    pub lookup-ready : (goal : ℕ) → result ≡ admitted (failed key house rival (lookup (key.value k) goal) h r ledger) (places_of key house rival k h r) → result ≡ Ok places
        → Ready ledger (failed key house rival (lookup (key.value k) goal) h r ledger) places (places_of key house rival k h r) (length (house.keys h)) (length (rival.keys r))
        × (1 ≤ goal) × (goal ≤ places.rival)
    lookup-ready goal p q =
        let all = checks key.equal (limits_of key house rival h r) (lookup (key.value k) goal) (bench_of key house rival h r ledger) in
        let ok = admitted-ok (first_failed all) (places_of key house rival k h r) p q in
        let pass : AllPass all = passes all ok.0 in
        let range = within-goal goal _ pass.1.1.1.0 in
        let rp = ap (λ (p : Places). p.rival) ok.1 in
        (present-ready places ok.0 ok.1 (pass.0, (pass.1.0, (pass.1.1.0, tt))), range.0, omega (arith, range.1))

    -- of a key that stands on neither side, and lines with room for it
    pub add-ready : (goal : ℕ) → result ≡ admitted (failed key house rival (add (key.value k) goal) h r ledger) (next_places key house rival h r) → result ≡ Ok places
        → Ready ledger (failed key house rival (add (key.value k) goal) h r ledger) places (next_places key house rival h r) (suc (length (house.keys h))) (suc (length (rival.keys r)))
        × (1 ≤ goal) × (goal ≤ places.rival) × (length (house.keys h) ≡ house.limit h → ⊥) × (length (rival.keys r) ≡ rival.limit r → ⊥)
    add-ready goal p q =
        let all = checks key.equal (limits_of key house rival h r) (add (key.value k) goal) (bench_of key house rival h r ledger) in
        let ok = admitted-ok (first_failed all) (next_places key house rival h r) p q in
        let pass : AllPass all = passes all ok.0 in
        let range = within-goal goal _ pass.1.1.1.1.0 in
        let room = or_parts _ _ pass.1.1.1.0 in
        let hp : places.house ≡ suc (length (map key.value (house.keys h))) = ap (λ (p : Places). p.house) ok.1 in
        let rp : places.rival ≡ suc (length (map key.value (rival.keys r))) = ap (λ (p : Places). p.rival) ok.1 in
        let hl : length (map key.value (house.keys h)) ≡ length (house.keys h) = length-map (house.keys h) key.value in
        let rl : length (map key.value (rival.keys r)) ≡ length (rival.keys r) = length-map (rival.keys r) key.value in (
          record {
            passed = ok.0;
            at = ok.1;
            counted = omega (arith, ledger.counted, eqb-false _ _ pass.0);
            house_low = omega arith;
            house_high = omega arith;
            rival_low = omega arith;
            rival_high = omega arith;
          },
          range.0,
          omega (arith, range.1),
          (λ z. eqb-false _ _ room.0 (hl ∙ z)),
          (λ z. eqb-false _ _ room.1 (rl ∙ z)),
        )

  module _ (h' : H) (r' : R) (ledger' : Ledger) where
    pub load-done : house.keys h' ≡ house.keys h ++ k ∷ [] → rival.keys r' ≡ rival.keys r ++ k ∷ [] → sums_of ledger' ≡ sums_of ledger
        → bench_of key house rival h' r' ledger' ≡ done key.equal (load (key.value k)) (bench_of key house rival h r ledger)
    load-done hk rk sums =
        let hs = ap (map key.value) hk ∙ map_push key.value (house.keys h) k in
        let rs = ap (map key.value) rk ∙ map_push key.value (rival.keys r) k in
        λ i. record { house = hs i; rival = rs i; sums = sums i }

    pub lookup-done : (goal : ℕ) (places : Places) → places ≡ places_of key house rival k h r
        → house.keys h' ≡ brought_forward places.house 1 (house.keys h) → rival.keys r' ≡ brought_forward places.rival goal (rival.keys r)
        → sums_of ledger' ≡ served places.house places.rival (places.rival - goal) (sums_of ledger)
        → bench_of key house rival h' r' ledger' ≡ done key.equal (lookup (key.value k) goal) (bench_of key house rival h r ledger)
    lookup-done goal places e hk rk sums =
        let hs = ap (map key.value) hk ∙ map-forward key.value places.house 1 (house.keys h) ∙ ap (λ (p : Places). brought_forward p.house 1 (map key.value (house.keys h))) e in
        let rs = ap (map key.value) rk ∙ map-forward key.value places.rival goal (rival.keys r) ∙ ap (λ (p : Places). brought_forward p.rival goal (map key.value (rival.keys r))) e in
        let ss = sums ∙ ap (λ (p : Places). served p.house p.rival (p.rival - goal) (sums_of ledger)) e in
        λ i. record { house = hs i; rival = rs i; sums = ss i }

    pub remove-done : (places : Places) → places ≡ places_of key house rival k h r
        → house.keys h' ≡ taken_out places.house (house.keys h) → rival.keys r' ≡ taken_out places.rival (rival.keys r)
        → sums_of ledger' ≡ served places.house places.rival 0 (sums_of ledger)
        → bench_of key house rival h' r' ledger' ≡ done key.equal (remove (key.value k)) (bench_of key house rival h r ledger)
    remove-done places e hk rk sums =
        let hs = ap (map key.value) hk ∙ map-taken_out key.value places.house (house.keys h) ∙ ap (λ (p : Places). taken_out p.house (map key.value (house.keys h))) e in
        let rs = ap (map key.value) rk ∙ map-taken_out key.value places.rival (rival.keys r) ∙ ap (λ (p : Places). taken_out p.rival (map key.value (rival.keys r))) e in
        let ss = sums ∙ ap (λ (p : Places). served p.house p.rival 0 (sums_of ledger)) e in
        λ i. record { house = hs i; rival = rs i; sums = ss i }

    pub add_done : (goal : ℕ) (places : Places) → places ≡ next_places key house rival h r
        → house.keys h' ≡ brought_forward places.house 1 (house.keys h ++ k ∷ []) → rival.keys r' ≡ brought_forward places.rival goal (rival.keys r ++ k ∷ [])
        → sums_of ledger' ≡ served places.house places.rival (places.rival - goal) (sums_of ledger)
        → bench_of key house rival h' r' ledger' ≡ done key.equal (add (key.value k) goal) (bench_of key house rival h r ledger)
    add_done goal places e hk rk sums =
        let hl : places.house ≡ suc (length (map key.value (house.keys h))) = ap (λ (p : Places). p.house) e in
        let rl : places.rival ≡ suc (length (map key.value (rival.keys r))) = ap (λ (p : Places). p.rival) e in
        let hs = ap (map key.value) hk ∙ map-forward key.value places.house 1 (house.keys h ++ k ∷ []) ∙ (λ i. brought_forward (hl i) 1 (map_push key.value (house.keys h) k i)) in
        let rs = ap (map key.value) rk ∙ map-forward key.value places.rival goal (rival.keys r ++ k ∷ []) ∙ (λ i. brought_forward (rl i) goal (map_push key.value (rival.keys r) k i)) in
        let ss = sums ∙ (λ i. served (hl i) (rl i) (rl i - goal) (sums_of ledger)) in
        λ i. record { house = hs i; rival = rs i; sums = ss i }

module _ {K H R : Type 0} (key : KeyMeaning K) (house : LineMeaning H K) (rival : LineMeaning R K) where
  pub exchange-done : (h : H) (r r' : R) (ledger ledger' : Ledger) (place : ℕ) → rival.keys r' ≡ exchanged place (rival.keys r) → sums_of ledger' ≡ paid_for (sums_of ledger)
      → bench_of key house rival h r' ledger' ≡ done key.equal (exchange place) (bench_of key house rival h r ledger)
  exchange-done h r r' ledger ledger' place rk sums =
      let rs = ap (map key.value) rk ∙ map-exchanged key.value place (rival.keys r) in
      λ i. record { house = map key.value (house.keys h); rival = rs i; sums = sums i }
