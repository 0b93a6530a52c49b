-- What the checks of a call give: the first denial, or the places at which its key stands or is put. Only contracts inside the
-- crate cite these.
use Rattle.std.specs.Prelude.{suc, cond, [], ◌∷◌, length, Some, None, Ok, Err, Option, Result}
use Rattle.keys.specs.declared.denial.Denial.{Denial}
use Rattle.keys.specs.declared.denial.Denial.TheVariants.{Unmatched}
use Rattle.keys.specs.declared.key.Key.{Ghosts as KeyMeaning}
use Rattle.lines.specs.declared.Line.{Ghosts as LineMeaning}
use Rattle.lines.specs.Places.{stands, walk}
use Rattle.reckoning.specs.Reckoning.{Call, load, zeros, first_failed, unmatched, checks}
use Rattle.bench.specs.declared.admit.Places.{Places}
use Rattle.bench.specs.declared.ledger.Ledger.{Ledger}
use Rattle.bench.specs.Benches.{limits_of, values_of, bench_of}

-- what is given where no check fails
abbrev pub admitted : {T : Type 0} → Option Denial → T → Result T Denial
admitted None x = Ok x
admitted (Some denial) x = Err denial

module _ {K H R : Type 0} (key : KeyMeaning K) (house : LineMeaning H K) (rival : LineMeaning R K) where
  -- the first check of a call that fails
  abbrev pub failed : Call key.Value → H → R → Ledger → Option Denial
  failed call h r ledger = first_failed (checks key.equal (limits_of key house rival h r) call (bench_of key house rival h r ledger))

  -- the first check of a load that fails; none looks at the numbers
  abbrev pub load_failed : K → H → R → Option Denial
  load_failed k h r =
      first_failed (checks key.equal (limits_of key house rival h r) (load (key.value k)) (record {
        house = values_of key (house.keys h);
        rival = values_of key (rival.keys r);
        sums = zeros;
      }))

  -- where a key stands on the two sides
  abbrev pub places_of : K → H → R → Places
  places_of k h r = record {
    house = walk key.equal (key.value k) (values_of key (house.keys h));
    rival = walk key.equal (key.value k) (values_of key (rival.keys r));
  }

  -- the places behind the last ones
  abbrev pub next_places : H → R → Places
  next_places h r = record {
    house = suc (length (values_of key (house.keys h)));
    rival = suc (length (values_of key (rival.keys r)));
  }

  -- the places of a key that stands on both sides, none where it stands on neither, and denied where the sides do not match
  abbrev pub found : K → H → R → Result (Option Places) Denial
  found k h r =
      admitted (first_failed ((unmatched key.equal (key.value k) (values_of key (house.keys h)) (values_of key (rival.keys r)), Unmatched) ∷ []))
      (cond (stands key.equal (key.value k) (values_of key (house.keys h))) (Some (places_of k h r)) None)
