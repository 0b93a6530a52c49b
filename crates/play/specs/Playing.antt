-- What holds of a bench and its two lines while a script is played.
use Rattle.std.specs.Prelude.{◌≡◌, List}
use Rattle.keys.specs.declared.key.Key.{Ghosts as KeyMeaning}
use Rattle.lines.specs.declared.Line.{Ghosts as LineMeaning}
use Rattle.reckoning.specs.Reckoning.{Call, reckoned}
use Rattle.reckoning.specs.Twice.{Twice}
use Rattle.bench.specs.Benches.{sums_of, limits_of, bench_of}
use Rattle.bench.specs.declared.ledger.Ledger.{Ledger}
use Rattle.play.specs.declared.standing.Standing.{Standing}
use Rattle.play.specs.declared.standing.Standing.TheVariants.{Loading, Running, Closed}

-- the numbers of a standing
abbrev pub ledger_of : Standing → Ledger
ledger_of (Loading bench) = bench.ledger
ledger_of (Running bench) = bench.ledger
ledger_of (Closed bench) = bench.ledger

module _ {K H R : Type 0} (key : KeyMeaning K) (house : LineMeaning H K) (rival : LineMeaning R K) where
  -- the bench is as some calls leave it, and so it keeps the twice bound
  pub record Playing (h : H) (r : R) (ledger : Ledger) : Type 0 where
    pub history : (calls : List (Call key.Value)) × (bench_of key house rival h r ledger ≡ reckoned key.equal (limits_of key house rival h r) calls)
    pub bounded : Twice (sums_of ledger)
