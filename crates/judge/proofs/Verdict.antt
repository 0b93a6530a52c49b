-- The judge's promise, from what was played.
use Rattle.std.proofs.Common.{◌≡◌, ℕ, Bool, true, false, cond, List, Ok, Err, Decides, Result, sym, refl, ap, ◌∙◌, subst}
use Rattle.std.proofs.lemmas.Bool.{cond-true, cond-false}
use Rattle.keys.specs.declared.denial.Denial.{Denial}
use Rattle.keys.specs.declared.denial.Denial.TheVariants.{NotEmpty}
use Rattle.keys.specs.declared.key.Key.{Ghosts as KeyMeaning}
use Rattle.lines.specs.declared.Line.{Ghosts as LineMeaning}
use Rattle.reckoning.specs.Reckoning.{Sums, State, empty}
use Rattle.keys.specs.Spelling.{meant}
use Rattle.bench.specs.Benches.{sums_of, both_empty, values_of, limits_of, bench_of, opened}
use Rattle.bench.specs.declared.standing.Loading.{Loading}
use Rattle.bench.specs.declared.ledger.Ledger.{Ledger}
use Rattle.logs.specs.declared.fault.Log.{Log}
use Rattle.logs.specs.declared.fault.Log.TheVariants.{Page}
use Rattle.logs.specs.declared.fault.Fault.{Fault}
use Rattle.logs.specs.declared.pages.PageReader.{PageReader}
use Rattle.logs.specs.declared.plans.PlanReader.{PlanReader}
use Rattle.logs.specs.Framing.{versioned, lettered_in}
use Rattle.logs.specs.Cursors.{left_of, passed_of}
use Rattle.logs.specs.Items.{page_items, page_items_from}
use Rattle.logs.specs.Plans.{plan_moves}
use Rattle.acceptance.specs.Scripts.{fault_on, headed, loading, script_of}
use Rattle.acceptance.specs.Judgement.{judged, played}
use Rattle.turns.specs.Onward.{said_of, plan_left, page_left, resuming, loading_from, PlayedOut}
use Rattle.turns.proofs.Going.{nothing}
use Rattle.judge.specs.Verdicts.{numbers_of, outcome, AcceptedOn, Judged}
use Rattle.acceptance.proofs.Acceptance.{accepted-judged, judged-accepted}
use Rattle.acceptance.proofs.Bounds.{accepted-twice, accepted-floor, plans-floor}

module _ {K H R : Type 0} (key : KeyMeaning K) (house : LineMeaning H K) (rival : LineMeaning R K)
    (decides : (v w : key.Value) → Decides (key.equal v w) (v ≡ w)) (page plan : List ℕ) (h : H) (r : R) where
  -- a ledger comes of an accepted plan
  accepted-since : (answered : Result (Unit {0}) Fault) (s : State key.Value) → judged key.equal key.reading key.LETTER (limits_of key house rival h r) page plan ≡ (answered, s)
      → (answer : Result Ledger Fault) → numbers_of answer ≡ (outcome (answered, s)).0 → (ledger : Ledger) → answer ≡ Ok ledger → AcceptedOn key (limits_of key house rival h r) page plan (sums_of ledger)
  accepted-since (Ok done) s e answer n ledger a =
      let same : s.sums ≡ sums_of ledger = cc in
      subst (AcceptedOn key (limits_of key house rival h r) page plan) same (judged-accepted key.equal key.reading key.LETTER (limits_of key house rival h r) page plan s e)
  accepted-since (Err fault) s e answer n ledger a = let z : ⊥ = cc in absurd z

  pub judged-so : (h' : H) (r' : R) (answer : Result Ledger Fault) (answered : Result (Unit {0}) Fault) (s : State key.Value)
      → limits_of key house rival h' r' ≡ limits_of key house rival h r → both_empty (house.keys h) (rival.keys r) ≡ true
      → judged key.equal key.reading key.LETTER (limits_of key house rival h r) page plan ≡ (answered, s)
      → outcome (answered, s) ≡ (numbers_of answer, (values_of key (house.keys h'), values_of key (rival.keys r')))
      → Judged key house rival page plan h r answer h' r'
  judged-so h' r' answer answered s limits void e g =
      let accepted = accepted-since answered s e answer (sym (ap (λ (j : Result Sums Fault × (List key.Value × List key.Value)). j.0) g)) in
      record {
        limits = limits;
        gives = cond-true _ _ _ void ∙ ap outcome e ∙ g;
        untouched = λ full. let z : true ≡ false = sym void ∙ full in let y : ⊥ = cc in absurd y;
        accepts = λ _ sums a.
            let j = accepted-judged key.equal key.reading key.LETTER (limits_of key house rival h r) page plan sums a in
            sym (ap (λ (j : Result Sums Fault × (List key.Value × List key.Value)). j.0) g) ∙ ap (λ (j : Result (Unit {0}) Fault × State key.Value). (outcome j).0) (sym e ∙ j.1) ∙ ap Ok j.2;
        accepted = accepted;
        costs = λ ledger a. (sums_of ledger, accepted ledger a, refl);
        bounded = λ limits sums a. accepted-twice key.equal key.reading key.LETTER decides limits page plan sums a;
        floored = λ limits limits' plan' sums sums' a b. plans-floor key.equal key.reading key.LETTER decides limits limits' page plan plan' sums sums' a b;
        none_below = λ limits sums plays. accepted-floor key.equal key.reading key.LETTER decides limits page plan sums plays;
      }

  -- on lines that hold keys nothing is done
  pub judged-full : {answer : Result Ledger Fault} → both_empty (house.keys h) (rival.keys r) ≡ false → answer ≡ Err (fault_on Page 0 NotEmpty) → Judged key house rival page plan h r answer h r
  judged-full {answer} full a = record {
    limits = refl;
    gives = cond-false _ _ _ full ∙ ap (λ n. (n, (values_of key (house.keys h), values_of key (rival.keys r)))) (sym (ap numbers_of a));
    untouched = λ _. (refl, refl);
    accepts = λ void. let z : true ≡ false = sym void ∙ full in let y : ⊥ = cc in absurd y;
    accepted = λ ledger b. let z : ⊥ = cc in absurd z;
    costs = λ ledger b. let z : ⊥ = cc in absurd z;
    bounded = λ limits sums a. accepted-twice key.equal key.reading key.LETTER decides limits page plan sums a;
    floored = λ limits limits' plan' sums sums' a b. plans-floor key.equal key.reading key.LETTER decides limits limits' page plan plan' sums sums' a b;
    none_below = λ limits sums plays. accepted-floor key.equal key.reading key.LETTER decides limits page plan sums plays;
  }

-- an answer behind what was said of it
pub said-err : {T : Type 0} (log : Log) (at : ℕ) (answer : Result T Denial) (fault : Fault) → said_of log at answer ≡ Err fault → (denial : Denial) × (answer ≡ Err denial) × (fault ≡ fault_on log at denial)
said-err log at (Ok x) fault e = let z : ⊥ = cc in absurd z
said-err log at (Err denial) fault e = (denial, refl, cc)

pub said_ok : {T : Type 0} (log : Log) (at : ℕ) (answer : Result T Denial) (x : T) → said_of log at answer ≡ Ok x → answer ≡ Ok x
said_ok log at (Ok y) x e = cc
said_ok log at (Err denial) x e = let z : ⊥ = cc in absurd z

-- whether a bench was opened
opened-ok : {S T : Type 0} (b : Bool) (meaning : S → T) (start : T) (x : S) → meant meaning (Ok x) ≡ cond b (Ok start) (Err NotEmpty) → (b ≡ true) × (meaning x ≡ start)
opened-ok true meaning start x e = (refl, cc)
opened-ok false meaning start x e = let z : ⊥ = cc in absurd z

opened-err : {S T : Type 0} (b : Bool) (meaning : S → T) (start : T) (denial : Denial) → meant meaning (Err denial) ≡ cond b (Ok start) (Err NotEmpty) → (b ≡ false) × (denial ≡ NotEmpty)
opened-err true meaning start denial e = let z : ⊥ = cc in absurd z
opened-err false meaning start denial e = (refl, cc)

-- the outcome of an answer, without its numbers
abbrev pub outcome_of : Result Ledger Fault → Result (Unit {0}) Fault
outcome_of (Ok ledger) = Ok tt
outcome_of (Err fault) = Err fault

module _ {K H R : Type 0} (key : KeyMeaning K) (house : LineMeaning H K) (rival : LineMeaning R K) (h : H) (r : R) where
  pub bench-opened : (result : Result Loading Denial) (bench : Loading) → meant (λ (s : Loading). bench_of key house rival h r s.ledger) result ≡ opened key house rival h r → result ≡ Ok bench
      → (both_empty (house.keys h) (rival.keys r) ≡ true) × (bench_of key house rival h r bench.ledger ≡ empty)
  bench-opened result bench e a =
      opened-ok (both_empty (house.keys h) (rival.keys r)) (λ (s : Loading). bench_of key house rival h r s.ledger) empty bench
      (ap (meant (λ (s : Loading). bench_of key house rival h r s.ledger)) (sym a) ∙ e)

  pub bench-denied : (result : Result Loading Denial) (denial : Denial) → meant (λ (s : Loading). bench_of key house rival h r s.ledger) result ≡ opened key house rival h r → result ≡ Err denial
      → (both_empty (house.keys h) (rival.keys r) ≡ false) × (denial ≡ NotEmpty)
  bench-denied result denial e a =
      opened-err (both_empty (house.keys h) (rival.keys r)) (λ (s : Loading). bench_of key house rival h r s.ledger) empty denial
      (ap (meant (λ (s : Loading). bench_of key house rival h r s.ledger)) (sym a) ∙ e)

  -- the script of two logs whose headers were read
  pub script-read : (page plan : List ℕ) (reader : PageReader) (reader' : PlanReader)
      → lettered_in key.LETTER (versioned page) ≡ Ok (left_of reader.cursor) → reader.requested ≡ false → passed_of reader.cursor ≡ 0
      → versioned plan ≡ Ok (left_of reader'.cursor)
      → script_of key.reading key.LETTER page plan ≡ loading_from key reader (plan_left reader')
  unfolding page_left plan_left
  script-read page plan reader reader' e requested passed f =
      ap (λ head. headed key.reading head (versioned plan)) e
      ∙ ap (headed key.reading (Ok (left_of reader.cursor))) f
      ∙ ap (λ n. loading n (page_items key.reading (left_of reader.cursor)).0 (page_items key.reading (left_of reader.cursor)).1 (plan_moves (left_of reader'.cursor)).0 (plan_moves (left_of reader'.cursor)).1) (sym passed)
      ∙ ap (λ b. loading (passed_of reader.cursor) (page_items_from key.reading b (left_of reader.cursor)).0 (page_items_from key.reading b (left_of reader.cursor)).1 (plan_moves (left_of reader'.cursor)).0 (plan_moves (left_of reader'.cursor)).1) (sym requested)

  -- and what was judged of them
  last-played : (h' : H) (r' : R) (ledger' : Ledger) (answer : Result Ledger Fault)
      → played key.equal (limits_of key house rival h r) (bench_of key house rival h' r' ledger') (resuming answer (λ _. nothing)) ≡ (outcome_of answer, bench_of key house rival h' r' ledger')
  last-played h' r' ledger' (Ok ledger) = refl
  last-played h' r' ledger' (Err fault) = refl

  given-last : (h' : H) (r' : R) (ledger' : Ledger) (answer : Result Ledger Fault) → ((given : Ledger) → answer ≡ Ok given → given ≡ ledger')
      → outcome (outcome_of answer, bench_of key house rival h' r' ledger') ≡ (numbers_of answer, (values_of key (house.keys h'), values_of key (rival.keys r')))
  given-last h' r' ledger' (Ok ledger) gives = ap (λ (l : Ledger). (Ok (sums_of l), (values_of key (house.keys h'), values_of key (rival.keys r')))) (sym (gives ledger refl))
  given-last h' r' ledger' (Err fault) gives = refl

  pub judged-played : (decides : (v w : key.Value) → Decides (key.equal v w) (v ≡ w)) (page plan : List ℕ) (ledger : Ledger) (reader : PageReader) (reader' : PlanReader) (answer : Result Ledger Fault) (h' : H) (r' : R)
      → both_empty (house.keys h) (rival.keys r) ≡ true → bench_of key house rival h r ledger ≡ empty
      → script_of key.reading key.LETTER page plan ≡ loading_from key reader (plan_left reader')
      → PlayedOut key house rival h r ledger reader reader' answer h' r' → Judged key house rival page plan h r answer h' r'
  judged-played decides page plan ledger reader reader' answer h' r' void fresh script out =
      let limits = limits_of key house rival h r in
      judged-so key house rival decides page plan h r h' r' answer (outcome_of answer) (bench_of key house rival h' r' out.ledger')
      out.continues.limits void
      (ap (played key.equal limits empty) script ∙ ap (λ s. played key.equal limits s (loading_from key reader (plan_left reader'))) (sym fresh) ∙ out.continues.onward ∙ last-played h' r' out.ledger' answer)
      (given-last h' r' out.ledger' answer out.gives)
