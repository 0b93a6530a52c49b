-- The judge accepts just the accepted plans: what a script without a fault was read from, and what a run without a denial reckons.
use Rattle.std.proofs.Common.{◌≡◌, ℕ, suc, Bool, true, List, [], ◌∷◌, ◌++◌, map, Some, None, Ok, Err, Option, Result, sym, refl, ap, ◌∙◌, subst, inl, inr, append_assoc}
use Rattle.std.proofs.lemmas.Bool.{cases_Bool, cond-true, cond-false}
use Rattle.keys.specs.declared.denial.Denial.{Denial}
use Rattle.reckoning.specs.Reckoning.{Sums, State, Limits, Call, load, start, exchange, close, empty, step, reckoned_from, reckoned}
use Rattle.logs.specs.declared.fault.Fault.{Fault}
use Rattle.logs.specs.declared.plans.Move.{Move}
use Rattle.logs.specs.declared.plans.Move.TheVariants.{Exchange, Goal}
use Rattle.logs.specs.Framing.{versioned, lettered_in}
use Rattle.logs.specs.Items.{Asked, Item, first, request, page_items}
use Rattle.logs.specs.Plans.{plan_moves}
use Rattle.acceptance.specs.Scripts.{Spelled, Script, calling, request_call, goal_fits, requesting, asking, ending, serving, loading, headed, script_of}
use Rattle.acceptance.specs.Judgement.{lastly, settling, played_from, played, judged}
use Rattle.acceptance.specs.Accepted.{Turn, turn_moves, all_moves, all_calls, whole_calls, whole_entries, AllFit, NoneDenied, Accepted}

-- calls without the records that they are read from
abbrev bare : {V : Type 0} → List (Spelled V) → List (Call V)
bare calls = map (λ spelled. spelled.call) calls

abbrev calls_of : {V : Type 0} → Script V → List (Call V)
calls_of script = bare script.calls

abbrev fault_of : {V : Type 0} → Script V → Option Fault
fault_of script = script.fault

-- what is read on, from so many moves, those left and the fault behind them
abbrev Onward : Type 0 → Type 0
Onward V = ℕ → List Move → Option Denial → Script V

abbrev requests : {V : Type 0} → List (Turn V) → List (Item V)
requests = map (λ turn. request turn.asked)

-- a script has no fault, and these are its calls
record Plays {V : Type 0} (script : Script V) (calls : List (Call V)) : Type 0 where
  whole : script.fault ≡ None
  makes : calls_of script ≡ calls

-- two contradictions
no-fault : {T A : Type 0} (x : A) → ◌≡◌ {A = Option A} (Some x) None → T
no-fault x e = let z : ⊥ = cc in absurd z

no-denial : {T E : Type 0} (x : E) → ◌≡◌ {A = Result (Unit {0}) E} (Err x) (Ok tt) → T
no-denial x e = let z : ⊥ = cc in absurd z

pair : {A B : Type 0} {p : A × B} {a : A} {b : B} → p.0 ≡ a → p.1 ≡ b → p ≡ (a, b)
pair {p = p} {a = a} e f = ap (λ x. (x, p.1)) e ∙ ap (λ y. (a, y)) f

module _ {V : Type 0} where
  -- the moves and the calls of a turn and of those behind it
  moves_more : (turn : Turn V) (moves : List Move)
      → turn_moves turn ++ moves ≡ map Exchange turn.exchanges ++ Goal turn.goal ∷ moves
  moves_more turn moves = append_assoc (map Exchange turn.exchanges) (Goal turn.goal ∷ []) moves

  calls-more : (turn : Turn V) (turns : List (Turn V)) (calls : List (Call V))
      → all_calls (turn ∷ turns) ++ calls
      ≡ map exchange turn.exchanges ++ request_call turn.asked turn.goal ∷ (all_calls turns ++ calls)
  calls-more turn turns calls = simp append_assoc

  -- a request with its goal
  requesting-fits : (asked : Asked V) (goal page plan : ℕ) (rest : Script V)
      → (requesting asked goal page plan rest).fault ≡ None
      → (goal_fits asked goal ≡ true) × (requesting asked goal page plan rest ≡ calling (request_call asked goal) page plan rest)
  requesting-fits asked goal page plan rest e =
      elim (cases_Bool (goal_fits asked goal)) [
        | inl t ↦ (t, cond-true (goal_fits asked goal) _ _ t)
        | inr f ↦ no-fault _ (sym (ap fault_of (cond-false (goal_fits asked goal) _ _ f)) ∙ e)
      ]

  -- what a request takes of the moves, where no fault comes of it
  record Served (asked : Asked V) (onward : Onward V) (moves : List Move) (fault : Option Denial) (script : Script V) : Type 0 where
    exchanges : List ℕ
    goal : ℕ
    read : ℕ
    rest : List Move
    planned : moves ≡ map Exchange exchanges ++ Goal goal ∷ rest
    fits : goal_fits asked goal ≡ true
    whole : (onward read rest fault).fault ≡ None
    makes : calls_of script ≡ map exchange exchanges ++ request_call asked goal ∷ calls_of (onward read rest fault)

  asking-served : (asked : Asked V) (page : ℕ) (onward : Onward V) (read : ℕ) (moves : List Move) (fault : Option Denial)
      → (asking asked page onward read moves fault).fault ≡ None
      → Served asked onward moves fault (asking asked page onward read moves fault)
  asking-served asked page onward read [] None e = no-fault _ e
  asking-served asked page onward read [] (Some denial) e = no-fault _ e
  asking-served asked page onward read (Exchange place ∷ moves) fault e =
      let s = asking-served asked page onward (suc read) moves fault e in
      record {
        exchanges = place ∷ s.exchanges;
        goal = s.goal;
        read = s.read;
        rest = s.rest;
        planned = ap (λ ms. Exchange place ∷ ms) s.planned;
        fits = s.fits;
        whole = s.whole;
        makes = ap (λ cs. exchange place ∷ cs) s.makes;
      }
  asking-served asked page onward read (Goal goal ∷ moves) fault e =
      let r = requesting-fits asked goal page (suc read) (onward (suc read) moves fault) e in
      record {
        exchanges = [];
        goal = goal;
        read = suc read;
        rest = moves;
        planned = refl;
        fits = r.0;
        whole = sym (ap fault_of r.1) ∙ e;
        makes = ap calls_of r.1;
      }

  -- a turn is asked for, and its calls come before those behind it
  asking-plays : (turn : Turn V) (page : ℕ) (onward : Onward V) (read : ℕ) (exchanges : List ℕ)
      (moves : List Move) (calls : List (Call V))
      → goal_fits turn.asked turn.goal ≡ true → ((read' : ℕ) → Plays (onward read' moves None) calls)
      → Plays (asking turn.asked page onward read (map Exchange exchanges ++ Goal turn.goal ∷ moves) None)
      (map exchange exchanges ++ request_call turn.asked turn.goal ∷ calls)
  asking-plays turn page onward read [] moves calls fits behind =
      let r : requesting turn.asked turn.goal page (suc read) (onward (suc read) moves None) ≡ calling (request_call turn.asked turn.goal) page (suc read) (onward (suc read) moves None) = cond-true (goal_fits turn.asked turn.goal) _ _ fits in
      let p = behind (suc read) in
      record {
        whole = ap fault_of r ∙ p.whole;
        makes = ap calls_of r ∙ ap (λ cs. request_call turn.asked turn.goal ∷ cs) p.makes;
      }
  asking-plays turn page onward read (place ∷ exchanges) moves calls fits behind =
      let p = asking-plays turn page onward (suc read) exchanges moves calls fits behind in
      record { whole = p.whole; makes = ap (λ cs. exchange place ∷ cs) p.makes }

  -- the turns that records and moves spell together
  record Takes (entries : List (Item V)) (broken : Option Denial) (moves : List Move) (fault : Option Denial) (script : Script V) : Type 0 where
    turns : List (Turn V)
    asks : entries ≡ requests turns
    unbroken : broken ≡ None
    planned : moves ≡ all_moves turns
    faultless : fault ≡ None
    fits : AllFit turns
    makes : calls_of script ≡ all_calls turns ++ close ∷ []

  ending-takes : (read : ℕ) (moves : List Move) (fault : Option Denial)
      → (ending {V = V} read moves fault).fault ≡ None → Takes [] None moves fault (ending read moves fault)
  ending-takes read [] None e =
      record { turns = []; asks = refl; unbroken = refl; planned = refl; faultless = refl; fits = tt; makes = refl }
  ending-takes read [] (Some denial) e = no-fault _ e
  ending-takes read (move ∷ moves) fault e = no-fault _ e

  serving-takes : (passed : ℕ) (entries : List (Item V)) (broken : Option Denial)
      (read : ℕ) (moves : List Move) (fault : Option Denial)
      → (serving passed entries broken read moves fault).fault ≡ None
      → Takes entries broken moves fault (serving passed entries broken read moves fault)
  serving-takes passed [] None read moves fault e = ending-takes read moves fault e
  serving-takes passed [] (Some denial) read moves fault e = no-fault _ e
  serving-takes passed (first v ∷ entries) broken read moves fault e = no-fault _ e
  serving-takes passed (request asked ∷ entries) broken read moves fault e =
      let s = asking-served asked (suc passed) (serving (suc passed) entries broken) read moves fault e in
      let t = serving-takes (suc passed) entries broken s.read s.rest fault s.whole in
      let turn : Turn V = record { asked = asked; exchanges = s.exchanges; goal = s.goal } in
      let plan : List Move → List Move = λ ms. map Exchange s.exchanges ++ Goal s.goal ∷ ms in
      let made : List (Call V) → List (Call V) = λ cs. map exchange s.exchanges ++ request_call asked s.goal ∷ cs in
      record {
        turns = turn ∷ t.turns;
        asks = ap (λ es. request asked ∷ es) t.asks;
        unbroken = t.unbroken;
        planned = s.planned ∙ ap plan t.planned ∙ sym (moves_more turn (all_moves t.turns));
        faultless = t.faultless;
        fits = (s.fits, t.fits);
        makes = s.makes ∙ ap made t.makes ∙ sym (calls-more turn t.turns (close ∷ []));
      }

  serving-plays : (turns : List (Turn V)) (passed read : ℕ) → AllFit turns
      → Plays (serving passed (requests turns) None read (all_moves turns) None) (all_calls turns ++ close ∷ [])
  serving-plays [] passed read fits = record { whole = refl; makes = refl }
  serving-plays (turn ∷ turns) passed read fits =
      let onward = serving (suc passed) (requests turns) None in
      let behind = λ (read' : ℕ). serving-plays turns (suc passed) read' fits.1 in
      rw (moves_more, calls-more)
      (asking-plays turn (suc passed) onward read turn.exchanges (all_moves turns) _ fits.0 behind)

  -- and with the first keys
  record Spells (entries : List (Item V)) (broken : Option Denial) (moves : List Move) (fault : Option Denial) (script : Script V) : Type 0 where
    firsts : List V
    turns : List (Turn V)
    asks : entries ≡ whole_entries firsts turns
    unbroken : broken ≡ None
    planned : moves ≡ all_moves turns
    faultless : fault ≡ None
    fits : AllFit turns
    makes : calls_of script ≡ whole_calls firsts turns

  started : (entries : List (Item V)) (broken : Option Denial) (moves : List Move) (fault : Option Denial) (script : Script V)
      → Takes entries broken moves fault script → Spells entries broken moves fault (calling start 0 0 script)
  started entries broken moves fault script t = record {
    firsts = [];
    turns = t.turns;
    asks = t.asks;
    unbroken = t.unbroken;
    planned = t.planned;
    faultless = t.faultless;
    fits = t.fits;
    makes = ap (λ cs. start ∷ cs) t.makes;
  }

  loading-spells : (passed : ℕ) (entries : List (Item V)) (broken : Option Denial) (moves : List Move) (fault : Option Denial)
      → (loading passed entries broken moves fault).fault ≡ None
      → Spells entries broken moves fault (loading passed entries broken moves fault)
  loading-spells passed [] None moves fault e = started [] None moves fault (ending 0 moves fault) (ending-takes 0 moves fault e)
  loading-spells passed [] (Some denial) moves fault e = no-fault _ e
  loading-spells passed (first v ∷ entries) broken moves fault e =
      let s = loading-spells (suc passed) entries broken moves fault e in
      record {
        firsts = v ∷ s.firsts;
        turns = s.turns;
        asks = ap (λ es. first v ∷ es) s.asks;
        unbroken = s.unbroken;
        planned = s.planned;
        faultless = s.faultless;
        fits = s.fits;
        makes = ap (λ cs. load v ∷ cs) s.makes;
      }
  loading-spells passed (request asked ∷ entries) broken moves fault e =
      let all = request asked ∷ entries in
      started all broken moves fault (serving passed all broken 0 moves fault) (serving-takes passed all broken 0 moves fault e)

  loading-plays : (firsts : List V) (turns : List (Turn V)) (passed : ℕ) → AllFit turns
      → Plays (loading passed (whole_entries firsts turns) None (all_moves turns) None) (whole_calls firsts turns)
  loading-plays [] [] passed fits = record { whole = refl; makes = refl }
  loading-plays [] (turn ∷ turns) passed fits =
      let p = serving-plays (turn ∷ turns) passed 0 fits in
      record { whole = p.whole; makes = ap (λ cs. start ∷ cs) p.makes }
  loading-plays (v ∷ firsts) turns passed fits =
      let p = loading-plays firsts turns (suc passed) fits in
      record { whole = p.whole; makes = ap (λ cs. load v ∷ cs) p.makes }

  -- and behind the headers
  headed-spells : (reading : List ℕ → Option V) (page plan : Result (List ℕ) Denial) → (headed reading page plan).fault ≡ None
      → (p q : List ℕ) × (page ≡ Ok p) × (plan ≡ Ok q)
      × Spells (page_items reading p).0 (page_items reading p).1 (plan_moves q).0 (plan_moves q).1 (headed reading page plan)
  headed-spells reading (Err denial) plan e = no-fault _ e
  headed-spells reading (Ok page) (Err denial) e = no-fault _ e
  headed-spells reading (Ok page) (Ok plan) e =
      let (entries, broken) = page_items reading page in
      let (moves, fault) = plan_moves plan in
      (page, plan, refl, refl, loading-spells 0 entries broken moves fault e)

  headed-plays : (reading : List ℕ → Option V) (page plan : Result (List ℕ) Denial) (p q : List ℕ)
      (firsts : List V) (turns : List (Turn V)) → page ≡ Ok p → plan ≡ Ok q
      → page_items reading p ≡ (whole_entries firsts turns, None) → plan_moves q ≡ (all_moves turns, None) → AllFit turns
      → Plays (headed reading page plan) (whole_calls firsts turns)
  headed-plays reading page plan p q firsts turns page_head plan_head records moves fits =
      rw (page_head, plan_head, records, moves) (loading-plays firsts turns 0 fits)

-- what a run says, and its bench
abbrev Said : Type 0 → Type 0
Said V = Result (Unit {0}) Fault × State V

module _ {V : Type 0} where
  -- a run that ends well goes on behind each call, and so has done it
  settled : (spelled : Spelled V) (answer : Result (Unit {0}) Denial × State V) (onward : State V → Said V) (after : State V)
      → settling spelled answer onward ≡ (Ok tt, after) → (answer.0 ≡ Ok tt) × (onward answer.1 ≡ (Ok tt, after))
  settled spelled (Ok done, s) onward after e = (refl, e)
  settled spelled (Err denial, s) onward after e = no-denial _ (ap (λ (said : Said V). said.0) e)

  settling-done : (spelled : Spelled V) (answer : Result (Unit {0}) Denial × State V) (onward : State V → Said V)
      → answer.0 ≡ Ok tt → settling spelled answer onward ≡ onward answer.1
  settling-done spelled (Ok done, s) onward e = refl
  settling-done spelled (Err denial, s) onward e = no-denial _ e

  lastly-done : (fault : Option Fault) (s after : State V) → ◌≡◌ {A = Said V} (lastly fault, s) (Ok tt, after)
      → (fault ≡ None) × (after ≡ s)
  lastly-done None s after e = (refl, sym (ap (λ (said : Said V). said.1) e))
  lastly-done (Some fault) s after e = no-denial _ (ap (λ (said : Said V). said.0) e)

module _ {V : Type 0} (equal : V → V → Bool) where
  -- a run that ends well has no fault behind it and none of its calls is denied, and the bench is the reckoning's
  played-granted : (limits : Limits) (s after : State V) (calls : List (Spelled V)) (fault : Option Fault)
      → played_from equal limits s calls fault ≡ (Ok tt, after)
      → (fault ≡ None) × NoneDenied equal limits s (bare calls) × (after ≡ reckoned_from equal limits s (bare calls))
  played-granted limits s after [] fault e = let l = lastly-done fault s after e in (l.0, tt, l.1)
  played-granted limits s after (spelled ∷ calls) fault e =
      let answer = step equal limits spelled.call s in
      let d = settled spelled answer (λ next. played_from equal limits next calls fault) after e in
      let p = played-granted limits answer.1 after calls fault d.1 in
      (p.0, (d.0, p.1), p.2)

  granted-played : (limits : Limits) (s : State V) (calls : List (Spelled V)) → NoneDenied equal limits s (bare calls)
      → played_from equal limits s calls None ≡ (Ok tt, reckoned_from equal limits s (bare calls))
  granted-played limits s [] granted = refl
  granted-played limits s (spelled ∷ calls) granted =
      let answer = step equal limits spelled.call s in
      settling-done spelled answer (λ next. played_from equal limits next calls None) granted.0
      ∙ granted-played limits answer.1 calls granted.1

  script-played : (limits : Limits) (s : State V) (script : Script V) (calls : List (Call V))
      → Plays script calls → NoneDenied equal limits s calls
      → played equal limits s script ≡ (Ok tt, reckoned_from equal limits s calls)
  script-played limits s script calls plays granted =
      ap (played_from equal limits s script.calls) plays.whole
      ∙ granted-played limits s script.calls (subst (NoneDenied equal limits s) (sym plays.makes) granted)
      ∙ ap (λ cs. (Ok tt, reckoned_from equal limits s cs)) plays.makes

module _ {V : Type 0} (equal : V → V → Bool) (reading : List ℕ → Option V) (letter : ℕ) where
  -- an accepted plan is judged so, with its numbers
  pub accepted-judged : (limits : Limits) (page plan : List ℕ) (sums : Sums) → Accepted equal reading letter limits page plan sums
      → (s : State V) × (judged equal reading letter limits page plan ≡ (Ok tt, s)) × (s.sums ≡ sums)
  accepted-judged limits page plan sums a =
      let calls = whole_calls a.firsts a.turns in
      let (p, page_head, records) = a.page_spells in
      let (q, plan_head, moves) = a.plan_spells in
      let plays : Plays (script_of reading letter page plan) calls =
      headed-plays reading _ _ p q a.firsts a.turns page_head plan_head records moves a.fits in
      (reckoned equal limits calls, script-played equal limits empty _ calls plays a.none_denied, sym a.reckons)

  -- and a plan that is judged so is accepted
  pub judged-accepted : (limits : Limits) (page plan : List ℕ) (s : State V)
      → judged equal reading letter limits page plan ≡ (Ok tt, s)
      → Accepted equal reading letter limits page plan s.sums
  judged-accepted limits page plan s e =
      let script = script_of reading letter page plan in
      let p = played-granted equal limits empty s script.calls script.fault e in
      let h = headed-spells reading (lettered_in letter (versioned page)) (versioned plan) p.0 in
      let spells = h.4 in
      record {
        firsts = spells.firsts;
        turns = spells.turns;
        page_spells = (h.0, h.2, pair spells.asks spells.unbroken);
        plan_spells = (h.1, h.3, pair spells.planned spells.faultless);
        fits = spells.fits;
        none_denied = subst (NoneDenied equal limits empty) spells.makes p.1;
        reckons = ap (λ t. t.sums) (p.2 ∙ ap (reckoned equal limits) spells.makes);
      }
