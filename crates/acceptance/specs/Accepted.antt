-- Accepted plans: the page log and the plan log together spell a list of bench calls of which none is denied.
use Rattle.std.specs.Prelude.{◌≡◌, ℕ, Bool, true, List, [], ◌∷◌, ◌++◌, map, None, Ok, Option}
use Rattle.reckoning.specs.Reckoning.{Sums, State, Limits, Call, load, start, exchange, close, empty, step, reckoned, cost_of}
use Rattle.logs.specs.declared.plans.Move.{Move}
use Rattle.logs.specs.declared.plans.Move.TheVariants.{Exchange, Goal}
use Rattle.logs.specs.Framing.{versioned, lettered_in}
use Rattle.logs.specs.Items.{Asked, Item, first, request, page_items}
use Rattle.logs.specs.Plans.{plan_moves}
use Rattle.acceptance.specs.Scripts.{request_call, goal_fits}
use Rattle.acceptance.specs.Judgement.{judged}

-- a log spells records: its header is right, and these are its records up to its end
abbrev pub PageSpells : {V : Type 0} → (List ℕ → Option V) → ℕ → List ℕ → List (Item V) → Type 0
PageSpells reading letter page entries = (body : List ℕ) × (lettered_in letter (versioned page) ≡ Ok body) × (page_items reading body ≡ (entries, None))

abbrev pub PlanSpells : List ℕ → List Move → Type 0
PlanSpells plan moves = (body : List ℕ) × (versioned plan ≡ Ok body) × (plan_moves body ≡ (moves, None))

-- a request of the page, and what the plan says for it: the exchanges before it, and its goal
pub record Turn (V : Type 0) : Type 0 where
  pub asked : Asked V
  pub exchanges : List ℕ
  pub goal : ℕ

module _ {V : Type 0} where
  -- the moves of the plan for a turn, and for all
  abbrev pub turn_moves : Turn V → List Move
  turn_moves turn = map Exchange turn.exchanges ++ Goal turn.goal ∷ []

  abbrev pub all_moves : List (Turn V) → List Move
  all_moves [] = []
  all_moves (turn ∷ turns) = turn_moves turn ++ all_moves turns

  -- the bench calls of a turn, and of all
  abbrev pub turn_calls : Turn V → List (Call V)
  turn_calls turn = map exchange turn.exchanges ++ request_call turn.asked turn.goal ∷ []

  abbrev pub all_calls : List (Turn V) → List (Call V)
  all_calls [] = []
  all_calls (turn ∷ turns) = turn_calls turn ++ all_calls turns

  -- the calls of a whole page: its first keys are loaded, the bench is started, the turns are taken, and the bench is closed
  abbrev pub whole_calls : List V → List (Turn V) → List (Call V)
  whole_calls firsts turns = map load firsts ++ start ∷ (all_calls turns ++ close ∷ [])

  -- the page's records
  abbrev pub whole_entries : List V → List (Turn V) → List (Item V)
  whole_entries firsts turns = map first firsts ++ map (λ (turn : Turn V). request turn.asked) turns

  -- each goal fits its request
  abbrev pub AllFit : List (Turn V) → Type 0
  AllFit [] = Unit {0}
  AllFit (turn ∷ turns) = (goal_fits turn.asked turn.goal ≡ true) × AllFit turns

module _ {V : Type 0} (equal : V → V → Bool) where
  -- none of the calls is denied, from a bench on
  abbrev pub NoneDenied : Limits → State V → List (Call V) → Type 0
  NoneDenied limits s [] = Unit {0}
  NoneDenied limits s (call ∷ calls) = ((step equal limits call s).0 ≡ Ok tt) × NoneDenied limits (step equal limits call s).1 calls

  -- a plan is accepted for a page, on two empty lines of these limits, and these are the numbers then
  pub record Accepted (reading : List ℕ → Option V) (letter : ℕ) (limits : Limits) (page plan : List ℕ) (sums : Sums) : Type 0 where
    pub firsts : List V
    pub turns : List (Turn V)
    pub page_spells : PageSpells reading letter page (whole_entries firsts turns)
    pub plan_spells : PlanSpells plan (all_moves turns)
    pub fits : AllFit turns
    pub none_denied : NoneDenied limits empty (whole_calls firsts turns)
    pub reckons : sums ≡ (reckoned equal limits (whole_calls firsts turns)).sums

  -- and this is its cost
  abbrev pub AcceptedAt : (List ℕ → Option V) → ℕ → Limits → List ℕ → List ℕ → ℕ → Type 0
  AcceptedAt reading letter limits page plan cost = (sums : Sums) × Accepted reading letter limits page plan sums × (cost ≡ cost_of sums)

  -- the judge's definition accepts just the accepted plans
  pub record AcceptsThem (reading : List ℕ → Option V) (letter : ℕ) : Type 0 where
    pub accepts : (limits : Limits) (page plan : List ℕ) (sums : Sums) → Accepted reading letter limits page plan sums
        → (s : State V) × (judged equal reading letter limits page plan ≡ (Ok tt, s)) × (s.sums ≡ sums)
    pub accepted : (limits : Limits) (page plan : List ℕ) (s : State V) → judged equal reading letter limits page plan ≡ (Ok tt, s)
        → Accepted reading letter limits page plan s.sums
