-- The two bounds, of accepted plans.
use Rattle.std.proofs.Common.{◌≡◌, ℕ, ◌≤◌, Bool, List, [], ◌∷◌, ◌++◌, map, Decides, Option, sym, refl, ap, ◌∙◌, subst, append_assoc}
use Rattle.reckoning.specs.Reckoning.{Sums, State, Limits, Call, exchange, close, empty, step, cost_of}
use Rattle.reckoning.specs.Twice.{Twice}
use Rattle.reckoning.specs.Floor.{floor_of, Demand, load_of, lookup_of, add_of, remove_of, demanded, unless_denied, granted_from, granted, NoneBelow}
use Rattle.reckoning.proofs.Bound.{twice-law, floor-law}
use Rattle.logs.specs.Items.{Asked, Item, first, request, page_items}
use Rattle.logs.specs.Items.{lookup as looks_up, add as adds, remove as removes}
use Rattle.acceptance.specs.Scripts.{request_call}
use Rattle.acceptance.specs.Accepted.{PageSpells, Turn, turn_calls, all_calls, whole_calls, whole_entries, NoneDenied, Accepted}

module _ {V : Type 0} where
  -- what a page record demands
  asked_demand : Asked V → Demand V
  asked_demand (looks_up v) = lookup_of v
  asked_demand (adds v) = add_of v
  asked_demand (removes v) = remove_of v

  entry_demand : Item V → Demand V
  entry_demand (first v) = load_of v
  entry_demand (request asked) = asked_demand asked

  all_demanded : List (Call V) → List (Demand V)
  all_demanded [] = []
  all_demanded (call ∷ calls) = demanded call ++ all_demanded calls

  request-demands : (asked : Asked V) (goal : ℕ) → demanded (request_call asked goal) ≡ asked_demand asked ∷ []
  unfolding asked_demand
  request-demands (looks_up v) goal = refl
  request-demands (adds v) goal = refl
  request-demands (removes v) goal = refl

  -- exchanges demand nothing
  turn-demands : (exchanges : List ℕ) (asked : Asked V) (goal : ℕ) (calls : List (Call V))
      → all_demanded ((map exchange exchanges ++ request_call asked goal ∷ []) ++ calls) ≡ asked_demand asked ∷ all_demanded calls
  unfolding all_demanded
  turn-demands [] asked goal calls = ap (λ ds. ds ++ all_demanded calls) (request-demands asked goal)
  turn-demands (place ∷ exchanges) asked goal calls = turn-demands exchanges asked goal calls

  turns-demand : (turns : List (Turn V)) → all_demanded (all_calls turns ++ close ∷ []) ≡ map entry_demand (map (λ (turn : Turn V). request turn.asked) turns)
  unfolding all_demanded entry_demand
  turns-demand [] = refl
  turns-demand (turn ∷ turns) =
      ap all_demanded (append_assoc (turn_calls turn) (all_calls turns) (close ∷ []))
      ∙ turn-demands turn.exchanges turn.asked turn.goal (all_calls turns ++ close ∷ [])
      ∙ ap (λ ds. asked_demand turn.asked ∷ ds) (turns-demand turns)

  -- a page's calls demand what its records do
  whole-demands : (firsts : List V) (turns : List (Turn V)) → all_demanded (whole_calls firsts turns) ≡ map entry_demand (whole_entries firsts turns)
  unfolding all_demanded entry_demand
  whole-demands [] turns = turns-demand turns
  whole-demands (v ∷ firsts) turns = ap (λ ds. load_of v ∷ ds) (whole-demands firsts turns)

  -- a page log spells one list of records
  page-spells-one : (reading : List ℕ → Option V) (letter : ℕ) (page : List ℕ) (entries entries' : List (Item V)) → PageSpells reading letter page entries → PageSpells reading letter page entries' → entries ≡ entries'
  page-spells-one reading letter page entries entries' a b =
      let same : a.0 ≡ b.0 = let x = a.1 in let y = b.1 in cc in
      let all = sym a.2 ∙ ap (page_items reading) same ∙ b.2 in
      ap (λ p. p.0) all

module _ {V : Type 0} (equal : V → V → Bool) where
  none-denied-granted : (limits : Limits) (s : State V) (calls : List (Call V)) → NoneDenied equal limits s calls → granted_from equal limits s calls ≡ all_demanded calls
  unfolding all_demanded
  none-denied-granted limits s [] none = refl
  none-denied-granted limits s (call ∷ calls) none =
      ap (λ answer. unless_denied answer (demanded call) ++ granted_from equal limits (step equal limits call s).1 calls) none.0
      ∙ ap (λ ds. demanded call ++ ds) (none-denied-granted limits (step equal limits call s).1 calls none.1)

  module _ (reading : List ℕ → Option V) (letter : ℕ) where
    -- what an accepted plan's page grants is what its records demand
    accepted-granted : (limits : Limits) (page plan : List ℕ) (sums : Sums) (a : Accepted equal reading letter limits page plan sums)
        → granted equal limits (whole_calls a.firsts a.turns) ≡ map entry_demand (whole_entries a.firsts a.turns)
    accepted-granted limits page plan sums a = none-denied-granted limits empty (whole_calls a.firsts a.turns) a.none_denied ∙ whole-demands a.firsts a.turns

    module _ (decides : (v w : V) → Decides (equal v w) (v ≡ w)) where
      pub accepted-twice : (limits : Limits) (page plan : List ℕ) (sums : Sums) → Accepted equal reading letter limits page plan sums → Twice sums
      accepted-twice limits page plan sums a = subst Twice (sym a.reckons) (twice-law equal decides limits (whole_calls a.firsts a.turns))

      pub accepted-floor : (limits : Limits) (page plan : List ℕ) (sums : Sums) (a : Accepted equal reading letter limits page plan sums)
          → NoneBelow equal limits (whole_calls a.firsts a.turns) sums
      accepted-floor limits page plan sums a =
          let calls = whole_calls a.firsts a.turns in
          subst (NoneBelow equal limits calls) (sym a.reckons) (floor-law equal decides limits calls)

      -- two plans that are accepted for one page are granted the same
      pub plans-floor : (limits limits' : Limits) (page plan plan' : List ℕ) (sums sums' : Sums) → Accepted equal reading letter limits page plan sums → Accepted equal reading letter limits' page plan' sums'
          → floor_of sums ≤ cost_of sums'
      plans-floor limits limits' page plan plan' sums sums' a b =
          let same = page-spells-one reading letter page (whole_entries a.firsts a.turns) (whole_entries b.firsts b.turns) a.page_spells b.page_spells in
          let least = accepted-floor limits page plan sums a limits' (whole_calls b.firsts b.turns)
          (accepted-granted limits page plan sums a ∙ ap (map entry_demand) same ∙ sym (accepted-granted limits' page plan' sums' b)) in
          subst (λ (n : Sums). floor_of sums ≤ cost_of n) (sym b.reckons) least
