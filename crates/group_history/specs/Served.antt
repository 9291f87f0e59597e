-- What holds of the answers to clients of shared addresses, by their lines: whom they are served by, how often, and that they stick.
use Rattle.std.specs.Prelude.{◌≡◌, ◌≢◌, ℕ, List, [], ◌∷◌, ◌++◌, Option, Some, None, true, count_by, All}
use Rattle.std.specs.List.{AllByRecursion}
use Rattle.cl_base.specs.declared.command.Policy.TheVariants.{StickyPort, Sticky}
use Rattle.shared_address.specs.declared.choice.Client.{Client}
use Rattle.shared_address.specs.declared.choice.Target.{Target}
use Rattle.shared_address.specs.Choosing.{Outcome, is_target, total_weight, weight_of}
use Rattle.shared_address.specs.History.{outcome_after}
use Rattle.shared_address.specs.Laws.{is_turn_of}
use Rattle.history.specs.Moment.{Moment}
use Rattle.group_history.specs.Setting.{Groups}
use Rattle.group_history.specs.Addresses.{Answered, answers_in, requests_of}

-- ---- Served by targets: by one of them, and by none exactly where there is none

abbrev pub IsChoice : List Target → Option ℕ → Type 0
IsChoice targets None = targets ≡ []
IsChoice targets (Some n) = is_target targets n ≡ true

abbrev pub IsByTarget : Answered → Type 0
IsByTarget a = IsChoice a.request.targets a.node

abbrev pub ServedByTargets : Groups → ℕ → List ℕ → List Moment → Type 0
ServedByTargets S e name moments = AllByRecursion IsByTarget (answers_in S e name moments)

-- ---- Weights exact: among answers in succession with the same targets, so many of which took a turn as the sum of the weights, each node was
-- chosen by turns exactly as often as its weight

-- what came of a request: a turn was taken as the requests before say, and the lines tell the rest
abbrev pub told : Answered → Outcome → Outcome
told a o = record o { node = a.node; forgot = a.forgot }

abbrev pub outcomes_told : List Answered → List Answered → List Outcome
outcomes_told [] before = []
outcomes_told (a ∷ later) before = told a (outcome_after (requests_of later ++ requests_of before) a.request) ∷ outcomes_told later before

abbrev pub WeightsExact : Groups → ℕ → List ℕ → List Moment → Type 0
WeightsExact S e name moments = (later before : List Answered) (targets : List Target) → answers_in S e name moments ≡ later ++ before
    → All (λ a. a.request.targets ≡ targets) later → count_by (λ o. o.turn) (outcomes_told later before) ≡ total_weight targets
    → (n : ℕ) → count_by (is_turn_of n) (outcomes_told later before) ≡ weight_of targets n

-- ---- Sticky: a client gets the node of its first request, while that is a target and no line tells that the client is forgotten

pub record StaysTold (first : Answered) (between : List Answered) (last : Answered) (client : Client) (n : ℕ) : Type 0 where
  pub answered : first.node ≡ Some n
  pub target : AllByRecursion (λ a. is_target a.request.targets n ≡ true) (last ∷ between)
  pub kept : AllByRecursion (λ a. a.forgot ≢ Some client) between

abbrev pub PortsStick : Groups → ℕ → List ℕ → List Moment → Type 0
PortsStick S e name moments = (later between before : List Answered) (first last : Answered) (n : ℕ) → answers_in S e name moments ≡ later ++ last ∷ (between ++ first ∷ before)
    → first.request.policy ≡ StickyPort → last.request.policy ≡ StickyPort → last.request.address ≡ first.request.address → last.request.port ≡ first.request.port
    → StaysTold first between last (record { address = first.request.address; port = first.request.port }) n → last.node ≡ Some n

abbrev pub ClientsStick : Groups → ℕ → List ℕ → List Moment → Type 0
ClientsStick S e name moments = (later between before : List Answered) (first last : Answered) (n : ℕ) → answers_in S e name moments ≡ later ++ last ∷ (between ++ first ∷ before)
    → first.request.policy ≡ Sticky → last.request.policy ≡ Sticky → last.request.address ≡ first.request.address
    → StaysTold first between last (record { address = first.request.address; port = 0 }) n → last.node ≡ Some n
