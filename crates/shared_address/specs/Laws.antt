-- What holds of all requests for an address, whatever their number. Requests stand newest first.
use Rattle.std.specs.Prelude.{ℕ, ◌≡◌, ◌≢◌, ◌≤◌, ◌==◌, Bool, true, false, ◌&&◌, List, ◌∷◌, ◌++◌, Option, None, Some, length, map, count_by, All}
use Rattle.std.specs.List.Sorted.{IsStrictlyIncreasing}
use Rattle.shared_address.specs.declared.choice.Client.{Client}
use Rattle.cl_base.specs.declared.command.Policy.TheVariants.{StickyPort, Sticky}
use Rattle.shared_address.specs.declared.choice.Target.{Target}
use Rattle.shared_address.specs.Choosing.{Request, Outcome, is_target, total_weight, weight_of, most_kept}
use Rattle.shared_address.specs.History.{state_after, outcome_after, outcomes}

abbrev pub is_node : ℕ → Option ℕ → Bool
is_node n None = false
is_node n (Some m) = m == n

-- whether the request took a turn, and got this node
abbrev pub is_turn_of : ℕ → Outcome → Bool
is_turn_of n o = o.turn && is_node n o.node

-- Weights are exact: among requests in succession that show the same targets, so many of which took a turn as the sum of the weights,
-- each node was chosen by turns exactly as often as its weight.
abbrev pub WeightsAreExact : Type 0
WeightsAreExact = (before later : List Request) (targets : List Target) → IsStrictlyIncreasing (map (λ t. t.node) targets)
    → All (λ r. r.targets ≡ targets) later → count_by (λ o. o.turn) (outcomes later before) ≡ total_weight targets
    → (n : ℕ) → count_by (is_turn_of n) (outcomes later before) ≡ weight_of targets n

-- From the first request to the last the node is a target, and none between them makes the client forgotten.
pub record StaysBetween (before : List Request) (first : Request) (between : List Request) (last : Request) (client : Client) (n : ℕ) : Type 0 where
  pub answered : (outcome_after before first).node ≡ Some n
  pub target : All (λ r. is_target r.targets n ≡ true) (last ∷ between)
  pub kept : All (λ o. o.forgot ≢ Some client) (outcomes between (first ∷ before))

-- Under StickyPort a client gets at the same port the same node, while that is a target and the client with that port is not forgotten.
abbrev pub PortsStick : Type 0
PortsStick = (before : List Request) (first : Request) (between : List Request) (last : Request) (n : ℕ)
    → first.policy ≡ StickyPort → last.policy ≡ StickyPort → last.address ≡ first.address → last.port ≡ first.port
    → StaysBetween before first between last (record { address = first.address; port = first.port }) n
    → (outcome_after (between ++ first ∷ before) last).node ≡ Some n

-- Under Sticky it does so at every port.
abbrev pub ClientsStick : Type 0
ClientsStick = (before : List Request) (first : Request) (between : List Request) (last : Request) (n : ℕ)
    → first.policy ≡ Sticky → last.policy ≡ Sticky → last.address ≡ first.address
    → StaysBetween before first between last (record { address = first.address; port = 0 }) n
    → (outcome_after (between ++ first ∷ before) last).node ≡ Some n

-- An address never keeps more entries than it may.
abbrev pub FewAreKept : Type 0
FewAreKept = (requests : List Request) → length (state_after requests).kept ≤ most_kept
