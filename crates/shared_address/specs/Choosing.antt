-- How the node is chosen for a client's request of a shared address.
use Rattle.std.specs.Prelude.{ℕ, ◌≡◌, IsSome, ◌+◌, ◌≤◌, ◌==◌, nat_lt, Bool, true, false, ◌&&◌, not, List, [], ◌∷◌, ◌++◌, Option, None, Some, if◌then◌else◌, length, drop, replicate, slice_get, slice_index, All}
use Rattle.std.specs.List.{filter, find, flat_map, list_any, sum_by}
use Rattle.std.specs.Map.{lookup}
use Rattle.std.specs.Option.{option_map, option_map_or}
use Rattle.std.specs.Cmp.Lexicographic.{pointwise}
use Rattle.shared_address.specs.declared.choice.Choice.{Choice}
use Rattle.shared_address.specs.declared.choice.Client.{Client}
use Rattle.cl_base.specs.declared.command.Policy.{Policy}
use Rattle.cl_base.specs.declared.command.Policy.TheVariants.{Weighted, StickyPort, Sticky}
use Rattle.shared_address.specs.declared.choice.Target.{Target}
use Rattle.shared_address.specs.States.{TurnState, AddressState}

-- Targets.

-- each weight is 1 to 1000
abbrev pub HaveWeights : List Target → Type 0
HaveWeights targets = All (λ t. (1 ≤ t.weight) × (t.weight ≤ 1000)) targets

-- whether the node is one of the targets
abbrev pub is_target : List Target → ℕ → Bool
is_target targets n = list_any (λ t. t.node == n) targets

-- the sum of the weights
abbrev pub total_weight : List Target → ℕ
total_weight targets = sum_by (λ t. t.weight) targets

-- the weight of the node, 0 where it is no target
abbrev pub weight_of : List Target → ℕ → ℕ
weight_of targets n = option_map_or (λ t. t.weight) (find (λ t. t.node == n) targets) 0

abbrev pub same_target : Target → Target → Bool
same_target t u = (t.node == u.node) && (t.weight == u.weight)

-- Turns.

-- one round: the nodes in order, each as often in a row as its weight
abbrev pub round_of : List Target → List ℕ
round_of targets = flat_map (λ t. replicate t.weight t.node) targets

-- A request shows the targets. The turns begin anew where these differ from those at the last request.
abbrev pub seen : TurnState → List Target → TurnState
seen turns targets = if pointwise same_target turns.targets targets then turns else record { targets = targets; taken = 0 }

-- the node whose turn is next
abbrev pub next_node : TurnState → ℕ
next_node turns = slice_index (round_of turns.targets) turns.taken

-- after this turn; the last of a round is followed by the first
abbrev pub after_turn : TurnState → TurnState
after_turn turns = record { targets = turns.targets; taken = if turns.taken + 1 == total_weight turns.targets then 0 else turns.taken + 1 }

-- Kept clients.

-- the client that a node is kept with: with no regard to its port under Sticky, and none under Weighted
abbrev pub kept_client : Policy → ℕ → ℕ → Option Client
kept_client Weighted address port = None
kept_client StickyPort address port = Some (record { address = address; port = port })
kept_client Sticky address port = Some (record { address = address; port = 0 })

abbrev pub same_client : Client → Client → Bool
same_client c d = (c.address == d.address) && (c.port == d.port)

-- the node, where it is a target
abbrev pub if_target : List Target → Option ℕ → Option ℕ
if_target targets None = None
if_target targets (Some n) = if is_target targets n then Some n else None

-- the node kept with the client, where it is still a target
abbrev pub kept_target : List (Client × ℕ) → Client → List Target → Option ℕ
kept_target kept client targets = if_target targets (lookup (same_client client) kept)

-- the entries of the other clients
abbrev pub others : List (Client × ℕ) → Client → List (Client × ℕ)
others kept client = filter (λ e. not (same_client client e.0)) kept

-- so many entries an address keeps at most
abbrev pub most_kept : ℕ
most_kept = 1024

-- who is forgotten where one more is to be kept beside these: the first, where they are as many as can be
abbrev pub forgotten_of : List (Client × ℕ) → Option Client
forgotten_of kept = if nat_lt (length kept) most_kept then None else option_map (λ e. e.0) (slice_get kept 0)

-- the entries that stay where one more is to be kept
abbrev pub staying : List (Client × ℕ) → List (Client × ℕ)
staying kept = if nat_lt (length kept) most_kept then kept else drop 1 kept

-- the client's old entry goes, and it is kept last with this node
abbrev pub keeping : List (Client × ℕ) → Client → ℕ → List (Client × ℕ)
keeping kept client n = staying (others kept client) ++ (client, n) ∷ []

-- Requests.

-- what comes of a request: the answer, whether a turn was taken, and what is left
pub record Outcome : Type 0 where
  pub node : Option ℕ
  pub forgot : Option Client
  pub turn : Bool
  pub after : AddressState

-- the next turn, with no entry
abbrev pub by_turn : AddressState → Outcome
by_turn s = record { node = Some (next_node s.turns); forgot = None; turn = true; after = record { turns = after_turn s.turns; kept = s.kept } }

-- the next turn, which is kept
abbrev pub by_kept_turn : AddressState → Client → Outcome
by_kept_turn s client =
    record {
      node = Some (next_node s.turns);
      forgot = forgotten_of (others s.kept client);
      turn = true;
      after = record { turns = after_turn s.turns; kept = keeping s.kept client (next_node s.turns) };
    }

-- with no turn, and nothing kept or forgotten
abbrev pub without_turn : AddressState → Option ℕ → Outcome
without_turn s node = record { node = node; forgot = None; turn = false; after = s }

-- a client that is kept with a target gets that node, another the next turn
abbrev pub by_entry : AddressState → Client → Option ℕ → Outcome
by_entry s client None = by_kept_turn s client
by_entry s client (Some n) = without_turn s (Some n)

abbrev pub by_client : AddressState → Option Client → List Target → Outcome
by_client s None targets = by_turn s
by_client s (Some client) targets = by_entry s client (kept_target s.kept client targets)

-- Without a target there is no answer.
abbrev pub by_targets : AddressState → Option Client → List Target → Outcome
by_targets s client targets = if length targets == 0 then without_turn s None else by_client s client targets

abbrev pub served : AddressState → Option Client → List Target → Outcome
served s client targets = by_targets (record { turns = seen s.turns targets; kept = s.kept }) client targets

-- Memory is wanted where the targets differ from those at the last request, or where a turn is to be kept, and never else.
abbrev pub WantsMemory : AddressState → Option Client → List Target → Type 0
WantsMemory s client targets = pointwise same_target s.turns.targets targets ≡ true → IsSome client × ((served s client targets).turn ≡ true)

-- a request: the address's policy, the client's address and port, and the targets
pub record Request : Type 0 where
  pub policy : Policy
  pub address : ℕ
  pub port : ℕ
  pub targets : List Target

abbrev pub asked : Policy → ℕ → ℕ → List Target → Request
asked policy address port targets = record { policy = policy; address = address; port = port; targets = targets }

abbrev pub chosen : AddressState → Request → Outcome
chosen s r = served s (kept_client r.policy r.address r.port) r.targets

abbrev pub answer_of : Outcome → Choice
answer_of o = record { node = o.node; forgot = o.forgot }
