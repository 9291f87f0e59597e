-- A client's request of a shared address: nothing is sent.
use Rattle.std.proofs.Common.{◌≡◌, ℕ, List, [], ◌∷◌, ◌++◌, Option, Some, None, IfSome, refl}
use Rattle.ccr_tables.specs.State.{ConfigState}
use Rattle.ccr_tables.specs.declared.address.Address.{Address}
use Rattle.rg_props.specs.Lookups.{named}
use Rattle.shared_address.specs.Choosing.{Outcome, chosen}
use Rattle.shared_address.specs.History.{state_of, with_state}
use Rattle.shared_address.specs.declared.choice.Client.{Client}
use Rattle.status_report.specs.declared.address_entry.AddressEntry.TheVariants.{Served}
use Rattle.status_report.specs.declared.entry.Entry.TheVariants as entry
use Rattle.node_model.specs.Addresses as addresses
use Rattle.node_model.specs.Addresses.{forgot_lines, request_for, served_lines}
use Rattle.node_model.specs.Configurations.{in_force}
use Rattle.node_model.specs.Plans.Plan.{Stays}
use Rattle.node_model.specs.declared.cluster.Cluster.{Cluster}
use Rattle.node_model.specs.declared.node.UpNode.{UpNode}
use Rattle.node_model.specs.declared.output.Output.TheVariants.{Tells}
use Rattle.node_model.specs.declared.presidency.Presidency.{Presidency}
use Rattle.refinement.specs.node_bounds.Bounded.{OfficeIsBounded, UpIsBounded}
use Rattle.refinement.specs.node_bounds.Sends.{sends_of}
use Rattle.refinement.proofs.node_bounds.Plans.{Costs, stays, tells}

served_quiet : (name : List ℕ) (client port : ℕ) (o : Option Client) (by : Option ℕ) → sends_of (forgot_lines name o ++ Tells (entry.Address (Served name client port by)) ∷ []) ≡ 0
served_quiet name client port None by = refl
served_quiet name client port (Some k) by = refl

serves_at : (s : ConfigState) (x : UpNode) (p : Presidency) (name : List ℕ) (client port : ℕ) (o : Option Address) → OfficeIsBounded p → UpIsBounded x
    → Costs 0 (addresses.serving_at s x p name client port o)
serves_at s x p name client port None office h = stays x 0 h
serves_at s x p name client port (Some a) office h =
    let o : Outcome = chosen (state_of p.balancer name) (request_for s p a client port) in
    let y : UpNode = record x { presidency = Some (record p { balancer = with_state p.balancer name o.after }) } in
    tells (served_lines name client port o) (Stays y) 0 (served_quiet name client port o.forgot o.node) (stays y 0 (record { own = h.own; few = h.few; presides = office }))

serves_by : (c : Cluster) (x : UpNode) (name : List ℕ) (client port : ℕ) (o : Option Presidency) → IfSome o OfficeIsBounded → UpIsBounded x → Costs 0 (addresses.serving_by c x name client port o)
serves_by c x name client port None office h = stays x 0 h
serves_by c x name client port (Some p) office h = serves_at (in_force c x) x p name client port (named (in_force c x).addresses name) office h

pub client_costs : (c : Cluster) (x : UpNode) (name : List ℕ) (client port : ℕ) → UpIsBounded x → Costs 0 (addresses.on_client c x name client port)
client_costs c x name client port h = serves_by c x name client port x.presidency h.presides h
