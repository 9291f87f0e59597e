-- A client's request of a shared address: nothing is sent.
use Rattle.std.proofs.Common.{ℕ, List, [], ◌∷◌, Option, Some, None, IfSome}
use Rattle.ccr_tables.specs.State.{ConfigState}
use Rattle.ccr_tables.specs.declared.address.Address.{Address}
use Rattle.rg_props.specs.Lookups.{named}
use Rattle.shared_address.specs.Choosing.{Outcome, chosen}
use Rattle.shared_address.specs.History.{state_of, with_state}
use Rattle.shared_address.specs.declared.choice.Client.{Client}
use Rattle.status_report.specs.declared.address_entry.AddressEntry.TheVariants.{Served}
use Rattle.status_report.specs.declared.entry.Entry.TheVariants as entry
use Rattle.node_model.specs.Addresses as addresses
use Rattle.node_model.specs.Addresses.{forgot_lines, request_for, served_lines}
use Rattle.node_model.specs.Configurations.{in_force}
use Rattle.node_model.specs.declared.cluster.Cluster.{Cluster}
use Rattle.node_model.specs.declared.node.UpNode.{UpNode}
use Rattle.node_model.specs.declared.output.Output.TheVariants.{Tells}
use Rattle.node_model.specs.declared.presidency.Presidency.{Presidency}
use Rattle.refinement.specs.node_widths.Plans.{PlanFits}
use Rattle.refinement.specs.node_widths.Widths.{AllFit, PresidencyFits, UpFits}
use Rattle.refinement.proofs.node_widths.Nodes.{both_fit, with_requests_fits}

forgot_fits : (name : List ℕ) (o : Option Client) → AllFit (forgot_lines name o)
forgot_fits name None = tt
forgot_fits name (Some k) = tt

served_fits : (name : List ℕ) (client port : ℕ) (o : Outcome) → AllFit (served_lines name client port o)
served_fits name client port o = both_fit (forgot_lines name o.forgot) (Tells (entry.Address (Served name client port o.node)) ∷ []) (forgot_fits name o.forgot) tt

serves_at : (c : Cluster) (n : ℕ) (s : ConfigState) (x : UpNode) (p : Presidency) (name : List ℕ) (client port : ℕ) (o : Option Address) → PresidencyFits p → UpFits c n x
    → PlanFits c n (addresses.serving_at s x p name client port o)
serves_at c n s x p name client port None office h = h
serves_at c n s x p name client port (Some a) office h =
    let o : Outcome = chosen (state_of p.balancer name) (request_for s p a client port) in
    (served_fits name client port o, with_requests_fits c n x x.requests (Some (record p { balancer = with_state p.balancer name o.after })) h.asked office h)

serves_by : (c : Cluster) (n : ℕ) (x : UpNode) (name : List ℕ) (client port : ℕ) (o : Option Presidency) → IfSome o PresidencyFits → UpFits c n x
    → PlanFits c n (addresses.serving_by c x name client port o)
serves_by c n x name client port None office h = h
serves_by c n x name client port (Some p) office h = serves_at c n (in_force c x) x p name client port (named (in_force c x).addresses name) office h

pub client_so : (c : Cluster) (n : ℕ) (x : UpNode) (name : List ℕ) (client port : ℕ) → UpFits c n x → PlanFits c n (addresses.on_client c x name client port)
client_so c n x name client port h = serves_by c n x name client port x.presidency h.presides h
