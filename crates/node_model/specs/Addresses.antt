-- A client's request of a shared address. It comes to the president, which chooses the node that serves it.
use Rattle.std.specs.Prelude.{ℕ, List, [], ◌∷◌, ◌++◌, Option, None, Some}
use Rattle.address_targets.specs.Targets.{targets_of}
use Rattle.ccr_tables.specs.State.{ConfigState}
use Rattle.ccr_tables.specs.declared.address.Address.{Address}
use Rattle.rg_props.specs.Lookups.{named}
use Rattle.shared_address.specs.Choosing.{Outcome, Request, asked, chosen}
use Rattle.shared_address.specs.History.{state_of, with_state}
use Rattle.shared_address.specs.declared.choice.Client.{Client}
use Rattle.status_report.specs.declared.address_entry.AddressEntry.TheVariants.{Forgot, Served}
use Rattle.status_report.specs.declared.entry.Entry.TheVariants as entry
use Rattle.status_report.specs.declared.schedule_entry.SkipCause.{SkipCause}
use Rattle.status_report.specs.declared.schedule_entry.SkipCause.TheVariants as skip
use Rattle.node_model.specs.declared.cluster.Cluster.{Cluster}
use Rattle.node_model.specs.declared.node.Node.{Node}
use Rattle.node_model.specs.declared.node.Node.TheVariants as node
use Rattle.node_model.specs.declared.node.UpNode.{UpNode}
use Rattle.node_model.specs.declared.output.Output.{Output}
use Rattle.node_model.specs.declared.output.Output.TheVariants.{Tells}
use Rattle.node_model.specs.declared.presidency.Presidency.{Presidency}
use Rattle.node_model.specs.Configurations.{in_force}
use Rattle.node_model.specs.Plans.{Plan}
use Rattle.node_model.specs.Plans.Plan.{Stays, Says}

-- the client that is forgotten is told first, then the node that serves

abbrev pub forgot_lines : List ℕ → Option Client → List Output
forgot_lines name None = []
forgot_lines name (Some k) = Tells (entry.Address (Forgot name k.address k.port)) ∷ []

abbrev pub served_lines : List ℕ → ℕ → ℕ → Outcome → List Output
served_lines name client port o = forgot_lines name o.forgot ++ Tells (entry.Address (Served name client port o.node)) ∷ []

-- The targets are the members where the address's group is online by what the president knows, under the configuration in force.

abbrev pub request_for : ConfigState → Presidency → Address → ℕ → ℕ → Request
request_for s p a client port = asked a.policy client port (targets_of s p.groups.view a)

abbrev pub serving : UpNode → Presidency → List ℕ → ℕ → ℕ → Outcome → Plan
serving x p name client port o =
    Says (served_lines name client port o) (Stays (record x { presidency = Some (record p { balancer = with_state p.balancer name o.after }) }))

abbrev pub serving_at : ConfigState → UpNode → Presidency → List ℕ → ℕ → ℕ → Option Address → Plan
serving_at s x p name client port None = Stays x
serving_at s x p name client port (Some a) = serving x p name client port (chosen (state_of p.balancer name) (request_for s p a client port))

abbrev pub serving_by : Cluster → UpNode → List ℕ → ℕ → ℕ → Option Presidency → Plan
serving_by c x name client port None = Stays x
serving_by c x name client port (Some p) = serving_at (in_force c x) x p name client port (named (in_force c x).addresses name)

abbrev pub on_client : Cluster → UpNode → List ℕ → ℕ → ℕ → Plan
on_client c x name client port = serving_by c x name client port x.presidency

-- Why a node that is up does not take the request: it is no president, or the configuration in force has no such address.

abbrev pub if_unknown : Option Address → Option SkipCause
if_unknown None = Some skip.NoAddress
if_unknown (Some a) = None

abbrev pub refusal_by : Cluster → UpNode → List ℕ → Option Presidency → Option SkipCause
refusal_by c x name None = Some skip.NoPresident
refusal_by c x name (Some p) = if_unknown (named (in_force c x).addresses name)

abbrev pub refusal_at : Cluster → List ℕ → Node → Option SkipCause
refusal_at c name node.Down = None
refusal_at c name (node.Up x) = refusal_by c x name x.presidency
