-- The president takes the outcome of an order. What stands here unfolds only where it is named.
use Rattle.std.specs.Prelude.{ℕ, ◌≡◌, Bool, true, false, List, Option, None, Some, Ok, if◌then◌else◌}
use Rattle.std.specs.Option.{option_map}
use Rattle.ccr_tables.specs.State.{ConfigState}
use Rattle.cl_base.specs.declared.method.Outcome.{Outcome}
use Rattle.rgm_president.specs.Acts.{with_done}
use Rattle.rgm_state.specs.Outcomes as order
use Rattle.sent_orders.specs.Ages as ages
use Rattle.node_model.specs.declared.cluster.Cluster.{Cluster}
use Rattle.node_model.specs.declared.node.UpNode.{UpNode}
use Rattle.node_model.specs.declared.output.Output.{Output}
use Rattle.node_model.specs.declared.presidency.Presidency.{Presidency}
use Rattle.node_model.specs.Configurations.{in_force}
use Rattle.node_model.specs.Deciding.{deciding}
use Rattle.node_model.specs.Groups.{done_at}
use Rattle.node_model.specs.Plans.{Plan, Gives}

-- that order is outstanding at the node
unfoldable pub ends_at : Presidency → ℕ → ℕ → Bool
ends_at p from number = order.is_due p.groups.view from number

abbrev pub ends_by : Option Presidency → ℕ → ℕ → Bool
ends_by None from number = false
ends_by (Some p) from number = ends_at p from number

-- that counts under the configuration in force; of any other nothing changes
unfoldable pub ended_under : ConfigState → ℕ → ℕ → Outcome → ℕ → Presidency → Presidency
ended_under s from number outcome now p =
    if order.is_due p.groups.view from number then record p { groups = with_done s from number outcome now p.groups; sent = ages.with_ended p.sent from } else p

unfoldable pub after_end : Cluster → UpNode → ℕ → ℕ → Outcome → UpNode
after_end c x from number outcome = record x { presidency = option_map (ended_under (in_force c x) from number outcome x.second) x.presidency }

-- what the president then does
unfoldable pub ending : Cluster → ℕ → UpNode → ℕ → ℕ → Outcome → Plan
ending c me x from number outcome = done_at c me x from number outcome x.presidency

-- What taking the outcome and deciding comes to: whether the order is outstanding is handed back.
unfoldable pub Ends : Cluster → ℕ → UpNode → ℕ → ℕ → Outcome → Bool → UpNode → List Output → List Output → Type 0
Ends c me x from number outcome true after given told = (ends_by x.presidency from number ≡ true) × Gives (deciding c me (after_end c x from number outcome)) given (Ok after) told
Ends c me x from number outcome false after given told = (ends_by x.presidency from number ≡ false) × (after ≡ after_end c x from number outcome) × (told ≡ given)
