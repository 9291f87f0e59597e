-- An order is carried out. What stands here unfolds only where it is named.
use Rattle.std.specs.Prelude.{ℕ, ◌≡◌, Bool, false, List, Option, None, Some, is_some, Result, Ok, Err}
use Rattle.ccr_tables.specs.State.{ConfigState}
use Rattle.cl_base.specs.declared.method.Method.{Method}
use Rattle.cl_base.specs.declared.method.Outcome.{Outcome}
use Rattle.rg_props.specs.Words.{name_in}
use Rattle.rgm_member.specs.Orders.{answer_to}
use Rattle.rgm_member.specs.Outcomes.{is_fatal}
use Rattle.rgm_member.specs.declared.carried.Carried.{Carried}
use Rattle.rgm_member.specs.declared.carried.Carried.TheVariants.{Called, Cleared, Kept, Old}
use Rattle.wire.specs.declared.message.Order.{Order}
use Rattle.node_model.specs.declared.cluster.Cluster.{Cluster}
use Rattle.node_model.specs.declared.node.UpNode.{UpNode}
use Rattle.node_model.specs.declared.output.Output.{Output}
use Rattle.node_model.specs.declared.stop.Stop.{Stop}
use Rattle.node_model.specs.declared.stop.Stop.TheVariants.{Down, NoMemory}
use Rattle.node_model.specs.Configurations.{own_config}
use Rattle.node_model.specs.Groups.{carrying, worked}
use Rattle.node_model.specs.Plans.{Gives}

-- the text is a name
abbrev pub names : List ℕ → Bool
names text = is_some (name_in text)

-- what the order comes to
unfoldable pub carried_so : UpNode → Order → Outcome → Carried
carried_so x o outcome = answer_to x.worker o outcome

-- a failure to stop that the node does not survive, under this configuration

abbrev pub is_fatal_under : ConfigState → Order → Outcome → Option Method → Bool
is_fatal_under config o outcome None = false
is_fatal_under config o outcome (Some m) = is_fatal config o.resource m outcome

abbrev pub is_last_under : ConfigState → Order → Carried → Bool
is_last_under config o (Called outcome) = is_fatal_under config o outcome o.method
is_last_under config o Cleared = false
is_last_under config o (Kept outcome) = false
is_last_under config o Old = false

unfoldable pub is_last_so : Cluster → UpNode → Order → Carried → Bool
is_last_so c x o carried = is_last_under (own_config c x) o carried

-- the node then
unfoldable pub worked_so : Cluster → UpNode → Order → Carried → UpNode
worked_so c x o carried = worked c x o carried

-- What carrying out an order comes to: what became of it is handed back where the node is up after it.
unfoldable pub Carries : Cluster → ℕ → UpNode → Order → Outcome → Result Carried Stop → UpNode → List Output → List Output → Type 0
Carries c me x o outcome (Ok carried) after given told = (carried ≡ answer_to x.worker o outcome) × Gives (carrying c me x o carried) given (Ok after) told
Carries c me x o outcome (Err (Down why)) after given told = Gives (carrying c me x o (answer_to x.worker o outcome)) given (Err (Down why)) told
Carries c me x o outcome (Err NoMemory) after given told = Unit {0}
