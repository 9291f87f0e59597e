-- Which method a node is to call in a step, if it is to call one: that of an order that comes, or at a tick of the president's own.
use Rattle.std.specs.Prelude.{ℕ, ◌&&◌, Bool, Option, None, Some, if◌then◌else◌}
use Rattle.rgm_member.specs.Dues.{due_of}
use Rattle.rgm_member.specs.declared.due.Due.{Due}
use Rattle.wire.specs.declared.message.Body.{Body}
use Rattle.wire.specs.declared.message.Body.TheVariants as body
use Rattle.wire.specs.declared.message.Order.{Order}
use Rattle.node_model.specs.declared.cluster.Cluster.{Cluster}
use Rattle.node_model.specs.declared.input.Input.{Input}
use Rattle.node_model.specs.declared.input.Input.TheVariants.{Boot, Crash, Tick, Packet, CommandDue, Answered, Wrote, Commanded, Reported, Client}
use Rattle.node_model.specs.declared.node.Node.{Node}
use Rattle.node_model.specs.declared.node.Node.TheVariants as node
use Rattle.node_model.specs.declared.node.UpNode.{UpNode}
use Rattle.node_model.specs.Configurations.{own_config}
use Rattle.node_model.specs.Groups.{own_order}
use Rattle.node_model.specs.Seats.{is_in, is_member}

abbrev pub due_for : Cluster → ℕ → UpNode → Option Order → Option Due
due_for c now x None = None
due_for c now x (Some o) = due_of x.worker (own_config c x) o now

abbrev pub order_in : Body → Option Order
order_in (body.Order o) = Some o
order_in _ = None

abbrev pub is_for : UpNode → Order → Bool
is_for x o = is_member x.seat && is_in x o.epoch

abbrev pub of_membership : UpNode → Option Order → Option Order
of_membership x None = None
of_membership x (Some o) = if is_for x o then Some o else None

abbrev pub order_due : ℕ → UpNode → Input → Option Order
order_due me x Tick = own_order me x
order_due me x (Packet from m) = of_membership x (order_in m.body)
order_due me x Boot = None
order_due me x Crash = None
order_due me x CommandDue = None
order_due me x (Answered a) = None
order_due me x (Wrote d value a) = None
order_due me x (Commanded words) = None
order_due me x (Reported r good) = None
order_due me x (Client address client port) = None

abbrev pub call_due : Cluster → ℕ → ℕ → Node → Input → Option Due
call_due c me now node.Down i = None
call_due c me now (node.Up x) i = due_for c now x (order_due me x i)
