-- The orders that a president has outstanding stay safe, under one configuration.
use Rattle.std.specs.Prelude.{◌≡◌, ℕ, ◌≤◌, ◌<◌, ◌^◌, Bool, List, Option, None, Some, length}
use Rattle.cl_base.specs.declared.command.Ask.{Ask}
use Rattle.cl_base.specs.declared.command.Ask.TheVariants.{Restart, Move, Remaster, Evacuate, Clear}
use Rattle.cl_base.specs.declared.method.Outcome.{Outcome}
use Rattle.cl_base.specs.Limits.{most_nodes}
use Rattle.rg_view.specs.declared.orders.Outstanding.{Outstanding}
use Rattle.rg_view.specs.Orders.{order_of}
use Rattle.ccr_tables.specs.declared.update.Update.{Update}
use Rattle.ccr_tables.specs.State.{ConfigState}
use Rattle.sequencer_laws.specs.Laws.{GoalsAreManaged}
use Rattle.sequencer_laws.specs.Orders.{AreApart, OrdersAreSafe}
use Rattle.wire.specs.declared.report.Report.{Report}
use Rattle.rgm_president.specs.Acts.{president_of, with_ask, with_done, with_update}
use Rattle.rgm_president.specs.Decisions.{decision}
use Rattle.rgm_president.specs.State.{PresidentState}

-- each order stands at its node
abbrev pub AreOwn : List (Option Outstanding) → Type 0
AreOwn orders = (n : ℕ) (o : Outstanding) → 1 ≤ n → order_of orders n ≡ Some o → o.node ≡ n

-- The members are nodes 1 to 32, there is a place for the order of each, orders stand at their nodes; and each outstanding order is an allowed call over
-- each map of flags that the view may stand for and in which it has not succeeded yet.
pub record HoldsOrders (c : ConfigState) (p : PresidentState) : Type 0 where
  pub members : p.view.members < 2 ^ 32
  pub places : length p.view.outstanding ≡ most_nodes
  pub own : AreOwn p.view.outstanding
  pub safe : OrdersAreSafe c.groups c.types c.limits p.view

-- So it is as a membership begins.
abbrev pub SafeAtFirst : Type 0
SafeAtFirst = (c : ConfigState) (e members : ℕ) (reports : List (ℕ × Report)) (now : ℕ) → members < 2 ^ 32
    → HoldsOrders c (president_of c e members reports now)

-- So it stays over a decision, with the orders that it gives.
abbrev pub DecisionsStaySafe : Type 0
DecisionsStaySafe = (c : ConfigState) (now : ℕ) (held_up : Bool) (p : PresidentState)
    → AreApart c.groups → HoldsOrders c p → HoldsOrders c (decision c now held_up p).president

-- So it stays as a node tells that an order ended, with success or not.
abbrev pub DoneStaysSafe : Type 0
DoneStaysSafe = (c : ConfigState) (from number : ℕ) (outcome : Outcome) (now : ℕ) (p : PresidentState)
    → HoldsOrders c p → HoldsOrders c (with_done c from number outcome now p)

-- a clear is asked for a node
abbrev pub IsOfNode : Ask → Type 0
IsOfNode (Clear r n) = (1 ≤ n) × (n ≤ most_nodes)
IsOfNode (Restart r) = Unit {0}
IsOfNode (Move r) = Unit {0}
IsOfNode (Remaster g) = Unit {0}
IsOfNode (Evacuate n) = Unit {0}

-- So it stays as something is asked for.
abbrev pub AsksStaySafe : Type 0
AsksStaySafe = (c : ConfigState) (from : ℕ) (what : Ask) (now : ℕ) (p : PresidentState)
    → IsOfNode what → HoldsOrders c p → HoldsOrders c (with_ask c from what now p)

-- No decision leaves a goal node to a group that is not managed.
abbrev pub DecidedGoalsAreManaged : Type 0
DecidedGoalsAreManaged = (c : ConfigState) (now : ℕ) (held_up : Bool) (p : PresidentState) → GoalsAreManaged c.groups (decision c now held_up p).president.view

-- nothing is outstanding
abbrev pub NothingIsOutstanding : PresidentState → Type 0
NothingIsOutstanding p = (n : ℕ) → order_of p.view.outstanding n ≡ None

-- Updates are taken up only where nothing is outstanding: so it is under the configuration with the update.
abbrev pub UpdatesStaySafe : Type 0
UpdatesStaySafe = (c new : ConfigState) (u : Update) (p : PresidentState) → NothingIsOutstanding p → HoldsOrders c p → HoldsOrders new (with_update new u p)
