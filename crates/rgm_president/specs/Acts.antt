-- What the president does of reports, outcomes, updates and asks.
use Rattle.std.specs.Prelude.{◌≡◌, ℕ, List, Option, None, Some}
use Rattle.cl_base.specs.declared.command.Ask.{Ask}
use Rattle.cl_base.specs.declared.command.Ask.TheVariants.{Restart, Move, Remaster, Evacuate, Clear}
use Rattle.cl_base.specs.declared.method.Outcome.{Outcome}
use Rattle.rg_view.specs.Orders.{order_of}
use Rattle.ccr_tables.specs.declared.update.Update.{Update}
use Rattle.ccr_tables.specs.State.{ConfigState}
use Rattle.rgm_state.specs.Adopting.{adopted}
use Rattle.rgm_state.specs.Asks.{after_ask}
use Rattle.rgm_state.specs.Changes.{after_update}
use Rattle.rgm_state.specs.Outcomes.{after_done}
use Rattle.wire.specs.declared.message.Order.{Order}
use Rattle.wire.specs.declared.report.Report.{Report}
use Rattle.rgm_president.specs.State.{PresidentState, next_order, with_order}

-- as a membership starts no order was given
abbrev pub president_of : ConfigState → ℕ → ℕ → List (ℕ × Report) → ℕ → PresidentState
president_of c e members reports now = record { epoch = e; given = 0; view = adopted c members reports now }

abbrev pub with_update : ConfigState → Update → PresidentState → PresidentState
with_update c u p = record p { view = after_update c u p.view }

abbrev pub with_done : ConfigState → ℕ → ℕ → Outcome → ℕ → PresidentState → PresidentState
with_done c from number outcome now p = record p { view = after_done c from number outcome now p.view }

-- To clear is an order to the node; anything else is done at once.
abbrev pub with_ask : ConfigState → ℕ → Ask → ℕ → PresidentState → PresidentState
with_ask c from (Clear r n) now p = with_order p n r None
with_ask c from (Restart r) now p = record p { view = after_ask c from (Restart r) now p.view }
with_ask c from (Move r) now p = record p { view = after_ask c from (Move r) now p.view }
with_ask c from (Remaster g) now p = record p { view = after_ask c from (Remaster g) now p.view }
with_ask c from (Evacuate n) now p = record p { view = after_ask c from (Evacuate n) now p.view }

abbrev pub order_asked : PresidentState → Ask → Option Order
order_asked p (Clear r n) = Some (next_order p r None)
order_asked p (Restart r) = None
order_asked p (Move r) = None
order_asked p (Remaster g) = None
order_asked p (Evacuate n) = None

-- where a clear is asked for, the node has no order
abbrev pub HasRoom : PresidentState → Ask → Type 0
HasRoom p (Clear r n) = order_of p.view.outstanding n ≡ None
HasRoom p (Restart r) = Unit {0}
HasRoom p (Move r) = Unit {0}
HasRoom p (Remaster g) = Unit {0}
HasRoom p (Evacuate n) = Unit {0}
