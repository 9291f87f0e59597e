-- What a president sends again at a tick.
use Rattle.std.specs.Prelude.{ℕ, Option, None, Some}
use Rattle.sent_orders.specs.Ticks.{due}
use Rattle.node_model.specs.declared.presidency.Presidency.{Presidency}

-- the nodes to which their orders go again at the tick that comes
abbrev pub orders_due : Option Presidency → ℕ
orders_due None = 0
orders_due (Some p) = due p.sent
