-- What the president of a membership keeps.
use Rattle.std.specs.Prelude.{ℕ, ◌+◌, List, Option}
use Rattle.cl_base.specs.declared.method.Method.{Method}
use Rattle.rg_view.specs.declared.view.GroupView.{GroupView}
use Rattle.rg_view.specs.Orders.{orders_with}
use Rattle.wire.specs.declared.message.Order.{Order}

-- The membership; how many orders it was given so far; and what is known of groups, of which the present second is that of the last decision.
pub record PresidentState : Type 0 where
  pub epoch : ℕ
  pub given : ℕ
  pub view : GroupView

-- the next order: for a method of the resource, or to clear it
abbrev pub next_order : PresidentState → List ℕ → Option Method → Order
next_order p r method = record { epoch = p.epoch; number = p.given + 1; method = method; resource = r }

-- it is outstanding on the node
abbrev pub with_order : PresidentState → ℕ → List ℕ → Option Method → PresidentState
with_order p n r method = record p {
  given = p.given + 1;
  view = record p.view { outstanding = orders_with p.view.outstanding (record { node = n; number = p.given + 1; resource = r; method = method }) };
}
