-- What a president sends again.
use Rattle.std.specs.Prelude.{ℕ, List, [], Option, None, Some}
use Rattle.node_model.specs.declared.output.Output.{Output}
use Rattle.node_model.specs.declared.presidency.Presidency.{Presidency}
use Rattle.node_model.specs.Groups.{orders_again_of}

-- the orders of these nodes; a node that is no president sends none
abbrev pub orders_again_at : ℕ → Option Presidency → List Output
orders_again_at due None = []
orders_again_at due (Some p) = orders_again_of due p.groups
