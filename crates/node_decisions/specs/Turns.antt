-- What a decision leaves of a presidency, and which messages it gives, where the configuration in force is that under these updates of the header's.
use Rattle.std.specs.Prelude.{ℕ, List, [], if◌then◌else◌}
use Rattle.cl_base.specs.declared.header.Header.{Header}
use Rattle.config_cache.specs.InForce.{config_under}
use Rattle.rgm_president.specs.Decisions.{Turn, decision}
use Rattle.node_model.specs.declared.output.Output.{Output}
use Rattle.node_model.specs.declared.presidency.Presidency.{Presidency}
use Rattle.node_model.specs.Deciding.{is_held_up, may_order, orders_sent, with_turn}

-- the decision of a president with a number left
abbrev pub turn_under : Header → List (List ℕ) → ℕ → Presidency → Turn
turn_under h texts now p = decision (config_under h texts) now (is_held_up p) p.groups

unfoldable pub presidency_after : ℕ → Header → List (List ℕ) → ℕ → Presidency → Presidency
presidency_after me h texts now p = if may_order p.groups then with_turn me p (turn_under h texts now p) else p

unfoldable pub messages_after : ℕ → Header → List (List ℕ) → ℕ → Presidency → List Output
messages_after me h texts now p = if may_order p.groups then orders_sent me (turn_under h texts now p).orders else []
