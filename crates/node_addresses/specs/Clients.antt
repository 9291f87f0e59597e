-- What a client's request comes to, at a president under this configuration.
use Rattle.std.specs.Prelude.{ℕ, List, [], Option, None, Some}
use Rattle.ccr_tables.specs.State.{ConfigState}
use Rattle.ccr_tables.specs.declared.address.Address.{Address}
use Rattle.shared_address.specs.Choosing.{Outcome, chosen}
use Rattle.shared_address.specs.History.{state_of, with_state}
use Rattle.node_model.specs.declared.output.Output.{Output}
use Rattle.node_model.specs.declared.presidency.Presidency.{Presidency}
use Rattle.node_model.specs.Addresses.{request_for, served_lines}

abbrev pub outcome_for : ConfigState → Presidency → List ℕ → ℕ → ℕ → Address → Outcome
outcome_for s p name client port a = chosen (state_of p.balancer name) (request_for s p a client port)

-- what the president keeps after it
unfoldable pub after_client : ConfigState → Presidency → List ℕ → ℕ → ℕ → Option Address → Presidency
after_client s p name client port None = p
after_client s p name client port (Some a) = record p { balancer = with_state p.balancer name (outcome_for s p name client port a).after }

-- what it tells
unfoldable pub lines_for : ConfigState → Presidency → List ℕ → ℕ → ℕ → Option Address → List Output
lines_for s p name client port None = []
lines_for s p name client port (Some a) = served_lines name client port (outcome_for s p name client port a)
