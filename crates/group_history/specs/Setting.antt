-- What the definitions of groups are told of other layers, beside what those of `history` are.
use Rattle.std.specs.Prelude.{ℕ, List, [], ◌∷◌, Option, Some, None}
use Rattle.agents.specs.Calls.{AgentRules}
use Rattle.ccr_tables.specs.State.{ConfigState}
use Rattle.ccr_tables.specs.declared.command.AdminCommand.{AdminCommand}
use Rattle.history.specs.Moment.{Moment}
use Rattle.history.specs.Trace.{clock_stands}
use Rattle.history.specs.Setting.{Setting}
use Rattle.history.specs.Deeds.{deeds, in_force}
use Rattle.history.specs.Records.{NodeRecord, record_of}

-- an agent that is handed in: what it makes of a call by what it has kept, and what it has kept at first
pub record Agent : Type 0 where
  pub rules : AgentRules
  pub first : List ℕ

pub record Groups : Type 0 where
  pub cluster : Setting
  -- the configuration after these updates, the oldest first
  pub configured : List (List ℕ) → ConfigState
  -- how long the record of a president with these updates may become, as the refusal of long ones counts
  pub length : List (List ℕ) → ℕ
  -- what the canonical words of a command, or of a monitor's request, ask for
  pub command : List ℕ → Option AdminCommand
  -- the first of the agents that has this name
  pub agent : List ℕ → Option Agent

-- the second at which the clock stands
abbrev pub second_of : List Moment → ℕ
second_of [] = 0
second_of (clock_stands s ∷ before) = s
second_of (_ ∷ before) = second_of before

-- the configuration in force in e
abbrev pub config_of : Groups → ℕ → List Moment → ConfigState
config_of S e before = S.configured (in_force e (deeds before))

abbrev pub texts_of : Option NodeRecord → List (List ℕ)
texts_of None = []
texts_of (Some r) = r.texts

-- the configuration by the updates of n, the pending one behind the committed ones
abbrev pub config_at : Groups → ℕ → List Moment → ConfigState
config_at S n before = S.configured (texts_of (record_of n before))
