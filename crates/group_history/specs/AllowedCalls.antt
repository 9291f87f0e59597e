-- Allowed call: over the configuration in force and the map of the membership at that place. Goals, marks and orders do not occur here.
use Rattle.std.specs.Prelude.{ℕ, List}
use Rattle.sequencer_laws.specs.AllowedCall.{IsAllowedCall}
use Rattle.sequencer_laws.specs.Situations.{Situation}
use Rattle.history.specs.Moment.{Moment}
use Rattle.history.specs.Order.{Always}
use Rattle.history.specs.Starts.{start_of, members_in}
use Rattle.group_history.specs.Setting.{Groups, config_of}
use Rattle.group_history.specs.Doings.{called}
use Rattle.group_history.specs.Flags.{flags_of}

-- what is configured in e, who its members are, and what runs where by its map
abbrev pub situation_of : Groups → ℕ → List Moment → Situation
situation_of S e before = record {
  table = (config_of S e before).groups;
  types = (config_of S e before).types;
  limits = (config_of S e before).limits;
  members = members_in (start_of e before);
  flags = flags_of S e before;
}

abbrev pub IsAllowed : Groups → List Moment → Moment → Type 0
IsAllowed S before (called e n method r) = IsAllowedCall (situation_of S e before) n r method
IsAllowed S before _ = Unit {0}

abbrev pub AllowedCalls : Groups → List Moment → Type 0
AllowedCalls S moments = Always (IsAllowed S) moments
