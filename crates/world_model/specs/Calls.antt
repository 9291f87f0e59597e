-- How the methods end that nodes call.
use Rattle.std.specs.Prelude.{ℕ, ◌==◌, ◌&&◌, Bool, List, Option, None, Some, position, slice_get}
use Rattle.std.specs.List.{remove}
use Rattle.std.specs.Str.{bytes_eq}
use Rattle.agents.specs.Calls.{AgentRules, Called, called, rules_of}
use Rattle.agents.specs.Stock.{outcome_by, then_kept_by}
use Rattle.cl_base.specs.Methods.{place_of}
use Rattle.cl_base.specs.declared.agent.Call.{Call}
use Rattle.cl_base.specs.declared.method.Outcome.{Outcome}
use Rattle.cl_base.specs.declared.method.Outcome.TheVariants.{Failure}
use Rattle.rgm_member.specs.declared.due.Due.{Due}
use Rattle.world_model.specs.declared.scripted.Scripted.{Scripted}
use Rattle.world_model.specs.Worlds.{WorldState}

-- an outcome was queued for such a call
abbrev pub fits : Call → Scripted → Bool
fits call s = (s.node == call.node) && bytes_eq s.resource call.resource && (place_of s.method == place_of call.method)

-- how a call ended, and the world then
pub record Ended : Type 0 where
  pub outcome : Outcome
  pub world : WorldState

-- The first queued outcome that fits is taken out, and no agent is asked.

abbrev pub taken_out : WorldState → ℕ → Option Scripted → Ended
taken_out w place None = record { outcome = Failure; world = w }
taken_out w place (Some s) = record { outcome = s.outcome; world = record w { script = remove w.script place } }

-- Else the first agent of the name that the type gives carries it out. Without one it is a failure.

-- what the agents make of calls
abbrev pub stock_rules : AgentRules
stock_rules = rules_of outcome_by then_kept_by

abbrev pub carried_by : WorldState → Called → Ended
carried_by w c = record { outcome = c.outcome; world = record w { agents = c.agents } }

abbrev pub asked_of : WorldState → Call → Option (List ℕ) → Ended
asked_of w call None = record { outcome = Failure; world = w }
asked_of w call (Some name) = carried_by w (called stock_rules w.agents name call)

abbrev pub ended_so : WorldState → Due → Option ℕ → Ended
ended_so w d (Some place) = taken_out w place (slice_get w.script place)
ended_so w d None = asked_of w d.call d.agent

-- Where no call is due nothing happens; the outcome is not used then.
abbrev pub ended : WorldState → Option Due → Ended
ended w None = record { outcome = Failure; world = w }
ended w (Some d) = ended_so w d (position (fits d.call) w.script)
