-- What each run tells, however it ends: of a cluster schedule its text is that of moments, one after another, in which
-- the first of its events are said.
use Rattle.std.specs.Prelude.{◌≡◌, ℕ, List, [], ◌∷◌, take, Option, Some, None}
use Rattle.std.specs.List.{flat_map}
use Rattle.agents.specs.Calls.{AgentState}
use Rattle.cl_base.specs.declared.header.Header.{Header}
use Rattle.pgr_device.specs.Device.{fresh}
use Rattle.pgr_device.specs.declared.run.Step.{Step}
use Rattle.schedule_text.specs.declared.event.Event.{Event}
use Rattle.schedule_text.specs.declared.header.HeaderState.TheVariants.{Opening}
use Rattle.schedule_text.specs.declared.line.SoFar.{SoFar}
use Rattle.schedule_text.specs.Allowed.{IsAllowedEvent, IsHeader}
use Rattle.schedule_text.specs.Lines.{so_far_after_event}
use Rattle.status_report.specs.Lines.{printed}
use Rattle.grammar_laws.specs.Reads.{HasSeconds, LacksServers}
use Rattle.world_model.specs.First.{first_world}
use Rattle.run_outcomes.specs.Traces.{IsTrace}
use Rattle.interpreter.specs.Sessions.{first_so_far}
use Rattle.interpreter.specs.Outcomes.{pieces}
use Rattle.replay.specs.Replays.{OfCluster, OfDevice, Schedule, entries, schedule_of, texts_of}

-- each event is one that the header and the events before it allow, and its seconds have 64 bits
abbrev pub AreAllowed : Header → SoFar → List Event → Type 0
AreAllowed h s [] = Unit {0}
AreAllowed h s (e ∷ events) = IsAllowedEvent h s e × HasSeconds e × AreAllowed h (so_far_after_event s e) events

-- the text is what a fresh device answers to so many of these steps, the first
pub record AnswersFirst (senders : ℕ) (steps : List Step) (text : List ℕ) : Type 0 where
  pub count : ℕ
  pub written : text ≡ flat_map printed (entries (fresh senders) (take count steps))

-- The header is allowed and has no server, and the events are allowed. The text is what the first world of the header, with
-- these agents, writes of so many of them, the first, and it is the trace of these.
pub record TellsFirst (agents : List AgentState) (h : Header) (events : List Event) (text : List ℕ) : Type 0 where
  pub header : IsHeader h
  pub no_server : LacksServers h
  pub allowed : AreAllowed h first_so_far events
  pub count : ℕ
  pub written : text ≡ texts_of (first_world h 65536 agents) (take count events)
  pub trace : IsTrace h (take count events) text

-- before the header is whole nothing is written
abbrev pub TellsFirstOf : Option Schedule → List AgentState → List ℕ → Type 0
TellsFirstOf None agents text = text ≡ []
TellsFirstOf (Some (OfDevice senders steps)) agents text = AnswersFirst senders steps text
TellsFirstOf (Some (OfCluster header events)) agents text = TellsFirst agents header events text

-- the text tells the first of the schedule that these bytes are
abbrev pub TellsHistory : List ℕ → List AgentState → List ℕ → Type 0
TellsHistory bytes agents text = TellsFirstOf (schedule_of Opening (pieces bytes)) agents text
