-- A schedule as a list of what happens, and what is answered to it.
use Rattle.std.specs.Prelude.{◌≡◌, ℕ, List, [], ◌∷◌, ◌++◌, Option, Some, None, Result, Ok, Err}
use Rattle.std.specs.List.{flat_map}
use Rattle.agents.specs.Calls.{AgentState}
use Rattle.pgr_device.specs.Device.{Device, fresh}
use Rattle.pgr_device.specs.Spc as spc
use Rattle.pgr_device.specs.declared.command.PrAnswer.{PrAnswer}
use Rattle.pgr_device.specs.declared.run.Step.{Step}
use Rattle.pgr_device.specs.declared.run.Step.TheVariants.{Command, PowerLoss}
use Rattle.cl_base.specs.declared.header.Header.{Header}
use Rattle.schedule_text.specs.declared.event.Event.{Event}
use Rattle.schedule_text.specs.declared.header.Head.{Head}
use Rattle.schedule_text.specs.declared.header.Head.TheVariants.{Pr, Cluster}
use Rattle.schedule_text.specs.declared.header.HeaderState.{HeaderState}
use Rattle.schedule_text.specs.declared.header.HeaderState.TheVariants.{Opening}
use Rattle.schedule_text.specs.declared.kind.Kind.{Kind}
use Rattle.schedule_text.specs.declared.line.PrLine.{PrLine}
use Rattle.schedule_text.specs.declared.line.PrLine.TheVariants as line
use Rattle.schedule_text.specs.Headers.{HeaderStep, More, Over, Bad, header_step, head_of}
use Rattle.schedule_text.specs.declared.line.ClusterLine.{ClusterLine}
use Rattle.schedule_text.specs.declared.line.ClusterLine.TheVariants as cluster
use Rattle.schedule_text.specs.declared.line.SoFar.{SoFar}
use Rattle.schedule_text.specs.Lines.{cluster_line_of, pr_line_of, so_far_after_event}
use Rattle.world_model.specs.First.{first_world}
use Rattle.world_model.specs.Lines.{line_on}
use Rattle.world_model.specs.Worlds.{WorldState, play}
use Rattle.interpreter.specs.Sessions.{first_so_far}
use Rattle.status_report.specs.declared.entry.Entry.{Entry}
use Rattle.status_report.specs.declared.entry.Entry.TheVariants as entry
use Rattle.status_report.specs.Lines.{printed}
use Rattle.interpreter.specs.Outcomes.{Ending, Open, Ended, Refused, TooLarge, pieces}

-- a reservation schedule: the nodes that have a path to the device, and what happens to it; or a cluster schedule: its
-- header, and its events
pub data Schedule : Type 0 where
  OfDevice : (senders : ℕ) (steps : List Step) → Schedule
  OfCluster : (header : Header) (events : List Event) → Schedule

-- the commands and losses of power of these lines, up to the line that ends the schedule
abbrev pub with_line : Result PrLine Kind → List Step → List Step
with_line (Ok line.Blank) steps = steps
with_line (Ok line.End) steps = []
with_line (Ok line.Power) steps = PowerLoss ∷ steps
with_line (Ok (line.Command sender command)) steps = Command sender command ∷ steps
with_line (Err kind) steps = []

abbrev pub steps_of : List (List ℕ) → List Step
steps_of [] = []
steps_of (line ∷ lines) = with_line (pr_line_of line) (steps_of lines)

-- the events of these lines, up to the line that ends the schedule
abbrev pub with_event : Result ClusterLine Kind → SoFar → (SoFar → List Event) → List Event
with_event (Ok cluster.Blank) s rest = rest s
with_event (Ok cluster.End) s rest = []
with_event (Ok (cluster.Event e)) s rest = e ∷ rest (so_far_after_event s e)
with_event (Err kind) s rest = []

abbrev pub events_of : Header → SoFar → List (List ℕ) → List Event
events_of h s [] = []
events_of h s (line ∷ lines) = with_event (cluster_line_of h s line) s (λ next. events_of h next lines)

-- the schedule with this header, and these lines behind it
abbrev pub behind : Option Head → List (List ℕ) → Option Schedule
behind (Some (Pr senders)) lines = Some (OfDevice senders (steps_of lines))
behind (Some (Cluster header)) lines = Some (OfCluster header (events_of header first_so_far lines))
behind None lines = None

-- a line that adds to the header, before which it ends, or that is refused
abbrev pub stepped : HeaderStep → (HeaderState → Option Schedule) → Option Schedule → Option Schedule
stepped (More next) more over = more next
stepped Over more over = over
stepped (Bad kind) more over = None

-- the schedule of these lines, behind lines of the header that led to this state
abbrev pub schedule_of : HeaderState → List (List ℕ) → Option Schedule
schedule_of state [] = behind (head_of state) []
schedule_of state (line ∷ lines) = stepped (header_step state line) (λ next. schedule_of next lines) (behind (head_of state) (line ∷ lines))

-- what the device answers: a line for each command, and one for each loss of power
abbrev pub entries : Device → List Step → List Entry
entries d [] = []
entries d (Command node command ∷ steps) = entry.Answered (spc.step d node command).answer ∷ entries (spc.step d node command).after steps
entries d (PowerLoss ∷ steps) = entry.Powered ∷ entries d steps

abbrev pub answers_among : List Entry → List PrAnswer
answers_among [] = []
answers_among (entry.Answered answer ∷ lines) = answer ∷ answers_among lines
answers_among (_ ∷ lines) = answers_among lines

abbrev pub Completes : Ending → Type 0
Completes (Ended read) = Unit {0}
Completes Open = ⊥
Completes (Refused line kind) = ⊥
Completes (TooLarge line) = ⊥

-- what the world writes, event by event
abbrev pub texts_of : WorldState → List Event → List ℕ
texts_of w [] = []
texts_of w (e ∷ events) = (line_on e (play w [])).text ++ texts_of (line_on e (play w [])).world events

-- there is a schedule, and the text is what a fresh device answers to it, or what the first world of the header, with
-- these agents, writes of it
abbrev pub TellsSchedule : Option Schedule → List AgentState → List ℕ → Type 0
TellsSchedule None agents text = ⊥
TellsSchedule (Some (OfDevice senders steps)) agents text = text ≡ flat_map printed (entries (fresh senders) steps)
TellsSchedule (Some (OfCluster header events)) agents text = text ≡ texts_of (first_world header 65536 agents) events

abbrev pub TellsReplay : List ℕ → List AgentState → List ℕ → Type 0
TellsReplay bytes agents text = TellsSchedule (schedule_of Opening (pieces bytes)) agents text
