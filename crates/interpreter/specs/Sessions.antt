-- What a line makes of the state, and what it writes.
use Rattle.std.specs.Prelude.{◌≡◌, ℕ, List, [], ◌++◌, Option, Some, None, Result, Ok, Err}
use Rattle.agents.specs.Calls.{AgentState}
use Rattle.cl_base.specs.declared.header.Header.{Header}
use Rattle.pgr_device.specs.Device.{Device, fresh}
use Rattle.pgr_device.specs.Spc as spc
use Rattle.schedule_text.specs.declared.event.Event.{Event}
use Rattle.schedule_text.specs.declared.header.Head.{Head}
use Rattle.schedule_text.specs.declared.header.Head.TheVariants.{Pr, Cluster}
use Rattle.schedule_text.specs.declared.header.HeaderState.{HeaderState}
use Rattle.schedule_text.specs.declared.header.HeaderState.TheVariants.{Opening}
use Rattle.schedule_text.specs.declared.kind.Kind.{Kind}
use Rattle.schedule_text.specs.declared.kind.Kind.TheVariants as kind
use Rattle.schedule_text.specs.declared.kind.ReadError.{ReadError}
use Rattle.schedule_text.specs.declared.kind.ReadError.TheVariants as error
use Rattle.schedule_text.specs.declared.line.ClusterLine.{ClusterLine}
use Rattle.schedule_text.specs.declared.line.ClusterLine.TheVariants as cluster
use Rattle.schedule_text.specs.declared.line.PrLine.{PrLine}
use Rattle.schedule_text.specs.declared.line.PrLine.TheVariants as pr
use Rattle.schedule_text.specs.declared.line.SoFar.{SoFar}
use Rattle.schedule_text.specs.Headers.{HeaderStep, More, Over, Bad, header_step, head_of}
use Rattle.schedule_text.specs.Lines.{pr_line_of, cluster_line_of, so_far_after_event}
use Rattle.status_report.specs.declared.entry.Entry.TheVariants.{Answered, Powered}
use Rattle.status_report.specs.Lines.{printed}
use Rattle.world_model.specs.First.{first_world}
use Rattle.world_model.specs.Lines.{line_on}
use Rattle.world_model.specs.Worlds.{Play, WorldState, play}
use Rattle.interpreter.specs.declared.session.State.{State}
use Rattle.interpreter.specs.declared.session.State.TheVariants.{Heading, Reading}
use Rattle.interpreter.specs.declared.session.Body.{Body}
use Rattle.interpreter.specs.declared.session.Body.TheVariants.{CheckingPr, CheckingCluster, Replaying, Clustering}
use Rattle.interpreter.specs.declared.stop.Stop.{Stop}
use Rattle.interpreter.specs.declared.stop.Stop.TheVariants as stop
use Rattle.interpreter.specs.declared.task.Task.{Task}
use Rattle.interpreter.specs.declared.task.Task.TheVariants.{Run, Check}

-- a line leads to a state and writes a text, ends the schedule, or is refused
pub data Step : Type 0 where
  Goes : State → List ℕ → Step
  Finishes : Step
  Refuses : Kind → Step

-- nothing was read yet; these agents carry out the methods of resource types
abbrev pub start : List AgentState → State
start agents = Heading Opening agents

-- what is done with the lines after a header that ends: `run` replays a reservation schedule with a fresh device,
-- which the senders have a path to, and a cluster schedule, of either version, from the world of its header; `check`
-- reads the lines alone. Those of a cluster schedule begin with the clock 0 and no rounds.
abbrev pub first_so_far : SoFar
first_so_far = record { clock = 0; rounds = 0 }

abbrev pub body_of : Task → List AgentState → Option Head → Result Body Kind
body_of task agents None = Err kind.Header
body_of Run agents (Some (Pr senders)) = Ok (Replaying (fresh senders))
body_of Run agents (Some (Cluster header)) = Ok (Clustering header first_so_far (first_world header 65536 agents))
body_of Check agents (Some (Pr senders)) = Ok CheckingPr
body_of Check agents (Some (Cluster header)) = Ok (CheckingCluster header first_so_far)

-- a line of a reservation schedule, read alone
abbrev pub checked_pr : Result PrLine Kind → Step
checked_pr (Err kind) = Refuses kind
checked_pr (Ok pr.End) = Finishes
checked_pr (Ok pr.Blank) = Goes (Reading CheckingPr) []
checked_pr (Ok pr.Power) = Goes (Reading CheckingPr) []
checked_pr (Ok (pr.Command sender command)) = Goes (Reading CheckingPr) []

-- a line of a cluster schedule, read alone
abbrev pub checked_cluster : Header → SoFar → Result ClusterLine Kind → Step
checked_cluster header so_far (Err kind) = Refuses kind
checked_cluster header so_far (Ok cluster.End) = Finishes
checked_cluster header so_far (Ok cluster.Blank) = Goes (Reading (CheckingCluster header so_far)) []
checked_cluster header so_far (Ok (cluster.Event event)) = Goes (Reading (CheckingCluster header (so_far_after_event so_far event))) []

-- a line of a reservation schedule, replayed: the device obeys, and its answer is written
abbrev pub replayed : Device → Result PrLine Kind → Step
replayed device (Err kind) = Refuses kind
replayed device (Ok pr.End) = Finishes
replayed device (Ok pr.Blank) = Goes (Reading (Replaying device)) []
replayed device (Ok pr.Power) = Goes (Reading (Replaying device)) (printed Powered)
replayed device (Ok (pr.Command sender command)) =
    Goes (Reading (Replaying (spc.step device sender command).after)) (printed (Answered (spc.step device sender command).answer))

-- a line of a cluster schedule, replayed: the world moves, and the text of its entries is written
abbrev pub moved : Header → SoFar → Event → Play → Step
moved header so_far event p = Goes (Reading (Clustering header (so_far_after_event so_far event) p.world)) p.text

abbrev pub event_done : Header → SoFar → WorldState → Event → Step
event_done header so_far w event = moved header so_far event (line_on event (play w []))

abbrev pub clustered_by : Header → SoFar → WorldState → Result ClusterLine Kind → Step
clustered_by header so_far w (Err kind) = Refuses kind
clustered_by header so_far w (Ok cluster.End) = Finishes
clustered_by header so_far w (Ok cluster.Blank) = Goes (Reading (Clustering header so_far w)) []
clustered_by header so_far w (Ok (cluster.Event event)) = event_done header so_far w event

abbrev pub clustered : Header → SoFar → WorldState → List ℕ → Step
clustered header so_far w bytes = clustered_by header so_far w (cluster_line_of header so_far bytes)

-- a line after the header
abbrev pub body_step : Body → List ℕ → Step
body_step CheckingPr bytes = checked_pr (pr_line_of bytes)
body_step (CheckingCluster header so_far) bytes = checked_cluster header so_far (cluster_line_of header so_far bytes)
body_step (Replaying device) bytes = replayed device (pr_line_of bytes)
body_step (Clustering header so_far w) bytes = clustered header so_far w bytes

-- the first line after the header
abbrev pub entered : Result Body Kind → List ℕ → Step
entered (Err kind) bytes = Refuses kind
entered (Ok body) bytes = body_step body bytes

-- a line while the header is being read
abbrev pub heading : Task → HeaderState → List AgentState → List ℕ → HeaderStep → Step
heading task state agents bytes (More next) = Goes (Heading next agents) []
heading task state agents bytes Over = entered (body_of task agents (head_of state)) bytes
heading task state agents bytes (Bad kind) = Refuses kind

abbrev pub step : Task → State → List ℕ → Step
step task (Heading state agents) bytes = heading task state agents bytes (header_step state bytes)
step task (Reading body) bytes = body_step body bytes

-- why a line that is not read stops the reading
abbrev pub unread : ReadError → Stop
unread (error.Refused kind) = stop.Refused kind
unread error.NoMemory = stop.NoMemory

-- what is done behind a header that ends, where memory suffices
abbrev pub Enters : Result Body Stop → Result Body Kind → Type 0
Enters (Ok body) is = is ≡ Ok body
Enters (Err (stop.Refused kind)) is = is ≡ Err kind
Enters (Err stop.NoMemory) is = Unit {0}
Enters (Err stop.Ended) is = ⊥
Enters (Err stop.TooLarge) is = ⊥

-- The answer to a line is this step: the state, and what is appended to the text. Else the text stays, or there is no
-- memory.
abbrev pub Answers : {A : Type 0} → Result A Stop → Step → State → List ℕ → List ℕ → Type 0
Answers (Ok done) (Goes next text) now old new = (now ≡ next) × (new ≡ old ++ text)
Answers (Ok done) Finishes now old new = ⊥
Answers (Ok done) (Refuses kind) now old new = ⊥
Answers (Err stop.Ended) is now old new = (is ≡ Finishes) × (new ≡ old)
Answers (Err (stop.Refused kind)) is now old new = (is ≡ Refuses kind) × (new ≡ old)
Answers (Err stop.TooLarge) is now old new = ⊥
Answers (Err stop.NoMemory) is now old new = Unit {0}
