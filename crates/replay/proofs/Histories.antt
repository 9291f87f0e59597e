-- The text of each outcome tells the first of its schedule: of a cluster schedule it is that of moments, one after another.
use Rattle.std.proofs.Common.{◌≡◌, ℕ, ◌≤◌, ◌++◌, List, [], ◌∷◌, take, Option, Some, None, Bool, false, sym, ap, refl, subst, ◌∙◌, append-nil, append_assoc, arith}
use Rattle.agents.specs.Calls.{AgentState}
use Rattle.std.specs.List.{AllByRecursion}
use Rattle.cl_base.specs.declared.header.DeviceKind.{DeviceKind}
use Rattle.cl_base.specs.declared.header.DeviceKind.TheVariants.{Data, Quorum, Server}
use Rattle.cl_base.specs.declared.header.Header.{Header}
use Rattle.cl_base.specs.declared.header.HeaderDevice.{HeaderDevice}
use Rattle.cl_base.specs.declared.header.Version.{Version}
use Rattle.cl_base.specs.declared.header.Version.TheVariants.{One, Two}
use Rattle.schedule_text.specs.declared.event.Event.{Event}
use Rattle.schedule_text.specs.declared.header.HeaderState.TheVariants.{Opening}
use Rattle.schedule_text.specs.Allowed.{IsHeader}
use Rattle.schedule_text.specs.Headers.{is_server}
use Rattle.schedule_text.specs.Versions.{most_nodes_of}
use Rattle.refinement.specs.Worlds.{lines_on}
use Rattle.grammar_laws.specs.Reads.{HasFewBytes, LacksServers}
use Rattle.grammar_laws.proofs.Heads.{first_fine}
use Rattle.run_history.specs.WorldLines.{IsDisk}
use Rattle.world_model.specs.First.{first_world}
use Rattle.world_model.specs.Lines.{line_on}
use Rattle.world_model.specs.Worlds.{Play, WorldState, play}
use Rattle.run_history.proofs.Told.{worlds_are_told}
use Rattle.run_outcomes.specs.Traces.{IsTrace, TracesOfEachRun}
use Rattle.interpreter.specs.declared.task.Task.{Task}
use Rattle.interpreter.specs.declared.task.Task.TheVariants.{Run}
use Rattle.interpreter.specs.Sessions.{first_so_far}
use Rattle.interpreter.specs.Outcomes.{outcome_of, pieces}
use Rattle.replay.specs.Replays.{OfCluster, OfDevice, Schedule, schedule_of, texts_of}
use Rattle.replay.specs.Histories.{AreAllowed, TellsFirstOf, TellsHistory}
use Rattle.replay.proofs.Allows.{IsAllowedSchedule, all_in_header, all_named, all_plain, first_allowed, schedule_allowed}
use Rattle.replay.proofs.Firsts.{IsFirstOf, lines_first}
use Rattle.replay.proofs.Plays.{line_behind}

-- ---- line by line, or all in one

-- the text of all lines is what they write one by one, behind what stood before
pub texts_are : (events : List Event) (w : WorldState) (t : List ℕ) → (lines_on events (play w t)).text ≡ t ++ texts_of w events
texts_are [] w t = sym (append-nil t)
texts_are (e ∷ events) w t =
    ap (λ (p : Play). (lines_on events p).text) (line_behind e w t)
    ∙ (texts_are events (line_on e (play w [])).world (t ++ (line_on e (play w [])).text)
    ∙ append_assoc t (line_on e (play w [])).text (texts_of (line_on e (play w [])).world events))

-- ---- the trace

few_nodes : (v : Version) (n : ℕ) → n ≤ most_nodes_of v → n ≤ 32
few_nodes One n le = omega (arith, le)
few_nodes Two n le = le

-- what is read has no server
disk_of : (kind : DeviceKind) → is_server kind ≡ false → IsDisk kind
disk_of Data is = tt
disk_of Quorum is = tt
disk_of Server is = absurd (cc)

disks_in : (devices : List HeaderDevice) → AllByRecursion (λ (d : HeaderDevice). is_server d.kind ≡ false) devices → AllByRecursion (λ (d : HeaderDevice). IsDisk d.kind) devices
disks_in [] are = tt
disks_in (d ∷ devices) are = (disk_of d.kind are.0, disks_in devices are.1)

pub trace_of : TracesOfEachRun → (agents : List AgentState) (h : Header) (events : List Event) (text : List ℕ) → IsHeader h → LacksServers h → AreAllowed h first_so_far events → AllByRecursion (HasFewBytes 4096) events
    → text ≡ texts_of (first_world h 65536 agents) events → IsTrace h events text
trace_of traces agents h events text header disks allowed short is =
    let nodes = few_nodes h.version h.nodes header.nodes_high in
    let told = worlds_are_told h 65536 agents [] events nodes header.devices header.cluster_high (all_named h first_so_far events allowed) (all_in_header h first_so_far events allowed) in
    subst (IsTrace h events) (sym (is ∙ sym (texts_are events (first_world h 65536 agents) [])))
    (traces h events (lines_on events (play (first_world h 65536 agents) [])) nodes header.devices header.cluster_high (disks_in h.devices disks) (all_plain h first_so_far events allowed short) told)

-- ---- each outcome

tells_first : TracesOfEachRun → (o : Option Schedule) (agents : List AgentState) (text : List ℕ) → IsAllowedSchedule o → IsFirstOf o agents text → TellsFirstOf o agents text
tells_first traces None agents text allowed is = is
tells_first traces (Some (OfDevice senders steps)) agents text allowed is = record { count = is.count; written = is.written }
tells_first traces (Some (OfCluster h events)) agents text allowed is = record {
  header = allowed.0;
  no_server = allowed.1;
  allowed = allowed.2;
  count = is.count;
  written = is.written;
  trace = trace_of traces agents h (take is.count events) text allowed.0 allowed.1 (first_allowed h first_so_far is.count events allowed.2) is.short is.written;
}

pub tells_history : TracesOfEachRun → (agents : List AgentState) (ended : Bool) (bytes : List ℕ) → TellsHistory bytes agents (outcome_of Run agents ended bytes).text
tells_history traces agents ended bytes =
    tells_first traces (schedule_of Opening (pieces bytes)) agents (outcome_of Run agents ended bytes).text (schedule_allowed Opening (pieces bytes) first_fine) (lines_first ended (pieces bytes) Opening agents 0)

-- and of each task whose outcome it is
pub tells_run : TracesOfEachRun → (task : Task) (agents : List AgentState) (ended : Bool) (bytes : List ℕ) → task ≡ Run → TellsHistory bytes agents (outcome_of task agents ended bytes).text
tells_run traces task agents ended bytes is = subst (λ (t : Task). TellsHistory bytes agents (outcome_of t agents ended bytes).text) (sym is) (tells_history traces agents ended bytes)
