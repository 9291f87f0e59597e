-- Version 2: the group of a shared address starts and a client is served; then the node is evacuated, the stop fails, and the mark is cleared.
use Rattle.std.specs.Prelude.{ℕ, List, [], ◌∷◌, Option, Some, None, if◌then◌else◌}
use Rattle.std.specs.Str.{bytes_eq}
use Rattle.ccr_tables.specs.declared.command.AdminCommand.{AdminCommand}
use Rattle.ccr_tables.specs.declared.command.AdminCommand.TheVariants.{Act, Change, Status}
use Rattle.ccr_tables.specs.declared.update.Update.TheVariants.{DeleteAddress}
use Rattle.cl_base.specs.declared.command.Ask.TheVariants.{Clear, Evacuate}
use Rattle.cl_base.specs.declared.command.Policy.{Policy}
use Rattle.cl_base.specs.declared.command.Policy.TheVariants.{StickyPort, Sticky}
use Rattle.cl_base.specs.declared.command.Query.TheVariants.{GroupStatus}
use Rattle.cl_base.specs.declared.header.Header.{Header}
use Rattle.cl_base.specs.declared.header.Version.TheVariants.{Two}
use Rattle.cl_base.specs.declared.history.FailoverMode.TheVariants as mode
use Rattle.cl_base.specs.declared.method.Method.TheVariants.{Stop}
use Rattle.cl_base.specs.declared.method.Outcome.TheVariants.{Failure}
use Rattle.rg_props.specs.Table.{GroupTable}
use Rattle.schedule_text.specs.declared.event.Event.TheVariants as event
use Rattle.status_report.specs.declared.command_entry.Answer.TheVariants as answer
use Rattle.ccr_tables.specs.State.{ConfigState}
use Rattle.history.specs.Moment.{Moment}
use Rattle.history.specs.Trace.{ack, asked, answered, gives, queued, served}
use Rattle.history_samples.specs.SampleOneNode.{line_of}
use Rattle.group_history.specs.Setting.{Groups}
use Rattle.group_history.specs.Doings.{called, done, queues}
use Rattle.group_samples.specs.SampleConfigurations.{a, g, is_status, single_node, groups_on, table_on, configured_on}
use Rattle.group_samples.specs.SampleStatus.{x, client, tick, online}

-- ---- the cluster

abbrev pub second_version : Header
second_version = record single_node { version = Two }

abbrev pub table : GroupTable
table = record (table_on (1 ∷ []) mode.None) { version = Two }

abbrev pub served_under : Policy → ConfigState
served_under policy = record (configured_on second_version (1 ∷ []) table) { addresses = (x, record { group = g; policy = policy; weights = [] }) ∷ [] }

abbrev pub asks_evacuate : List ℕ
asks_evacuate = 101 ∷ []

abbrev pub asks_clear : List ℕ
asks_clear = 99 ∷ []

abbrev pub asks_delete : List ℕ
asks_delete = 100 ∷ []

abbrev pub commands : List ℕ → Option AdminCommand
commands words =
    if bytes_eq words asks_evacuate then Some (Act (Evacuate 1))
    else if bytes_eq words asks_clear then Some (Act (Clear a 1))
    else if bytes_eq words asks_delete then Some (Change (DeleteAddress x))
    else if is_status words then Some (Status GroupStatus)
    else None

abbrev pub under : Policy → Groups
under policy = record (groups_on second_version (1 ∷ []) table) { configured = λ updates. served_under policy; command = commands }

abbrev pub sticking : Groups
sticking = under StickyPort

-- ---- the trace

abbrev pub served_first : List Moment
served_first = served x 10 80 (Some 1) ∷ client online

-- the next STOP is to fail, and nothing may run on the node
abbrev pub evacuating : List Moment
evacuating = answered 1 1 answer.Ok ∷ asked 1 1 ∷ gives 1 asks_evacuate ∷ queued ∷ queues 1 a Stop Failure ∷ served_first

abbrev pub not_stopped : List Moment
not_stopped = done 65 1 Stop a Failure ∷ called 65 1 Stop a ∷ tick evacuating

abbrev pub cleared : List Moment
cleared = tick (answered 1 2 answer.Ok ∷ asked 1 2 ∷ gives 1 asks_clear ∷ not_stopped)

-- ---- what may not be

-- the node of the first request is a target still
abbrev pub served_elsewhere : List Moment
served_elsewhere = served x 10 80 (Some 2) ∷ client served_first

abbrev pub served_nobody : List Moment
served_nobody = served x 10 80 None ∷ client served_first

abbrev pub served_elsewhere_at_once : List Moment
served_elsewhere_at_once = served x 10 80 (Some 2) ∷ client online

-- the client alone counts, not its port
abbrev pub by_client : Groups
by_client = under Sticky

abbrev pub at_another_port : List Moment → List Moment
at_another_port before = line_of (event.Client 1 x 10 81) ∷ before

abbrev pub served_elsewhere_by_client : List Moment
served_elsewhere_by_client = served x 10 81 (Some 2) ∷ at_another_port served_first

abbrev pub served_nobody_by_client : List Moment
served_nobody_by_client = served x 10 81 None ∷ at_another_port served_first

-- ---- what does not count

-- node 2 is no member of 65
abbrev pub served_by_another_president : List Moment
served_by_another_president = served x 10 80 (Some 2) ∷ line_of (event.Client 2 x 10 80) ∷ served_first

abbrev pub deleted : List Moment
deleted = ack 65 1 asks_delete ∷ served_first
