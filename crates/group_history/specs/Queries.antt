-- Queries: what the president answers to a query, line by line, over the configuration in force and what is known as the command comes.
use Rattle.std.specs.Prelude.{◌≡◌, ℕ, ◌==◌, ◌&&◌, not, Bool, true, false, if◌then◌else◌, List, [], ◌∷◌, ◌++◌, map, Option, Some, None, is_none, is_some, Result, Ok, Err, slice_get}
use Rattle.std.specs.List.{flat_map, list_any, AllByRecursion}
use Rattle.std.specs.Option.{option_and_then}
use Rattle.std.specs.Str.{bytes_eq}
use Rattle.admin_commands.specs.Answers.{answer_to}
use Rattle.admin_commands.specs.declared.accepted.Accepted.{Accepted}
use Rattle.admin_commands.specs.declared.accepted.Accepted.TheVariants as accepted
use Rattle.admin_commands.specs.declared.error.CheckError.{CheckError}
use Rattle.admin_commands.specs.declared.error.CheckError.TheVariants as because
use Rattle.ccr_tables.specs.State.{ConfigState}
use Rattle.ccr_tables.specs.declared.command.AdminCommand.{AdminCommand}
use Rattle.ccr_tables.specs.declared.command.AdminCommand.TheVariants.{Status, Rows}
use Rattle.cl_base.specs.Sets.{has}
use Rattle.cl_base.specs.declared.command.Query.TheVariants.{GroupStatus, ResourceStatus, QuorumStatus}
use Rattle.cl_base.specs.declared.command.Query.TheVariants as query
use Rattle.cl_base.specs.declared.reason.Reason.{Reason}
use Rattle.cl_base.specs.declared.state.GroupState.{GroupState}
use Rattle.cl_base.specs.declared.state.GroupState.TheVariants.{Unmanaged, ErrorStopFailed, PendingOnline}
use Rattle.cl_base.specs.declared.state.ResourceState.{ResourceState}
use Rattle.cl_base.specs.declared.state.ResourceState.TheVariants.{StopFailed, StartFailed, Online, Starting, Offline}
use Rattle.query_lines.specs.Lines.{quorum_lines, table_lines}
use Rattle.rg_props.specs.Lookups.{named}
use Rattle.rg_props.specs.declared.group.Group.{Group}
use Rattle.rg_view.specs.Goals.{goal_of}
use Rattle.rg_view.specs.States.{state_of}
use Rattle.rg_view.specs.declared.states.ResourceAt.{ResourceAt}
use Rattle.rg_view.specs.declared.view.GroupView.{GroupView}
use Rattle.rgm_president.specs.Status.{has_stop_failed, first_faulted, first_blocked, state_inside, state_outside, is_hindered, hindrance, reason_outside}
use Rattle.rgm_state.specs.Standing.{have_flag, resources_of}
use Rattle.schedule_text.specs.declared.event.Event.TheVariants as event
use Rattle.schedule_text.specs.declared.line.Line.TheVariants as line
use Rattle.status_report.specs.declared.command_entry.Answer.TheVariants as answer
use Rattle.status_report.specs.declared.status_entry.StatusEntry.{StatusEntry}
use Rattle.status_report.specs.declared.status_entry.StatusEntry.TheVariants as shown
use Rattle.history.specs.Moment.{Moment, Said}
use Rattle.history.specs.Trace.{asked, answered}
use Rattle.history.specs.Order.{EachEvent, Unless}
use Rattle.history.specs.Setting.{coordinator}
use Rattle.history.specs.Member.{member_of}
use Rattle.history.specs.Starts.{start_of, members_in, Start}
use Rattle.group_history.specs.Setting.{Groups, config_of}
use Rattle.group_history.specs.Doings.{status}
use Rattle.group_history.specs.Desk.{desk_of, has_room}
use Rattle.group_history.specs.KnownMap.{known_of}
use Rattle.group_history.specs.Reasons.{ground_of, IsReason}

-- ---- how groups stand. Whether something of a group moves on a node (an order is outstanding there, or an up call is allowed) is not told by
-- the trace: either is accepted.

abbrev pub state_managed : ConfigState → GroupView → Bool → List ℕ → List (List ℕ) → ℕ → GroupState
state_managed c v moves group resources n =
    if has_stop_failed v.resources resources n then ErrorStopFailed
    else if has (goal_of v.goals group) n
    then state_inside (is_none (first_blocked c.groups v.resources resources n)) (is_some (first_faulted v.resources resources n)) moves
    else state_outside (have_flag v.resources resources n)

abbrev pub state_on : ConfigState → GroupView → Bool → List ℕ → Group → ℕ → GroupState
state_on c v moves group g n = if g.managed then state_managed c v moves group (resources_of c.groups group) n else Unmanaged

-- why it is not online there, as far as that is told
abbrev pub reason_on : ConfigState → GroupView → GroupState → List ℕ → Group → ℕ → Option Reason
reason_on c v state group g n =
    if has (goal_of v.goals group) n
    then (if is_hindered state then hindrance c.groups v.resources (resources_of c.groups group) n else None)
    else reason_outside c v group n (Some g)

abbrev pub why_line : List ℕ → ℕ → Option Reason → List StatusEntry
why_line group n None = []
why_line group n (Some reason) = shown.Why group n reason ∷ []

abbrev pub lines_on : ConfigState → GroupView → (List ℕ → ℕ → Bool) → List ℕ → Group → ℕ → List StatusEntry
lines_on c v moves group g n =
    let state : GroupState = state_on c v (moves group n) group g n in shown.Group group n state ∷ why_line group n (reason_on c v state group g n)

-- each group in order of creation, on each node of its Nodelist
abbrev pub group_lines : ConfigState → GroupView → (List ℕ → ℕ → Bool) → List StatusEntry
group_lines c v moves = flat_map (λ e. flat_map (lines_on c v moves e.0 e.1) e.1.nodelist) c.groups.groups

-- ---- how resources stand: the first that fits

abbrev pub resource_state : ResourceAt → ResourceState
resource_state s = if s.stop_failed then StopFailed else if s.faulted then StartFailed else if s.run then Online else if s.pre then Starting else Offline

abbrev pub nodelist_of : Option Group → List ℕ
nodelist_of None = []
nodelist_of (Some g) = g.nodelist

abbrev pub resource_line : GroupView → List ℕ → ℕ → StatusEntry
resource_line v r n = shown.Resource r n (resource_state (state_of v.resources r n))

abbrev pub resource_lines : ConfigState → GroupView → List StatusEntry
resource_lines c v = flat_map (λ e. map (resource_line v e.0) (nodelist_of (named c.groups.groups e.1.group))) c.groups.resources

-- ---- the answer to a query

abbrev pub held_in : Option Start → ℕ
held_in None = 0
held_in (Some s) = s.held

pub record Asking : Type 0 where
  pub groups : Groups
  pub epoch : ℕ
  pub before : List Moment
  pub node : ℕ
  pub number : ℕ

abbrev pub members_asked : Asking → ℕ
members_asked a = members_in (start_of a.epoch a.before)

abbrev pub config_asked : Asking → ConfigState
config_asked a = config_of a.groups a.epoch a.before

abbrev pub view_asked : Asking → GroupView
view_asked a = known_of a.groups a.epoch a.before

-- these lines stand between the `asked` line and the answer `ok`
abbrev pub Shows : Asking → List StatusEntry → List Moment → Type 0
Shows a lines entries = entries ≡ asked a.node a.number ∷ (map status lines ++ answered a.node a.number answer.Ok ∷ [])

-- each `why` line is so
abbrev pub IsTrue : Asking → StatusEntry → Type 0
IsTrue a (shown.Why group n reason) =
    IsReason (ground_of a.groups a.epoch a.before) group n reason (named (config_asked a).groups.groups group)
IsTrue a _ = Unit {0}

-- something of the group moves on the node, where its line says so
abbrev pub is_pending : List ℕ → ℕ → Moment → Bool
is_pending group n (status (shown.Group other m PendingOnline)) = (m == n) && bytes_eq other group
is_pending group n _ = false

abbrev pub moves_told : List Moment → List ℕ → ℕ → Bool
moves_told entries group n = list_any (is_pending group n) entries

abbrev pub group_lines_told : Asking → List Moment → List StatusEntry
group_lines_told a entries = group_lines (config_asked a) (view_asked a) (moves_told entries)

-- the lines are due, and each `why` line is so
abbrev pub ShowsGroups : Asking → List Moment → Type 0
ShowsGroups a entries = Shows a (group_lines_told a entries) entries × AllByRecursion (IsTrue a) (group_lines_told a entries)

abbrev pub Answers : Asking → List Moment → Result Accepted CheckError → Type 0
Answers a entries (Ok (accepted.Query GroupStatus)) = ShowsGroups a entries
Answers a entries (Ok (accepted.Query ResourceStatus)) = Shows a (resource_lines (config_asked a) (view_asked a)) entries
Answers a entries (Ok (accepted.Query QuorumStatus)) = Shows a (quorum_lines (config_asked a).votes (members_asked a) (held_in (start_of a.epoch a.before))) entries
Answers a entries (Ok (accepted.Query (query.Rows table))) = Shows a (table_lines (config_asked a) table) entries
Answers a entries (Err (because.Refused refusal)) = entries ≡ asked a.node a.number ∷ answered a.node a.number (answer.Refused refusal) ∷ []
Answers a entries _ = ⊥

-- ---- each query that the president takes

abbrev pub is_query_in : Option AdminCommand → Bool
is_query_in (Some (Status q)) = true
is_query_in (Some (Rows table)) = true
is_query_in _ = false

-- what is checked of a query: the table alone may be unknown
abbrev pub checked : Asking → AdminCommand → Result Accepted CheckError
checked a command = answer_to (config_asked a) (view_asked a) (members_asked a) (held_in (start_of a.epoch a.before)) 0 command

abbrev pub AnswersWords : Asking → List Moment → Option AdminCommand → Type 0
AnswersWords a entries (Some (Status q)) = Answers a entries (checked a (Status q))
AnswersWords a entries (Some (Rows table)) = Answers a entries (checked a (Rows table))
AnswersWords a entries _ = Unit {0}

abbrev pub AnswersAsked : Groups → List Moment → ℕ → List ℕ → List Moment → Option ℕ → Option Moment → Type 0
AnswersAsked S before n words entries (Some e) (Some (asked m q)) =
    Unless (not ((coordinator e == n) && has_room n (desk_of S n before)))
    (AnswersWords (record { groups = S; epoch = e; before = before; node = n; number = q }) entries (option_and_then S.command (S.cluster.canonical words)))
AnswersAsked S before n words entries _ _ = Unit {0}

abbrev pub IsQueryAnswered : Groups → List Moment → Moment → List Moment → Type 0
IsQueryAnswered S before (Said (line.Event (event.Command n words))) entries =
    AnswersAsked S before n words entries (member_of n before) (slice_get entries 0)
IsQueryAnswered S before _ entries = Unit {0}

abbrev pub QueriesAnswered : Groups → List Moment → Type 0
QueriesAnswered S moments = EachEvent (IsQueryAnswered S) moments
