-- What the outcome of a method leaves on the node.
use Rattle.std.specs.Prelude.{ℕ, Bool, true, false, not, ◌&&◌, List, Option, None, Some, if◌then◌else◌}
use Rattle.cl_base.specs.declared.history.FailoverMode.{FailoverMode}
use Rattle.cl_base.specs.declared.history.FailoverMode.TheVariants as mode
use Rattle.cl_base.specs.declared.method.Method.{Method}
use Rattle.cl_base.specs.declared.method.Method.TheVariants.{PrenetStart, Start, MonitorStart, MonitorCheck, MonitorStop, Stop, PostnetStop, Validate, Init, Fini, Boot, Update}
use Rattle.cl_base.specs.declared.method.Outcome.{Outcome}
use Rattle.cl_base.specs.declared.method.Outcome.TheVariants.{Success, Failure, Timeout}
use Rattle.wire.specs.declared.report.Marks.{Marks}
use Rattle.wire.specs.declared.report.LastFailures.{LastFailures}
use Rattle.wire.specs.declared.report.LastFailures.TheVariants.{Never, Once, Twice}
use Rattle.ccr_tables.specs.State.{ConfigState}
use Rattle.rgm_member.specs.declared.past.Past.{Past}
use Rattle.rgm_member.specs.Settings.{has_postnet_stop, mode_of, is_suspended, charged}
use Rattle.rgm_member.specs.State.{WorkerState, put, marks_of, past_of}

-- A success sets or clears a flag. START ends the marks faulted and monitor failed; STOP clears pre too where the type has no POSTNET_STOP.
abbrev pub after_success : Bool → Method → Marks → Marks
after_success postnet PrenetStart m = record m { pre = true }
after_success postnet Start m = record m { run = true; faulted = false; monitor_failed = false }
after_success postnet MonitorStart m = record m { mon = true }
after_success postnet MonitorCheck m = m
after_success postnet MonitorStop m = record m { mon = false }
after_success postnet Stop m = record m { run = false; pre = m.pre && postnet }
after_success postnet PostnetStop m = record m { pre = false }
after_success postnet Validate m = m
after_success postnet Init m = m
after_success postnet Fini m = m
after_success postnet Boot m = m
after_success postnet Update m = m

-- A failure changes no flag and sets a mark. One that is charged to the group as a start failure sets none.
abbrev pub after_failure : Bool → Method → Marks → Marks
after_failure charged PrenetStart m = if charged then m else record m { faulted = true }
after_failure charged Start m = if charged then m else record m { faulted = true }
after_failure charged MonitorStart m = record m { monitor_failed = true }
after_failure charged MonitorCheck m = m
after_failure charged MonitorStop m = record m { stop_failed = true }
after_failure charged Stop m = record m { stop_failed = true }
after_failure charged PostnetStop m = record m { stop_failed = true }
after_failure charged Validate m = m
after_failure charged Init m = m
after_failure charged Fini m = m
after_failure charged Boot m = m
after_failure charged Update m = m

abbrev pub starts : Method → Bool
starts PrenetStart = true
starts Start = true
starts MonitorStart = false
starts MonitorCheck = false
starts MonitorStop = false
starts Stop = false
starts PostnetStop = false
starts Validate = false
starts Init = false
starts Fini = false
starts Boot = false
starts Update = false

-- whether a failure to start takes the group away
abbrev pub takes_away : FailoverMode → Bool
takes_away mode.None = false
takes_away mode.Soft = true
takes_away mode.Hard = true
takes_away mode.RestartOnly = false
takes_away mode.LogOnly = false

abbrev pub is_success : Outcome → Bool
is_success Success = true
is_success Failure = false
is_success Timeout = false

-- PRENET_START or START that did not succeed, under SOFT or HARD, in a group that is not suspended: a start failure of the group
abbrev pub is_start_failure : ConfigState → List ℕ → Method → Outcome → Bool
is_start_failure c r method outcome = not (is_success outcome) && starts method && takes_away (mode_of c r) && not (is_suspended c r)

abbrev pub stops : Method → Bool
stops PrenetStart = false
stops Start = false
stops MonitorStart = false
stops MonitorCheck = false
stops MonitorStop = true
stops Stop = true
stops PostnetStop = true
stops Validate = false
stops Init = false
stops Fini = false
stops Boot = false
stops Update = false

abbrev pub is_hard : FailoverMode → Bool
is_hard mode.None = false
is_hard mode.Soft = false
is_hard mode.Hard = true
is_hard mode.RestartOnly = false
is_hard mode.LogOnly = false

-- MONITOR_STOP, STOP or POSTNET_STOP that did not succeed, under HARD: the node panics
abbrev pub is_fatal : ConfigState → List ℕ → Method → Outcome → Bool
is_fatal c r method outcome = not (is_success outcome) && stops method && is_hard (mode_of c r)

abbrev pub marks_after : ConfigState → List ℕ → Method → Outcome → Marks → Marks
marks_after c r method outcome m =
    if is_success outcome then after_success (has_postnet_stop c r) method m
    else after_failure (is_start_failure c r method outcome) method m

-- one more start failure; the last two are kept
abbrev pub one_more : ℕ → LastFailures → LastFailures
one_more now Never = Once now
one_more now (Once first) = Twice first now
one_more now (Twice first second) = Twice second now

abbrev pub with_failure : List (List ℕ × Past) → ℕ → Option (List ℕ) → List (List ℕ × Past)
with_failure groups now None = groups
with_failure groups now (Some g) = put groups g (record (past_of groups g) { failures = one_more now (past_of groups g).failures })

-- a move; the last is kept
abbrev pub with_move : List (List ℕ × Past) → ℕ → Option (List ℕ) → List (List ℕ × Past)
with_move groups now None = groups
with_move groups now (Some g) = put groups g (record (past_of groups g) { moved = Some now })

-- The method of the resource of this name ended so: the flags and marks of resources then. Where the text was no name, nothing is kept.
abbrev pub resources_after : ConfigState → Option (List ℕ) → Method → Outcome → List (List ℕ × Marks) → List (List ℕ × Marks)
resources_after c None method outcome resources = resources
resources_after c (Some r) method outcome resources = put resources r (marks_after c r method outcome (marks_of resources r))

-- and what is kept of groups then, at the second now
abbrev pub groups_after : ConfigState → Option (List ℕ) → Method → Outcome → ℕ → List (List ℕ × Past) → List (List ℕ × Past)
groups_after c None method outcome now groups = groups
groups_after c (Some r) method outcome now groups = if is_start_failure c r method outcome then with_failure groups now (charged c r) else groups

abbrev pub after_outcome : WorkerState → ConfigState → Option (List ℕ) → Method → Outcome → ℕ → WorkerState
after_outcome w c name method outcome now = record w {
  resources = resources_after c name method outcome w.resources;
  groups = groups_after c name method outcome now w.groups;
}

-- the stop-failed mark of the resource of this name is cleared
abbrev pub resources_cleared : Option (List ℕ) → List (List ℕ × Marks) → List (List ℕ × Marks)
resources_cleared None resources = resources
resources_cleared (Some r) resources = put resources r (record (marks_of resources r) { stop_failed = false })
