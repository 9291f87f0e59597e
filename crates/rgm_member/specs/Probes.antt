-- What a probe leads to.
use Rattle.std.specs.Prelude.{ℕ, ◌-◌, Bool, not, List, [], ◌∷◌, ◌++◌, drop, length, Option, None, Some, if◌then◌else◌}
use Rattle.cl_base.specs.declared.history.History.{History}
use Rattle.restart_policy.specs.declared.policy.ProbeRule.{ProbeRule}
use Rattle.restart_policy.specs.declared.policy.ProbeAction.{ProbeAction}
use Rattle.restart_policy.specs.declared.policy.ProbeAction.TheVariants.{Restart, Move, Logged}
use Rattle.restart_policy.specs.Policy.{action_of}
use Rattle.rg_props.specs.Lookups.{named}
use Rattle.rg_props.specs.declared.group.Resource.{Resource}
use Rattle.ccr_tables.specs.State.{ConfigState}
use Rattle.rgm_member.specs.declared.probed.Probed.{Probed}
use Rattle.rgm_member.specs.declared.probed.Probed.TheVariants.{NoMonitor, Good, Failed}
use Rattle.rgm_member.specs.Outcomes.{with_move}
use Rattle.rgm_member.specs.Settings.{charged, suspended_in}
use Rattle.rgm_member.specs.State.{WorkerState, marks_of, put, restarts_of}

-- by what a failed probe of a resource is judged
abbrev pub rule_of : ConfigState → Resource → ProbeRule
rule_of c x = record { suspended = suspended_in c (Some x); mode = x.mode; count = x.retry_count; interval = x.retry_interval }

-- nothing but restarts
abbrev pub restarts_alone : List ℕ → History
restarts_alone restarts = record { failures = []; moves = []; restarts = restarts }

-- What a failed probe leads to, by the restarts so far. That of a resource which the configuration lacks is logged.
abbrev pub action_in : ConfigState → Option Resource → List ℕ → ℕ → ProbeAction
action_in c None restarts now = Logged
action_in c (Some x) restarts now = action_of (rule_of c x) (restarts_alone restarts) now

abbrev pub failed_probe : WorkerState → ConfigState → List ℕ → ℕ → ProbeAction
failed_probe w c r now = action_in c (named c.groups.resources r) (restarts_of w.restarts r) now

-- A resource without a monitor is not probed. A good probe is good.
abbrev pub probed : WorkerState → ConfigState → List ℕ → Bool → ℕ → Probed
probed w c r good now =
    if not (marks_of w.resources r).mon then NoMonitor
    else if good then Good
    else Failed (failed_probe w c r now)

-- how many restarts of a resource are kept, with the newest
abbrev pub most_restarts : ℕ
most_restarts = 1000

-- one more restart; the oldest go
abbrev pub one_more_restart : List ℕ → ℕ → List ℕ
one_more_restart restarts now = drop (length restarts - (most_restarts - 1)) restarts ++ now ∷ []

abbrev pub restarts_with : List (List ℕ × List ℕ) → List ℕ → ℕ → List (List ℕ × List ℕ)
restarts_with restarts r now = put restarts r (one_more_restart (restarts_of restarts r) now)

-- what a failed probe records: a restart or a move
abbrev pub recorded : WorkerState → ConfigState → List ℕ → ℕ → ProbeAction → WorkerState
recorded w c r now Restart = record w { restarts = restarts_with w.restarts r now }
recorded w c r now Move = record w { groups = with_move w.groups now (charged c r) }
recorded w c r now Logged = w

abbrev pub after_probe : WorkerState → ConfigState → List ℕ → ℕ → Probed → WorkerState
after_probe w c r now NoMonitor = w
after_probe w c r now Good = w
after_probe w c r now (Failed action) = recorded w c r now action
