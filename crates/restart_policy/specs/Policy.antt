-- What a failed probe leads to, and which failures and moves still count: decided by counting seconds.
use Rattle.std.specs.Prelude.{ℕ, ◌-◌, nat_lt, Bool, true, false, ◌||◌, List, count_by, if◌then◌else◌}
use Rattle.std.specs.List.{list_any}
use Rattle.cl_base.specs.declared.history.FailoverMode.{FailoverMode}
use Rattle.cl_base.specs.declared.history.FailoverMode.TheVariants.{None, Soft, Hard, RestartOnly, LogOnly}
use Rattle.cl_base.specs.declared.history.History.{History}
use Rattle.restart_policy.specs.declared.policy.ProbeRule.{ProbeRule}
use Rattle.restart_policy.specs.declared.policy.ProbeAction.{ProbeAction}
use Rattle.restart_policy.specs.declared.policy.ProbeAction.TheVariants.{Restart, Move, Logged}

-- A second counts as long as its distance to now is below the interval. `-` stops at 0, so a second above now counts as now.
abbrev pub is_recent : ℕ → ℕ → ℕ → Bool
is_recent interval now second = nat_lt (now - second) interval

abbrev pub recent_of : List ℕ → ℕ → ℕ → ℕ
recent_of seconds interval now = count_by (λ second. is_recent interval now second) seconds

abbrev pub is_log_only : FailoverMode → Bool
is_log_only LogOnly = true
is_log_only None = false
is_log_only Soft = false
is_log_only Hard = false
is_log_only RestartOnly = false

-- what is left where no further restart is due
abbrev pub without_restart : FailoverMode → ProbeAction
without_restart None = Move
without_restart Soft = Move
without_restart Hard = Move
without_restart RestartOnly = Logged
without_restart LogOnly = Logged

-- A suspended group and LOG_ONLY: the probe is logged. Fewer recent restarts than the rule allows: one more. Else RESTART_ONLY: it
-- is logged; NONE, SOFT, HARD: a move.
abbrev pub action_of : ProbeRule → History → ℕ → ProbeAction
action_of rule h now =
    if rule.suspended || is_log_only rule.mode then Logged
    else if nat_lt (recent_of h.restarts rule.interval now) rule.count then Restart
    else without_restart rule.mode

abbrev pub failures_of : History → ℕ → ℕ → ℕ
failures_of h interval now = recent_of h.failures interval now

-- whether one of the moves is recent
abbrev pub has_moved : History → ℕ → ℕ → Bool
has_moved h interval now = list_any (λ second. is_recent interval now second) h.moves
