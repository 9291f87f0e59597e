-- What is remembered of a group on a node: when it failed to start there, and when it was moved away.
use Rattle.std.specs.Prelude.{ℕ, Bool, false, List, Option, None, Some}
use Rattle.std.specs.List.{list_any}
use Rattle.restart_policy.specs.Policy.{is_recent, recent_of}
use Rattle.rg_view.specs.declared.histories.GroupAt.{GroupAt}
use Rattle.rg_view.specs.declared.view.GroupView.{GroupView}
use Rattle.rg_view.specs.Histories.{history_at}

-- how many of the failures to start lie within the interval
abbrev pub failures_in : Option GroupAt → ℕ → ℕ → ℕ
failures_in None interval now = 0
failures_in (Some h) interval now = recent_of h.failures interval now

abbrev pub failures_at : GroupView → List ℕ → ℕ → ℕ → ℕ
failures_at v group interval n = failures_in (history_at v.groups group n) interval v.now

-- whether one of the moves does
abbrev pub moved_in : Option GroupAt → ℕ → ℕ → Bool
moved_in None interval now = false
moved_in (Some h) interval now = list_any (λ second. is_recent interval now second) h.moves

abbrev pub was_moved : GroupView → List ℕ → ℕ → ℕ → Bool
was_moved v group interval n = moved_in (history_at v.groups group n) interval v.now
