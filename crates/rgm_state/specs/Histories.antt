-- Start failures and moves, as they are charged to groups.
use Rattle.std.specs.Prelude.{ℕ, ◌-◌, List, [], ◌∷◌, ◌++◌, drop, length, Option, None, Some, if◌then◌else◌}
use Rattle.rg_props.specs.Table.{GroupTable}
use Rattle.rg_view.specs.declared.histories.GroupAt.{GroupAt}
use Rattle.rg_view.specs.declared.view.GroupView.{GroupView}
use Rattle.rg_view.specs.Histories.{histories_with, history_at}
use Rattle.rg_view.specs.Marks.{marks_with}
use Rattle.rgm_state.specs.Standing.{is_up}

abbrev pub failures_in : Option GroupAt → List ℕ
failures_in None = []
failures_in (Some h) = h.failures

abbrev pub moves_in : Option GroupAt → List ℕ
moves_in None = []
moves_in (Some h) = h.moves

-- One more start failure: the last two are kept, as a member keeps them.
abbrev pub one_more : List ℕ → ℕ → List ℕ
one_more seconds now = drop (length seconds - 1) seconds ++ now ∷ []

-- the group's history on the node with a start failure at this second
abbrev pub failed_again : List ℕ → ℕ → ℕ → Option GroupAt → GroupAt
failed_again g n now h = record { group = g; node = n; failures = one_more (failures_in h) now; moves = moves_in h }

-- and with a move, of which the last is kept
abbrev pub moved_again : List ℕ → ℕ → ℕ → Option GroupAt → GroupAt
moved_again g n now h = record { group = g; node = n; failures = failures_in h; moves = now ∷ [] }

-- The group leaves the node, where it is up there.
abbrev pub with_leaving : GroupTable → List ℕ → ℕ → GroupView → GroupView
with_leaving t g n v = if is_up t v.resources g n then record v { leaving = marks_with v.leaving g n } else v

-- A start failure on the node, charged to this group: it leaves the node.
abbrev pub with_failure : GroupTable → ℕ → ℕ → GroupView → Option (List ℕ) → GroupView
with_failure t n now v None = v
with_failure t n now v (Some g) = with_leaving t g n (record v { groups = histories_with v.groups (failed_again g n now (history_at v.groups g n)) })

-- a move away from the node, charged to this group
abbrev pub with_move : GroupTable → ℕ → ℕ → GroupView → Option (List ℕ) → GroupView
with_move t n now v None = v
with_move t n now v (Some g) = with_leaving t g n (record v { groups = histories_with v.groups (moved_again g n now (history_at v.groups g n)) })
