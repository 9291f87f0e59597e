-- The load of a node: that of each group that is up there.
use Rattle.std.specs.Prelude.{ℕ, Bool, not, ◌&&◌, List, [], if◌then◌else◌}
use Rattle.std.specs.List.{flat_map, list_any}
use Rattle.std.specs.Str.{bytes_eq}
use Rattle.load_limits.specs.declared.limits.Factor.{Factor}
use Rattle.load_limits.specs.declared.limits.Limit.{Limit}
use Rattle.load_limits.specs.Loads.{is_over}
use Rattle.rg_props.specs.declared.group.Group.{Group}
use Rattle.rg_props.specs.Table.{GroupTable}
use Rattle.rg_view.specs.declared.view.GroupView.{GroupView}
use Rattle.sequencer.specs.Standing.{is_group_up}

-- what another group brings to the node, where it is up there
abbrev pub brought : GroupTable → GroupView → List ℕ → ℕ → List ℕ × Group → List Factor
brought t v own n e = if not (bytes_eq e.0 own) && is_group_up t v e.0 n then e.1.factors else []

unfoldable pub others_load : GroupTable → GroupView → List ℕ → ℕ → List Factor
others_load t v own n = flat_map (brought t v own n) t.groups

-- the group with these factors would pass a hard limit of the node
unfoldable pub is_too_much : GroupTable → List Limit → GroupView → List ℕ → List Factor → ℕ → Bool
is_too_much t limits v own factors n = list_any (is_over n (others_load t v own n) factors) limits
