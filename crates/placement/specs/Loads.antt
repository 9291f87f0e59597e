-- The loads that other groups bring to a node while the group is decided. The view lists the goals in the order in which groups are decided.
use Rattle.std.specs.Prelude.{ℕ, nat_lt, Bool, false, ◌||◌, ◌&&◌, List, [], ◌++◌, length, Option, None, Some, if◌then◌else◌}
use Rattle.std.specs.List.{filter, flat_map, before_first, after_first}
use Rattle.std.specs.Option.{option_map}
use Rattle.std.specs.Str.{bytes_eq}
use Rattle.cl_base.specs.Sets.{has}
use Rattle.load_limits.specs.declared.limits.Factor.{Factor}
use Rattle.load_limits.specs.declared.limits.Limit.{Limit}
use Rattle.load_limits.specs.Loads.{first_over_of, is_over_soft}
use Rattle.rg_props.specs.declared.group.Group.{Group}
use Rattle.rg_props.specs.Lookups.{named}
use Rattle.rg_props.specs.Table.{GroupTable}
use Rattle.rg_view.specs.declared.view.GroupView.{GroupView}
use Rattle.placement.specs.Resources.{is_stop_failed}

abbrev pub is_suspended : Option Group → Bool
is_suspended None = false
is_suspended (Some g) = g.suspended

-- The group is fixed: it is stop-failed on a member, or suspended. Its goal rests on no other group's.
unfoldable pub is_fixed : GroupTable → GroupView → List ℕ → Bool
is_fixed t v name = is_suspended (named t.groups name) || is_stop_failed t v name

abbrev pub factors_of : Option Group → List Factor
factors_of None = []
factors_of (Some g) = g.factors

-- what a group with its goal brings to the node
abbrev pub brought : GroupTable → ℕ → List ℕ × ℕ → List Factor
brought t n e = if has e.1 n then factors_of (named t.groups e.0) else []

-- the same, where the group is fixed
abbrev pub brought_fixed : GroupTable → GroupView → ℕ → List ℕ × ℕ → List Factor
brought_fixed t v n e = if has e.1 n && is_fixed t v e.0 then factors_of (named t.groups e.0) else []

-- the entry is the group's
abbrev pub is_entry_of : List ℕ → List ℕ × ℕ → Bool
is_entry_of name e = bytes_eq e.0 name

-- what counts on the node: that of each group decided earlier, and that of each fixed group behind
unfoldable pub counted : GroupTable → GroupView → List ℕ → ℕ → List Factor
counted t v name n =
    flat_map (brought t n) (before_first (is_entry_of name) v.goals) ++ flat_map (brought_fixed t v n) (after_first (is_entry_of name) v.goals)

-- the first limit of the node whose hard bound the group would pass
unfoldable pub passed_limit : GroupTable → List Limit → GroupView → List ℕ → Group → ℕ → Option (List ℕ)
passed_limit t limits v name g n = option_map (λ l. l.name) (first_over_of limits n (counted t v name n) g.factors)

-- how many limits of the node the group would bring above their soft bound
unfoldable pub soft_passed : GroupTable → List Limit → GroupView → List ℕ → Group → ℕ → ℕ
soft_passed t limits v name g n = length (filter (is_over_soft n (counted t v name n) g.factors) limits)

-- The same place by place: whether the group at a place counts, where the one that is decided stands at `own`, and what it brings.
abbrev pub counts_at : ℕ → ℕ → Bool → Bool
counts_at own place fixed = nat_lt place own || (nat_lt own place && fixed)

abbrev pub brought_at : GroupTable → GroupView → ℕ → ℕ → ℕ → List ℕ × ℕ → List Factor
brought_at t v n own place e = if has e.1 n && counts_at own place (is_fixed t v e.0) then factors_of (named t.groups e.0) else []
